use Rattle.workers.proofs.Records.{oldest_in}
use Rattle.workers.proofs.record.WorkerRecord.oldest_place.Goals as goal

pub returns : goal.returns
returns g c = oldest_in g.O.OrderKind.shown c.args.self.now c.oldest_place.result c.oldest_place.ensures
