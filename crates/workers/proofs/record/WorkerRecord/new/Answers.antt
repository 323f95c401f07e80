use Rattle.std.proofs.Common.{map, ap}
use Rattle.model.specs.declared.status.Status.TheVariants.{Idle}
use Rattle.workers.proofs.Records.{held_none}
use Rattle.workers.proofs.record.WorkerRecord.new.Goals as goal

pub returns : goal.returns
returns g c = ap (λ xs. record { status = Idle; posted = 0; orders = map g.O.OrderKind.shown xs }) (held_none _ c.new.result c.new.ensures.len)
