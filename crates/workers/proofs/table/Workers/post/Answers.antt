use Rattle.std.proofs.Common.{arith}
use Rattle.model.specs.Model.{posting}
use Rattle.workers.proofs.Tables.{wrote_plain}
use Rattle.workers.proofs.table.Workers.post.Goals as goal

pub returns-in_default : goal.returns-in_default
returns-in_default c = wrote_plain c.args.self.now c.args.w c.index.result c.index.ensures.value (omega arith) c.index.ensures.low c.index_mut.result.now c.index_mut.ensures.value c.post-in_default.new.self (posting c.args.number) c.post-in_default.ensures
