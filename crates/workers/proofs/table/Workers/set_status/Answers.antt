use Rattle.std.proofs.Common.{arith}
use Rattle.model.specs.State.{in_status}
use Rattle.workers.proofs.Tables.{wrote_plain}
use Rattle.workers.proofs.table.Workers.set_status.Goals as goal

pub returns-in_default : goal.returns-in_default
returns-in_default c = wrote_plain c.args.self.now c.args.w c.index.result c.index.ensures.value (omega arith) c.index.ensures.low c.index_mut.result.now c.index_mut.ensures.value c.set_status-in_default.new.self (in_status c.args.status) c.set_status-in_default.ensures
