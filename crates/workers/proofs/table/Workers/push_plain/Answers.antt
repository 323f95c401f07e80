use Rattle.std.proofs.Common.{arith}
use Rattle.model.specs.Model.{pushed}
use Rattle.workers.specs.Orders.{plain_order}
use Rattle.workers.proofs.Tables.{wrote_plain}
use Rattle.workers.proofs.table.Workers.push_plain.Goals as goal

pub returns-clause-after : goal.returns-clause-after
returns-clause-after c = wrote_plain c.args.self.now c.args.p c.index.result c.index.ensures.value (omega (arith, c.index.ensures.value, c.requires.some)) c.index.ensures.low c.index_mut.result.now c.index_mut.ensures.value c.push.new.self (pushed (plain_order c.args.order)) c.push.ensures
