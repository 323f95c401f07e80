use Rattle.workers.proofs.Tables.{none_yet}
use Rattle.workers.proofs.table.Workers.new.Goals as goal

pub returns : goal.returns
returns c = none_yet _ _ c.new-joint.ensures c.in_ok-plain.ensures.1
