use Rattle.std.proofs.Common.{sym, ◌∙◌, ap}
use Rattle.model.specs.Model.{marking}
use Rattle.rows.specs.Known.{known}
use Rattle.rows.proofs.Marked.{no_access, all_at, marking_more, marking_all}
use Rattle.rows.proofs.marks.Marks.set.Goals as goal

pub set_one-requires : goal.set_one-requires
set_one-requires c = all_at known c.args.accesses.now c.loop-access.access-index no_access c.loop-access-test.true c.requires

pub loop-access-preserved : goal.loop-access-preserved
loop-access-preserved c =
    ap (marking c.args.number _) c.set_one.ensures
    ∙ sym (marking_more c.args.number c.args.accesses.now c.loop-access.access-index no_access c.loop-access.self c.loop-access-test.true)
    ∙ c.loop-access.invariant

pub returns : goal.returns
returns c =
    sym (marking_all c.args.number c.args.accesses.now c.loop-access.access-index c.loop-access.self c.loop-access-test.false)
    ∙ c.loop-access.invariant
