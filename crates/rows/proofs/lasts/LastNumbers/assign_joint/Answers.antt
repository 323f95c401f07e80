use Rattle.std.proofs.Common.{ap, ◌∙◌, List, ℕ}
use Rattle.std.proofs.lemmas.List.{set-get_or}
use Rattle.rows.proofs.Moving.{none, joints_of, plains_of, moved_none, moved_yes, moved_no, moved_all}
use Rattle.rows.specs.Lasts.{LastLists, joints_after_of}
use Rattle.rows.proofs.lasts.LastNumbers.assign_joint.Goals as goal
use Rattle.rows.proofs.lasts.LastNumbers.assign_joint.Goals.{then-touched-p, else-touched-p}

pub loop-p-init : goal.loop-p-init
loop-p-init c = moved_none c.args.touched.now c.args.number c.self.inside.by_partition c.self.invariant

pub loop-p-preserved : goal.loop-p-preserved
loop-p-preserved c =
    elim c.if-touched-p.branch [
      | then-touched-p w ↦ rw w.last-items-is (moved_yes c.args.touched.now c.args.number c.self.inside.by_partition c.loop-p.last-items c.loop-p.p c.loop-p.invariant c.loop-p-test.true w.if-touched-p.true)
      | else-touched-p w ↦ rw (w.last-items-is ∙ set-get_or c.loop-p.last-items c.loop-p.p none) (moved_no c.args.touched.now c.args.number c.self.inside.by_partition c.loop-p.last-items c.loop-p.p c.loop-p.invariant w.if-touched-p.false)
    ]

pub invariant_of-self : goal.invariant_of-self
invariant_of-self c = c.loop-p.invariant.long

pub returns : goal.returns
returns c =
    ap (λ (js : List ℕ). record { joints = js; plains = plains_of c.loop-p.last-items }) (moved_all c.args.touched.now c.args.number c.self.inside.by_partition c.loop-p.last-items c.loop-p.p c.loop-p.invariant c.loop-p-test.false)
    ∙ ap (λ (ps : List ℕ). record { joints = joints_after_of c.args.touched.now (joints_of c.self.inside.by_partition) c.args.number; plains = ps }) c.loop-p.invariant.plains
    ∙ ap (λ (x : LastLists). record { joints = joints_after_of c.args.touched.now x.joints c.args.number; plains = x.plains }) c.self.view_is
