use Rattle.std.proofs.Common.{ℕ, get_or, set, ap, ◌∙◌, arith, length-set}
use Rattle.std.proofs.lemmas.List.FromFn.{fill_by_all}
use Rattle.std.proofs.lemmas.List.Edits.{fill_by_more}
use Rattle.rows.specs.Lasts.{joint_need_of}
use Rattle.rows.proofs.lasts.LastNumbers.joint_needs.Goals as goal

pub loop-v-preserved : goal.loop-v-preserved
loop-v-preserved c = (
  length-set _ _ _ ∙ c.loop-v.invariant.0,
  λ k l.
      ap (λ (x : ℕ). get_or (set c.loop-v.need-items c.loop-v.v x) k 0) c.joint_need.ensures
      ∙ fill_by_more (joint_need_of c.args.touched.now c.args.self.now.plains) c.loop-v.need-items c.loop-v.v 0 (omega (arith, c.loop-v-test.true, c.loop-v.invariant.0)) c.loop-v.invariant.1 k l,
)

pub returns : goal.returns
returns c = fill_by_all (joint_need_of c.args.touched.now c.args.self.now.plains) c.loop-v.need-items 16 0 c.loop-v.invariant.0 (λ k l. c.loop-v.invariant.1 k (omega (arith, c.loop-v-test.false)))
