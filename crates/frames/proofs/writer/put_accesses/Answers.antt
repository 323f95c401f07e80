use Rattle.std.proofs.Common.{arith}
use Rattle.terms.specs.Accesses.{access}
use Rattle.frames.proofs.WriteLaws.{access_more, fit_more}
use Rattle.frames.proofs.writer.put_accesses.Goals as goal

pub loop-access-preserved : goal.loop-access-preserved
loop-access-preserved c = (
  omega (arith, c.loop-access.invariant.0, c.put-end.ensures.value),
  access_more c.args.out.now c.args.accesses.now c.loop-access.access-index c.args.at c.loop-access.end c.loop-access.out _ _ (access 0 0) (omega arith) c.loop-access-test.true c.loop-access.invariant.0 c.loop-access.invariant.1 c.three_bytes.ensures.bytes c.put-end.ensures.after,
  fit_more _ _ (access 0 0) c.loop-access-test.true c.loop-access.invariant.2 c.three_bytes.ensures.fit,
)
