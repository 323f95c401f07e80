use Rattle.std.proofs.Common.{sym, arith}
use Rattle.rings.proofs.Around.{around-length}
use Rattle.rings.proofs.ring.held_count.Goals as goal

pub returns : goal.returns
returns g c = record {
  value = sym (around-length c.args.row.now (omega arith) c.args.places.first c.args.places.len (omega arith) (omega arith));
  bound = omega arith;
}
