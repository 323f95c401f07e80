use Rattle.std.proofs.Common.{ap, ◌∙◌, arith}
use Rattle.rings.specs.Rings.{around}
use Rattle.rings.proofs.Around.{around-length, around_none, around_head}
use Rattle.rings.proofs.ring.oldest_place.Goals as goal

pub returns-then-places-eq0 : goal.returns-then-places-eq0
returns-then-places-eq0 g c =
    ap (around c.args.row.now c.args.places.first) c.if-places-eq0.true ∙ around_none c.args.row.now (omega arith) c.args.places.first (omega arith)

pub returns : goal.returns
returns g c = record {
  low = omega arith;
  some = omega (arith, around-length c.args.row.now (omega arith) c.args.places.first c.args.places.len (omega arith) (omega arith));
  at = λ d. around_head c.args.row.now (omega arith) c.args.places.first c.args.places.len d (omega arith) (omega arith) (omega arith);
}
