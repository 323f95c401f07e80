use Rattle.std.proofs.Common.{◌≡◌, drop, sym, ap, ◌∙◌, arith}
use Rattle.rings.specs.Rings.{around}
use Rattle.rings.proofs.Around.{around_none, around_tail}
use Rattle.rings.proofs.ring.drop_oldest.Goals as goal

pub returns-then-places-gt0 : goal.returns-then-places-gt0
returns-then-places-gt0 g c =
    around_tail c.args.row.now (omega arith) c.args.places.now.first c.args.places.now.len (omega arith) (omega arith) (omega arith)

pub returns-else-places-gt0 : goal.returns-else-places-gt0
returns-else-places-gt0 g c =
    let none : c.args.places.now.len ≡ 0 = omega arith in
    let empty = ap (around c.args.row.now c.args.places.now.first) none ∙ around_none c.args.row.now (omega arith) c.args.places.now.first (omega arith) in
    empty ∙ sym (ap (drop 1) empty)
