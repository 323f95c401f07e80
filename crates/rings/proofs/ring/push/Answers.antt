use Rattle.std.proofs.Common.{sym, arith, rules}
use Rattle.std.proofs.lemmas.Bool.{lt-ltb, le-ltb}
use Rattle.rings.proofs.Around.{around-length, around_push}
use Rattle.rings.proofs.ring.push.Goals as goal

pub returns-then-places-eq-CAPACITY : goal.returns-then-places-eq-CAPACITY
returns-then-places-eq-CAPACITY g c =
    let long = around-length c.args.row.now (omega arith) c.args.places.now.first c.args.places.now.len (omega arith) (omega arith) in
    record { answer = sym (le-ltb _ _ (omega arith)); after = search rules; kept = (search rules, search rules) }

pub returns : goal.returns
returns g c =
    let long = around-length c.args.row.now (omega arith) c.args.places.now.first c.args.places.now.len (omega arith) (omega arith) in
    record {
      answer = sym (lt-ltb _ _ (omega arith));
      after = around_push c.args.row.now (omega arith) c.args.places.now.first c.args.places.now.len c.args.entry (omega arith) (omega arith);
      kept = tt;
    }
