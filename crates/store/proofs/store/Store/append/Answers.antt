use Rattle.std.proofs.Common.{vec_len, arith}
use Rattle.store.proofs.Fitting.{fits_more}
use Rattle.store.proofs.Reading.{row_count}
use Rattle.store.proofs.store.Store.append.Goals as goal

pub invariant_of-self : goal.invariant_of-self
invariant_of-self c =
    let s = c.args.self.now in
    let n = c.push_reserved.ensures.len in
    record {
      reserved = omega (arith, c.push_reserved.ensures.capacity, s.reserved);
      short = omega (arith, n, c.requires, row_count s.rows);
      handed = omega (arith, n, s.handed);
      fit = fits_more (vec_len s.rows) _ _ (omega (arith, n)) s.fit;
      counted = s.counted;
    }
