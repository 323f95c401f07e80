use Rattle.std.proofs.Common.{arith}
use Rattle.store.proofs.Reading.{fresh_fit, fresh_count}
use Rattle.store.proofs.store.Store.new.Goals as goal

pub invariant_of-result : goal.invariant_of-result
invariant_of-result c =
    let w = c.in_ok-workers.ensures in
    let r = c.in_ok-rows.ensures in
    record { reserved = r.capacity; short = omega (arith, r.len); handed = omega arith; fit = fresh_fit _ _ w; counted = omega (arith, fresh_count _ w) }
