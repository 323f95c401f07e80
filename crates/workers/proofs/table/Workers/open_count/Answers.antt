use Rattle.std.proofs.Common.{◌≡◌, ℕ, Bool, true, false, cond, get_or, ◌+◌, ◌<◌, ◌≤◌, length, vec_items, sym, refl, ap, ◌∙◌, arith}
use mir.Val.{bool_byte}
use Rattle.model.specs.State.{Worker, is_on}
use Rattle.workers.proofs.Tables.{sum_next, sum_whole}
use Rattle.workers.proofs.table.Workers.open_count.Goals as goal

abbrev one_if_open : Worker → ℕ
one_if_open x = cond (is_on x.status) 1 0

-- a yes counts as one
counted : (n : ℕ) (answer is : Bool) → n ≡ bool_byte answer → answer ≡ is → (n ≡ cond is 1 0) × (n ≤ 1)
counted n answer is e same = (e ∙ (as_byte answer).0 ∙ ap (λ b. cond b 1 0) same, omega (arith, e, (as_byte answer).1))
  where
    as_byte : (b : Bool) → (bool_byte b ≡ cond b 1 0) × (bool_byte b ≤ 1)
    as_byte true = (refl, omega arith)
    as_byte false = (refl, omega arith)

pub loop-p-init : goal.loop-p-init
loop-p-init c =
    let one = counted c.from-count.result c.is_open.result (is_on c.args.self.now.joint.status) c.from-count.ensures c.is_open.ensures in
    (omega (arith, one.0), one.1)

pub overflow_add-count : goal.overflow_add-count
overflow_add-count c =
    let one = counted c.from-count-in-loop-p.result _ (is_on c.index-worker.result.now.status) c.from-count-in-loop-p.ensures c.is_open-in-loop-p.ensures in
    omega (arith, one.1, c.loop-p.invariant.1, c.loop-p-test.true)

pub loop-p-preserved : goal.loop-p-preserved
loop-p-preserved c =
    let t = c.args.self.now in
    let there : c.loop-p.p < length (vec_items t.plain) = omega (arith, c.loop-p-test.true, t.plain.ok.0, t.manned) in
    let more = sum_next one_if_open t c.loop-p.p c.index-worker.result.now there c.index-worker.ensures in
    let one = counted c.from-count-in-loop-p.result _ (is_on c.index-worker.result.now.status) c.from-count-in-loop-p.ensures c.is_open-in-loop-p.ensures in
    (omega (arith, more, c.loop-p.invariant.0, one.0), omega (arith, c.loop-p.invariant.1, one.1))

pub returns : goal.returns
returns c = c.loop-p.invariant.0 ∙ sum_whole one_if_open c.args.self.now c.loop-p.p (omega (arith, c.loop-p-test.false))
