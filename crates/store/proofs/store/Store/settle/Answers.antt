use Rattle.std.proofs.Common.{◌≡◌, ℕ, true, false, subst, sym, length, vec_len, ap, ◌∙◌, arith}
use Rattle.terms.proofs.Workers.{numbered}
use Rattle.model.specs.State.{State, worker_at, is_empty, is_held_on}
use Rattle.workers.specs.Views.{workers_of}
use Rattle.workers.proofs.Tables.{workers-length}
use Rattle.store.specs.Steps.{with_verdict}
use Rattle.store.specs.declared.store.Store.{Store}
use Rattle.store.proofs.Fitting.{HeldOn, held_on}
use Rattle.store.proofs.Reading.{row_count}
use Rattle.store.proofs.store.Store.settle.Goals as goal

there : (s : Store) (w k : ℕ) → is_held_on k (worker_at (workers_of s.workers) w).status ≡ true → HeldOn (vec_len s.rows) (workers_of s.workers) w k
there s w k e = held_on (vec_len s.rows) (workers_of s.workers) w k (workers-length s.workers) s.fit e

pub mark_commit-requires : goal.mark_commit-requires
mark_commit-requires c =
    let s = c.args.self.now in
    let h = there s c.args.w c.args.number c.requires in
    (h.first, omega (arith, h.last, row_count s.rows))

pub record_verdict-requires : goal.record_verdict-requires
record_verdict-requires c =
    let s = c.args.self.now in
    let h = there s c.args.w c.args.number c.requires in
    (h.first, omega (arith, h.last, row_count s.rows, ap (λ (t : State). length t.rows) c.mark_commit.ensures))

pub close-requires : goal.close-requires
close-requires c =
    let s = c.args.self.now in
    let h = there s c.args.w c.args.number c.requires in
    let is = numbered c.args.w c.in-Some.w (sym c.new.ensures ∙ c.in-Some.is) in
    let same = c.record_verdict.ensures ∙ ap (λ (t : State). with_verdict t c.args.number c.args.commits) c.mark_commit.ensures in
    ap (λ (t : State). is_empty (worker_at t.workers c.in-Some.w).orders) same ∙ subst (λ i. is_empty (worker_at (workers_of s.workers) i).orders ≡ false) is.0 h.some
