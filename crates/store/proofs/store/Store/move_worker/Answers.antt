use Rattle.std.proofs.Common.{◌≡◌, true, Some, vec_len, subst, sym, ap, ◌∙◌, arith}
use Rattle.terms.proofs.Workers.{numbered}
use Rattle.model.specs.State.{worker_at, in_status}
use Rattle.model.specs.declared.status.Status.{Status}
use Rattle.workers.specs.Moves.{next_status_of}
use Rattle.workers.specs.Views.{workers_of}
use Rattle.workers.proofs.Tables.{workers-length}
use Rattle.store.specs.Fits.{begins_oldest}
use Rattle.store.proofs.Fitting.{fits_at, status_fits_lem, moves_fit, all_fit, all_counted}
use Rattle.store.proofs.store.Store.move_worker.Goals as goal

pub invariant_of-self : goal.invariant_of-self
invariant_of-self c =
    let s = c.args.self.now in
    let w = c.in_ok-w.w in
    let ws = workers_of s.workers in
    let long = workers-length s.workers in
    let n = vec_len s.rows in
    let new = c.in_ok-status.status in
    let is = numbered c.args.w w (sym c.new.ensures ∙ c.in_ok-w.was) in
    let next : next_status_of (worker_at ws w).status c.args.call ≡ Some new =
    ap (λ (x : Status). next_status_of x c.args.call) (sym c.status.ensures) ∙ sym c.next_status.ensures ∙ c.in_ok-status.was in
    let begins = subst (λ i. begins_oldest (worker_at ws i).orders c.args.call ≡ true) is.0 c.requires in
    let (a, b) = fits_at n ws w (omega (arith, long, is)) s.fit in
    let after = workers_of c.set_status.new.self in
    let counted = all_counted ws after w (in_status new (worker_at ws w)) c.set_status.ensures (omega (arith, long, is)) in
    let fit = all_fit ws after w (in_status new (worker_at ws w)) c.set_status.ensures n s.fit (status_fits_lem n (worker_at ws w) new a (moves_fit (worker_at ws w).orders (worker_at ws w).status c.args.call new b begins next)) in
    record { reserved = s.reserved; short = s.short; handed = s.handed; fit = fit; counted = omega (arith, counted, s.counted) }
