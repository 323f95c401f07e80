use Rattle.std.proofs.Common.{◌+◌, vec_len, arith}
use Rattle.std.proofs.lemmas.List.{length_push}
use Rattle.model.specs.State.{Order, worker_at}
use Rattle.model.specs.Model.{pushed}
use Rattle.workers.proofs.Tables.{workers-length}
use Rattle.workers.specs.Orders.{plain_needs}
use Rattle.workers.specs.Views.{workers_of}
use Rattle.store.proofs.Fitting.{fits_at, pushed_fits, all_fit, all_counted}
use Rattle.store.proofs.Reading.{row_count}
use Rattle.store.proofs.store.Store.assign_plain.Goals as goal

pub invariant_of-self : goal.invariant_of-self
invariant_of-self c =
    let s = c.args.self.now in
    let p = c.args.p in
    let ws = workers_of s.workers in
    let o : Order = record { number = s.assigned + 1; needs = plain_needs c.plain_need-need.result } in
    let long = workers-length s.workers in
    let rows = row_count s.rows in
    let n = vec_len s.rows in
    let (a, b) = fits_at n ws p (omega (arith, long, c.push_plain.ensures.low)) s.fit in
    let after = workers_of c.push_plain.new.self in
    let counted = all_counted ws after p (pushed o (worker_at ws p)) c.push_plain.ensures.after (omega (arith, long, c.push_plain.ensures.low)) in
    let fit = all_fit ws after p (pushed o (worker_at ws p)) c.push_plain.ensures.after n s.fit (pushed_fits n (worker_at ws p) o a b (omega arith) (omega (arith, c.requires.left))) in
    record { reserved = s.reserved; short = s.short; handed = omega (arith, c.requires.left); fit = fit; counted = omega (arith, counted, s.counted, length_push (worker_at ws p).orders o) }
