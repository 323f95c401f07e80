use Rattle.std.proofs.Common.{vec_len, arith, length-drop}
use Rattle.model.specs.State.{worker_at}
use Rattle.workers.specs.Views.{workers_of}
use Rattle.workers.proofs.Tables.{workers-length}
use Rattle.store.proofs.Fitting.{one_of, fits_at, posting_fits, some_orders, all_fit, all_counted}
use Rattle.store.proofs.store.Store.close.Goals as goal

pub invariant_of-self : goal.invariant_of-self
invariant_of-self c =
    let s = c.args.self.now in
    let ws = workers_of s.workers in
    let long = workers-length s.workers in
    let n = vec_len s.rows in
    let low = one_of ws c.args.w c.requires in
    let f = fits_at n ws c.args.w low s.fit in
    let counted = all_counted ws _ c.args.w _ c.post.ensures low in
    let some = some_orders (worker_at ws c.args.w).orders c.requires in
    record {
      reserved = s.reserved;
      short = s.short;
      handed = s.handed;
      fit = all_fit ws _ c.args.w _ c.post.ensures n s.fit (posting_fits n c.args.number (worker_at ws c.args.w) f.0);
      counted = omega (arith, counted, s.counted, some, length-drop 1 (worker_at ws c.args.w).orders);
    }
