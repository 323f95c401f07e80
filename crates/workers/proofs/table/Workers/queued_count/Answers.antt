use Rattle.std.proofs.Common.{◌≡◌, get_or, ◌<◌, length, vec_items, sym, ap, ◌∙◌, arith}
use Rattle.model.specs.Model.{queued_count_of}
use Rattle.workers.proofs.Tables.{sum_next, sum_whole}
use Rattle.workers.proofs.table.Workers.queued_count.Goals as goal

pub loop-worker-preserved : goal.loop-worker-preserved
loop-worker-preserved c =
    let t = c.args.self.now in
    let there : c.loop-worker.worker-index < length (vec_items t.plain) = omega (arith, c.loop-worker-test.true, c.deref-worker-items.ensures.len) in
    let is = c.worker-item.is ∙ ap (λ xs. get_or xs c.loop-worker.worker-index c.worker-item.result) c.deref-worker-items.ensures.value in
    let more = sum_next queued_count_of t c.loop-worker.worker-index c.worker-item.result there is in
    (omega (arith, more, c.loop-worker.invariant.0, c.queued_count-count-in-loop-worker.ensures.value), omega (arith, c.loop-worker.invariant.1, c.queued_count-count-in-loop-worker.ensures.bound))

pub returns : goal.returns
returns c =
    let t = c.args.self.now in
    c.loop-worker.invariant.0 ∙ sum_whole queued_count_of t c.loop-worker.worker-index (omega (arith, c.loop-worker-test.false, c.deref-worker-items.ensures.len, t.manned))
