use Rattle.std.proofs.Common.{◌≡◌, ◌≤◌, replicate, vec_items, vec_len, vec_capacity}
use Rattle.model.specs.State.{no_worker}
use Rattle.workers.specs.Views.{plain_workers}
use Rattle.workers.proofs.writes.idle_plain.Given as goal

abbrev pub invariant-loop : goal.invariant-loop
invariant-loop l = (vec_len l.plain ≡ l.counter) × (15 ≤ vec_capacity l.plain) × (plain_workers (vec_items l.plain) ≡ replicate l.counter no_worker)
