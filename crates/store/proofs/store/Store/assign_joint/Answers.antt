use Rattle.std.proofs.Common.{◌≡◌, ℕ, ◌+◌, List, set, vec_len, ap, ◌∙◌, arith}
use Rattle.std.proofs.lemmas.List.{length_push, set-get_or}
use Rattle.model.specs.State.{Order, Worker, worker_at}
use Rattle.model.specs.Model.{pushed}
use Rattle.rows.specs.Lasts.{LastLists, joints_after_of, joint_needs_of}
use Rattle.workers.proofs.Tables.{workers-length}
use Rattle.workers.specs.Views.{workers_of}
use Rattle.store.specs.Views.{view}
use Rattle.store.proofs.Fitting.{fits_at, pushed_fits, all_fit, all_counted}
use Rattle.store.proofs.Reading.{row_count}
use Rattle.store.proofs.store.Store.assign_joint.Goals as goal

pub invariant_of-self : goal.invariant_of-self
invariant_of-self c =
    let s = c.args.self.now in
    let ws = workers_of s.workers in
    -- whatever it needs
    let o : Order = record { number = s.assigned + 1; needs = _ } in
    let long = workers-length s.workers in
    let rows = row_count s.rows in
    let n = vec_len s.rows in
    let (a, b) = fits_at n ws 0 (omega arith) s.fit in
    let after = workers_of c.push_joint.new.self in
    let counted = all_counted ws after 0 (pushed o (worker_at ws 0)) c.push_joint.ensures (omega arith) in
    let fit = all_fit ws after 0 (pushed o (worker_at ws 0)) c.push_joint.ensures n s.fit (pushed_fits n (worker_at ws 0) o a b (omega arith) (omega (arith, c.requires.left))) in
    record { reserved = s.reserved; short = s.short; handed = omega (arith, c.requires.left); fit = fit; counted = omega (arith, counted, s.counted, length_push (worker_at ws 0).orders o) }

pub returns-clause-after : goal.returns-clause-after
returns-clause-after c =
    let s = c.args.self.now in
    let ws = workers_of s.workers in
    -- putting back a need that stands there changes nothing
    let same = set-get_or c.joint_needs-needs.result 1 0 in
    let needs = c.joint_needs-needs.ensures in
    let workers : workers_of c.push_joint.new.self ≡ set (workers_of s.workers) 0 (pushed (record { number = s.assigned + 1; needs = joint_needs_of c.args.touched.now s.lasts.plains }) (worker_at (workers_of s.workers) 0)) =
    let pushing = c.push_joint.ensures in cc in
    ap (λ (l : LastLists). record { rows = (view s).rows; assigned = s.assigned + 1; finished = s.finished; workers = workers_of c.push_joint.new.self; marks = s.marks; joints = l.joints; plains = l.plains }) c.assign_joint.ensures
    ∙ ap (λ (xs : List Worker). record { rows = (view s).rows; assigned = s.assigned + 1; finished = s.finished; workers = xs; marks = s.marks; joints = joints_after_of c.args.touched.now s.lasts.joints (s.assigned + 1); plains = s.lasts.plains }) workers
