-- What the invariant says in the words of the sheet: who has which order, who waits, who can go on, and what is counted.
use Rattle.std.proofs.Common.{◌≡◌, ℕ, suc, ◌+◌, ◌-◌, ◌<◌, ◌≤◌, Bool, true, false, cond, not, ◌&&◌, eqb, ◌⊎◌, List, length, get_or, Ok, Err, sum_by, count_by, sym, refl, ap, ◌∙◌, subst, inl, inr, arith}
use Rattle.std.specs.List.{range_with_len, AllByRecursion as All}
use Rattle.std.proofs.ByRecursion.{All-from_get_or}
use Rattle.std.proofs.lemmas.Bool.{both_ways, false_from_ne_true, le-ltb, eqb-true, eq-eqb, cases_Bool, cases_lt, and_parts, and_from, not-true, not_from_false, cond-true, cond-false}
use Rattle.model.specs.declared.fault.CallFault.TheVariants.{NeedNotPosted}
use Rattle.model.specs.Finding.{any, exists}
use Rattle.model.specs.Words.{Intention, Setup, Lawful, worker}
use Rattle.model.specs.Needs.{need_of}
use Rattle.model.specs.Sheets.{Line, history, is_finished, is_open, is_queued, pairs, intention, assigns, finishes, open_workers, queued_orders, HasOrder, Oldest, Lowest, OpenOn, Idle, Blocked}
use Rattle.model.specs.State.{Worker, State, no_worker, worker_at, is_empty, oldest_of, is_on, on_number, status_at, posted_at, orders_at}
use Rattle.model.specs.Model.{oldest_at, lacks, begin_answer, queued_count_of}
use Rattle.model.proofs.Found.{any_some, each, exists_some, least}
use Rattle.model.proofs.Sharing.{worker_most}
use Rattle.model.proofs.Counting.{sum_split, sum_same, sum_ones, sum_places, sum_front}
use Rattle.model.proofs.Invariant.{is_open_order, Inv}
use Rattle.model.proofs.Oldest.{drop_one, unended, queue_none, head_late, head_home, head_assigned, head_needs, head_undone, head_none, head_clear, head_blocked}
use Rattle.model.proofs.Moving.{Granted, begin_passed, lacking_less}

module _ (P : Setup) (it : ℕ → Intention) (above : List Line) (s : State) (I : Inv P it (history above) s) where
  -- ⟨ orders ⟩

  -- the first order that is stored is the oldest by the sheet
  pub stored_oldest : (w : ℕ) → is_empty (orders_at s w) ≡ false → Oldest above w (oldest_of (orders_at s w)).number
  stored_oldest w some =
      let k = (oldest_of (orders_at s w)).number in
      let late : posted_at s w < k = head_late P it (history above) s I w k some refl in
      let home = head_home P it (history above) s I w k some refl in (
        (
          subst (λ u. pairs u k (history above).assigned ≡ true) home (I.told.had k (omega arith) (head_assigned P it (history above) s I w k some refl)),
          head_undone P it (history above) s I w k some refl,
        ),
        λ j l (given, u). let (p, _, h) = I.told.has w j given in head_none P it (history above) s I w k some refl j (rw h at (I.told.undone j p u)) l h,
      )

  -- a worker with an order has one stored
  pub some_stored : (w k : ℕ) → HasOrder above w k → is_empty (orders_at s w) ≡ false
  some_stored w k (given, u) =
      let (p, l, h) = I.told.has w k given in
      false_from_ne_true _ (λ t. queue_none P it w _ _ _ t (I.staff.queues w) k (rw h at (I.told.undone k p u)) (omega arith) h)

  -- the oldest order by the sheet is the first that is stored
  pub oldest_stored : (w k : ℕ) → Oldest above w k → (oldest_of (orders_at s w)).number ≡ k
  oldest_stored w k (has, none) =
      let (has', none') = stored_oldest w (some_stored w k has) in
      let n = (oldest_of (orders_at s w)).number in
      elim (cases_lt n k) [
        | inl l ↦ absurd (none n l has')
        | inr l ↦ elim (cases_lt k n) [ inl g ↦ absurd (none' k g has) | inr g ↦ omega arith ]
      ]

  -- if there is an order, there is a lowest one
  pub has_lowest : (u i : ℕ) → HasOrder above u i → (w k : ℕ) × Lowest above w k
  has_lowest u i order =
      let f : ℕ → Bool = λ j. pairs (worker P.map (it j)) j (history above).assigned && not (is_finished (history above) j) in
      let passes : (v j : ℕ) → HasOrder above v j → f j ≡ true = λ v j (given, open'). and_from _ _ (subst (λ v. pairs v j (history above).assigned ≡ true) (sym (I.told.has v j given).2) given) (not_from_false _ open') in
      elim (least f (suc i)) [
        | inl (k, l, t, none) ↦
            let (given, open') = and_parts (pairs (worker P.map (it k)) k (history above).assigned) _ t in
            (worker P.map (it k), k, ((given, not-true _ open'), λ j v before h. both_ways (f j) (none j before) (passes v j h)))
        | inr none ↦ absurd (both_ways (f i) (none i (omega arith)) (passes u i order))
      ]

  -- ⟨ open workers ⟩

  pub on_open : (w : ℕ) → is_on (status_at s w) ≡ true → OpenOn above w (on_number (status_at s w))
  on_open w o =
      let O = I.staff.opens w o in
      let k = on_number (status_at s w) in
      (I.told.begun w o, head_undone P it (history above) s I w (on_number (status_at s w)) O.some O.oldest)

  pub open_on : (w k : ℕ) → OpenOn above w k → is_on (status_at s w) ≡ true
  open_on w k (given, u) =
      let (p, c) = I.told.began w k given in
      elim c [ inl f ↦ absurd (omega (arith, I.told.undone k p u)) | inr (o, _) ↦ o ]

  pub on_known : Lawful P → (w : ℕ) → is_on (status_at s w) ≡ true → w ≤ P.map.partitions
  on_known L w o =
      let O = I.staff.opens w o in
      let h = head_home P it (history above) s I w (on_number (status_at s w)) O.some O.oldest in
      omega (arith, worker_most P.map L.map (it (on_number (status_at s w))))

  -- ⟨ counts ⟩

  is_open_is : (w : ℕ) → is_open (history above) w ≡ is_on (status_at s w)
  is_open_is w =
      elim (cases_Bool (is_on (status_at s w))) [
        | inl o ↦
            let (given, u) = on_open w o in
            let (x, t, up) = any_some _ (history above).granted given in
            let (a, b) = and_parts (eqb w x.0) _ t in
            let n : x.1 ≡ on_number (status_at s w) = sym (eqb-true _ x.1 b) in
            up (λ x. eqb w x.0 && not (is_finished (history above) x.1)) (and_from _ _ a (not_from_false _ (ap (is_finished (history above)) n ∙ u))) ∙ sym o
        | inr o ↦
            elim (cases_Bool (is_open (history above) w)) [
              | inl t ↦
                  let (x, q, up) = any_some _ (history above).granted t in
                  let (a, b) = and_parts (eqb w x.0) _ q in
                  absurd (both_ways _ o (open_on w x.1 (up (λ y. eqb w y.0 && eqb x.1 y.1) (and_from _ _ a (eq-eqb x.1 x.1 refl)), not-true _ b)))
              | inr t ↦ t ∙ sym o
            ]
      ]

  -- workers above n are never open
  pub open_is : Lawful P → count_by (λ x. is_on x.status) s.workers ≡ open_workers P above
  open_is L =
      let f : ℕ → ℕ = λ w. cond (is_open (history above) w) 1 0 in
      let g : ℕ → ℕ = λ w. cond (is_on (status_at s w)) 1 0 in
      let idle : (w : ℕ) → P.map.partitions + 1 ≤ w → f w ≡ 0 = λ w l. elim (cases_Bool (is_open (history above) w)) [
        | inl t ↦ absurd (omega (arith, on_known L w (sym (is_open_is w) ∙ t)))
        | inr t ↦ cond-false _ _ _ t
      ] in
      let n : P.map.partitions + 1 + (15 - P.map.partitions) ≡ 16 = omega (arith, L.map.few) in
      sum_places (λ (x : Worker). cond (is_on x.status) 1 0) s.workers 16 no_worker I.sixteen
      ∙ sum_same g f (range_with_len 0 16) (each (λ w. g w ≡ f w) (λ w. ap (λ t. cond {A = ℕ} t 1 0) (sym (is_open_is w))) (range_with_len 0 16))
      ∙ ap (λ k. sum_by f (range_with_len 0 k)) (sym n)
      ∙ sum_front f (P.map.partitions + 1) (15 - P.map.partitions) idle

  -- an open worker holds its order
  held_some : (x : Worker) → (is_on x.status ≡ true → is_empty x.orders ≡ false) → length x.orders ≡ queued_count_of x + cond (is_on x.status) 1 0
  held_some x h = elim (cases_Bool (is_on x.status)) [ inl o ↦ rw o (omega (arith, drop_one x.orders (h o))) | inr o ↦ rw o (omega arith) ]

  -- an order is queued, open or finished
  one_of : (x : ℕ × ℕ) → 1 ≡ cond (is_queued (history above) x) 1 0 + (cond (is_open_order (history above).granted (history above).finished x) 1 0 + cond (any (eqb x.1) (history above).finished) 1 0)
  one_of x =
      elim (cases_Bool (any (eqb x.1) (history above).finished)) [
        | inl t ↦ rw t (elim (cases_Bool (pairs x.0 x.1 (history above).granted)) [ inl g ↦ rw g | inr g ↦ rw g ])
        | inr t ↦ rw t (elim (cases_Bool (pairs x.0 x.1 (history above).granted)) [ inl g ↦ rw g | inr g ↦ rw g ])
      ]

  parts : length (history above).assigned ≡ queued_orders above + (count_by (is_open_order (history above).granted (history above).finished) (history above).assigned + length (history above).finished)
  parts =
      let asg = (history above).assigned in
      let q : ℕ × ℕ → ℕ = λ x. cond (is_queued (history above) x) 1 0 in
      let o : ℕ × ℕ → ℕ = λ x. cond (is_open_order (history above).granted (history above).finished x) 1 0 in
      let f : ℕ × ℕ → ℕ = λ x. cond (any (eqb x.1) (history above).finished) 1 0 in
      let a : sum_by (λ x. 1) asg ≡ sum_by q asg + sum_by (λ x. o x + f x) asg = sum_split (λ x. 1) q (λ x. o x + f x) asg (each _ one_of asg) in
      let b : sum_by (λ x. o x + f x) asg ≡ sum_by o asg + sum_by f asg = sum_split (λ x. o x + f x) o f asg (each _ (λ x. refl) asg) in
      omega (arith, sum_ones asg, I.counts.done)

  pub queued_is : sum_by queued_count_of s.workers ≡ queued_orders above
  queued_is =
      let holds : All (λ x. length x.orders ≡ queued_count_of x + cond (is_on x.status) 1 0) s.workers = All-from_get_or _ s.workers no_worker (λ w _. held_some (worker_at s.workers w) (λ o. (I.staff.opens w o).some)) in
      let split = sum_split (λ (x : Worker). length x.orders) queued_count_of (λ x. cond (is_on x.status) 1 0) s.workers holds in
      omega (arith, split, parts, I.counts.load, I.counts.opened)

  pub balanced : Lawful P → assigns above ≡ finishes above + open_workers P above + queued_orders above
  balanced L = omega (arith, parts, open_is L, I.counts.opened)

-- ⟨ begin ⟩

module _ (P : Setup) (L : Lawful P) (above : List Line) (s : State) (I : Inv P (intention above) (history above) s) (w k : ℕ) (old : Oldest above w k) where
  abbrev it : ℕ → Intention
  it = intention above

  some : is_empty (orders_at s w) ≡ false
  some = some_stored P (intention above) above s I w k old.0

  oldest : (oldest_of (orders_at s w)).number ≡ k
  oldest = oldest_stored P (intention above) above s I w k old

  home : worker P.map (intention above k) ≡ w
  home = head_home P (intention above) (history above) s I w k some oldest

  pub known : w ≤ P.map.partitions
  known = omega (arith, home, worker_most P.map L.map (intention above k))

  needs_are : (v : ℕ) → v ≤ P.map.partitions → get_or (oldest_at s w).needs v 0 ≡ need_of P.map (intention above) k v
  needs_are v l = head_needs P (intention above) (history above) s I w k some oldest v (omega (arith, L.map.few))

  -- a need that is not posted is an earlier unfinished number that shares a partition
  blocked : exists (lacks s (oldest_at s w)) (P.map.partitions + 1) ≡ true → Blocked P above k
  blocked t =
      let (v, l, b) = exists_some _ (P.map.partitions + 1) t in
      let (j, before, sh, late) = head_blocked P (intention above) (history above) s I w k some oldest v (omega (arith, lacking_less s (oldest_at s w) v b, needs_are v (omega arith))) in
      (j, before, (omega arith, omega (arith, head_assigned P (intention above) (history above) s I w k some oldest, I.bound), unended P (intention above) (history above) s I j late), sh)

  not_blocked : Granted P s w k → Blocked P above k → ⊥
  not_blocked G (j, l, (p, _, u), sh) =
      let f = head_clear P (intention above) (history above) s I w k some oldest L (λ v b. omega (arith, G.ready v b, needs_are v b)) j l sh in
      omega (arith, I.told.undone j p u)

  pub waits_or_granted : Idle above w → ((begin_answer P s w ≡ Err (NeedNotPosted k)) × Blocked P above k) ⊎ ((begin_answer P s w ≡ Ok (w, k)) × (Blocked P above k → ⊥))
  waits_or_granted idle =
      let off : is_on (status_at s w) ≡ false = false_from_ne_true _ (λ t. idle _ (on_open P (intention above) above s I w t)) in
      let checked : begin_answer P s w ≡ cond (exists (lacks s (oldest_at s w)) (P.map.partitions + 1)) (Err (NeedNotPosted (oldest_at s w).number)) (Ok (w, (oldest_at s w).number)) =
      cond-false _ _ _ (le-ltb P.map.partitions w known) ∙ cond-false _ _ _ off ∙ cond-false _ _ _ some in
      elim (cases_Bool (exists (lacks s (oldest_at s w)) (P.map.partitions + 1))) [
        | inl t ↦ inl (checked ∙ cond-true _ _ _ t ∙ ap (λ n. Err (NeedNotPosted n)) oldest, blocked t)
        | inr t ↦
            let e : begin_answer P s w ≡ Ok (w, k) = checked ∙ cond-false _ _ _ t ∙ ap (λ n. Ok (w, n)) oldest in
            inr (e, not_blocked (begin_passed P s w (w, k) (sym e)))
      ]
