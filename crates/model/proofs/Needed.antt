-- The two facts about needs that the law rests on: a need covers every earlier number of that worker that shares a partition,
-- and a need above 0 is itself such a number.
use Rattle.std.proofs.Common.{◌≡◌, ℕ, ◌<◌, ◌≤◌, ◌&&◌, eqb, sym, refl, ◌∙◌, inl, inr, arith}
use Rattle.std.proofs.lemmas.Bool.{eqb-true, eqb-false, eq-eqb, ne_eqb, cases_eq, and_parts, and_from, cond_both}
use Rattle.terms.specs.Maps.{MapMeaning}
use Rattle.model.specs.Finding.{last}
use Rattle.model.specs.Words.{Intention, touches, Shares, worker, is_joint}
use Rattle.model.specs.Needs.{last_joint, last_plain, need_of}
use Rattle.model.proofs.Found.{last_most, last_is}
use Rattle.model.proofs.Sharing.{worker_one, worker-touches}

module _ (m : MapMeaning) (it : ℕ → Intention) (k : ℕ) where
  pub need_most : (j : ℕ) → j < k → Shares m (it j) (it k) → (worker m (it j) ≡ worker m (it k) → ⊥) → j ≤ need_of m it k (worker m (it j))
  unfolding need_of last_joint last_plain
  need_most j l (p, tj, tk) d =
      elim (cases_eq (worker m (it j)) 0) [
        | inl e ↦
            let is : p ≡ worker m (it k) = worker_one m (it k) p (omega arith) tk in
            rw (eq-eqb _ _ e, ne_eqb (worker m (it k)) 0 (omega arith)) (last_most _ k j l (and_from _ _ (eq-eqb _ _ e) (rw is at tj)))
        | inr e ↦
            let is : p ≡ worker m (it j) = worker_one m (it j) p (omega arith) tj in
            let z : worker m (it k) ≡ 0 = elim (cases_eq (worker m (it k)) 0) [ inl g ↦ g | inr g ↦ absurd (d (sym is ∙ worker_one m (it k) p (omega arith) tk)) ] in
            rw (ne_eqb _ _ e, eq-eqb _ _ z, rw is at tk) (last_most _ k j l (eq-eqb (worker m (it j)) (worker m (it j)) refl))
      ]

  pub need_is : (v : ℕ) → 0 < need_of m it k v → (need_of m it k v < k) × (worker m (it (need_of m it k v)) ≡ v) × Shares m (it (need_of m it k v)) (it k)
  unfolding need_of last_joint last_plain
  need_is v =
      let Q : ℕ → Type 0 = λ n. 0 < n → (n < k) × (worker m (it n) ≡ v) × Shares m (it n) (it k) in
      cond_both (eqb v 0) _ _ Q
      (λ e. cond_both (is_joint m (it k)) _ _ Q
      (λ _ h. absurd (omega arith))
      (λ t h.
      let r = last_is _ k h in
      let x = and_parts _ _ r.1 in
      (r.0, eqb-true _ _ x.0 ∙ sym (eqb-true v 0 e), (worker m (it k), x.1, worker-touches m (it k) (omega (arith, eqb-false _ _ t))))))
      (λ e. cond_both (is_joint m (it k) && touches m (it k) v) _ _ Q
      (λ t h.
      let r = last_is _ k h in
      let w : worker m (it (last (λ j. eqb (worker m (it j)) v) k)) ≡ v = eqb-true _ _ r.1 in
      let u = worker-touches m (it (last (λ j. eqb (worker m (it j)) v) k)) (omega (arith, eqb-false _ _ e)) in
      (r.0, w, (v, rw w at u, (and_parts _ _ t).1)))
      (λ _ h. absurd (omega arith)))
