-- The last joint numbers while a joint order moves them, partition by partition.
use Rattle.std.proofs.Common.{◌≡◌, ℕ, ◌+◌, ◌<◌, ◌≤◌, Bool, true, false, List, map, length, get_or, set, sym, refl, ap, ◌∙◌, ⊎_elim, arith, length-set}
use Rattle.std.proofs.lemmas.Bool.{cases_eq, cond-true, cond-false}
use Rattle.std.proofs.lemmas.List.{get_or-map, get_or-set_same, get_or-set_other, set-get_or, map-set, length-map}
use Rattle.std.proofs.lemmas.List.FromFn.{fill_by_all}
use Rattle.rows.specs.declared.lasts.Last.{Last}
use Rattle.rows.specs.Lasts.{joint_at_of, joints_after_of}

abbrev pub none : Last
none = record { joint = 0; plain = 0 }

abbrev pub joints_of : List Last → List ℕ
joints_of xs = map (λ (x : Last). x.joint) xs

abbrev pub plains_of : List Last → List ℕ
plains_of xs = map (λ (x : Last). x.plain) xs

-- the partitions below p are done
pub record Moved (touched : List Bool) (number : ℕ) (before now : List Last) (p : ℕ) : Type 0 where
  pub long : length now ≡ 16
  pub plains : plains_of now ≡ plains_of before
  pub done : (k : ℕ) → k < p → get_or (joints_of now) k 0 ≡ joint_at_of touched (joints_of before) number k
  pub left : (k : ℕ) → p ≤ k → get_or (joints_of now) k 0 ≡ get_or (joints_of before) k 0

pub written : (now : List Last) (p number : ℕ) → p < length now → plains_of (set now p (record { joint = number; plain = (get_or now p none).plain })) ≡ plains_of now
written now p number l =
    map-set (λ (x : Last). x.plain) now p (record { joint = number; plain = (get_or now p none).plain })
    ∙ ap (set (plains_of now) p) (sym (get_or-map (λ (x : Last). x.plain) now p none 0 l))
    ∙ set-get_or (plains_of now) p 0

module _ (touched : List Bool) (number : ℕ) (before : List Last) where
  pub moved_none : length before ≡ 16 → Moved touched number before before 0
  moved_none long = record { long = long; plains = refl; done = λ k l. absurd (omega arith); left = λ k l. refl }

  pub moved_yes : (now : List Last) (p : ℕ) → Moved touched number before now p → p < 16 → get_or touched p false ≡ true → Moved touched number before (set now p (record { joint = number; plain = (get_or now p none).plain })) (p + 1)
  moved_yes now p m l t =
      let l' : p < length now = omega (arith, m.long) in
      let l'' : p < length (joints_of now) = omega (arith, m.long, length-map now (λ (x : Last). x.joint)) in
      let e = map-set (λ (x : Last). x.joint) now p (record { joint = number; plain = (get_or now p none).plain }) in
      record {
        long = length-set _ _ _ ∙ m.long;
        plains = written now p number l' ∙ m.plains;
        done = λ k h.
            ap (λ xs. get_or xs k 0) e
            ∙ ⊎_elim
            (λ here.
            ap (λ i. get_or (set (joints_of now) p number) i 0) here
            ∙ get_or-set_same (joints_of now) p number 0 l''
            ∙ sym (ap (λ i. joint_at_of touched (joints_of before) number i) here ∙ cond-true (get_or touched p false) number (get_or (joints_of before) p 0) t))
            (λ other. get_or-set_other (joints_of now) p k number 0 (λ same. other same) ∙ m.done k (omega arith))
            (cases_eq k p);
        left = λ k h. ap (λ xs. get_or xs k 0) e ∙ get_or-set_other (joints_of now) p k number 0 (λ same. absurd (omega arith)) ∙ m.left k (omega arith);
      }

  pub moved_no : (now : List Last) (p : ℕ) → Moved touched number before now p → get_or touched p false ≡ false → Moved touched number before now (p + 1)
  moved_no now p m t = record {
    long = m.long;
    plains = m.plains;
    done = λ k h.
        ⊎_elim
        (λ here.
        m.left k (omega arith)
        ∙ sym (ap (λ i. joint_at_of touched (joints_of before) number i) here ∙ cond-false (get_or touched p false) number (get_or (joints_of before) p 0) t ∙ ap (λ i. get_or (joints_of before) i 0) (sym here)))
        (λ other. m.done k (omega arith))
        (cases_eq k p);
    left = λ k h. m.left k (omega arith);
  }

  pub moved_all : (now : List Last) (p : ℕ) → Moved touched number before now p → 16 ≤ p → joints_of now ≡ joints_after_of touched (joints_of before) number
  moved_all now p m l =
      fill_by_all (joint_at_of touched (joints_of before) number) (joints_of now) 16 0 (length-map now (λ (x : Last). x.joint) ∙ m.long) (λ k h. m.done k (omega arith))
