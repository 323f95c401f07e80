-- The lines of an input, one after another.
use Rattle.std.proofs.Common.{◌≡◌, ℕ, suc, ◌+◌, ◌-◌, ◌<◌, true, false, cond, List, [], ◌∷◌, length, take, drop, Some, None, position, ◌==◌, refl, ap, ◌∙◌, arith}
use Rattle.std.proofs.lemmas.List.{take_all, take_rest, drop_all}
use Rattle.std.proofs.lemmas.List.Sums.{prefix_len-le-length}
use Rattle.std.proofs.lemmas.Bool.Decides.{nat_tests}
use Rattle.frames.specs.Lines.{not_feed, in_front, lines_of, first_length_of}

-- the first line of what begins with c, and the rest
lines_more : (c : ℕ) (cs : List ℕ) → lines_of (c ∷ cs) ≡ take (first_length_of (c ∷ cs)) (c ∷ cs) ∷ lines_of (drop (first_length_of (c ∷ cs) + 1) (c ∷ cs))
lines_more c [] =
    elim (not_feed c) as (λ b. cond b ((c ∷ []) ∷ []) ([] ∷ []) ≡ take (cond b (1 + 0) 0) (c ∷ []) ∷ lines_of (drop (cond b (1 + 0) 0 + 1) (c ∷ []))) [ true ↦ refl | false ↦ refl ]
lines_more c (d ∷ ds) =
    let n = first_length_of (d ∷ ds) in
    elim (not_feed c) as (λ b. cond b (in_front c (lines_of (d ∷ ds))) ([] ∷ lines_of (d ∷ ds)) ≡ take (cond b (1 + n) 0) (c ∷ d ∷ ds) ∷ lines_of (drop (cond b (1 + n) 0 + 1) (c ∷ d ∷ ds))) [
      | true ↦
          let e : 1 + n ≡ suc n = omega arith in
          let f : 1 + n + 1 ≡ suc (n + 1) = omega arith in
          ap (in_front c) (lines_more d ds) ∙ rw (f, e)
      | false ↦ refl
    ]

pub lines_first : (cs : List ℕ) → 0 < length cs → lines_of cs ≡ take (first_length_of cs) cs ∷ lines_of (drop (first_length_of cs + 1) cs)
lines_first [] h = absurd (omega arith)
lines_first (c ∷ cs) h = lines_more c cs

-- where the first line feed stands at this place, a line ends there
pub cut_at : (cs : List ℕ) (end : ℕ) → Some end ≡ position (λ c. c == 10) cs → 0 < length cs → lines_of cs ≡ take end cs ∷ lines_of (take (length cs - (end + 1)) (drop (end + 1) cs))
cut_at cs end f h =
    let e : first_length_of cs ≡ end = grind (arith, nat_tests) in
    let l = lines_first cs h in
    let r = take_rest cs (end + 1) in
    cc

-- where there is none, the line is all there is
pub uncut : (cs : List ℕ) → None ≡ position (λ c. c == 10) cs → 0 < length cs → lines_of cs ≡ cs ∷ []
uncut cs f h =
    let most = prefix_len-le-length not_feed cs in
    let e : first_length_of cs ≡ length cs = grind (arith, nat_tests) in
    let l = lines_first cs h in
    let t = take_all (first_length_of cs) cs (omega arith) in
    let d = drop_all (first_length_of cs + 1) cs (omega arith) in
    cc
