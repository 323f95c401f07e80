-- What a frame says and its bytes undo each other.
use Rattle.std.proofs.Common.{◌≡◌, ℕ, zero, suc, ◌+◌, ◌-◌, ◌*◌, ◌/◌, ◌%◌, ◌<◌, ◌≤◌, Bool, true, cond, eqb, leb, List, [], ◌∷◌, length, get_or, drop, Some, None, Ok, Err, Option, Result, sym, refl, ap, ◌∙◌, subst, inl, inr, arith}
use Rattle.std.proofs.lemmas.List.{drop_more, drop_all, length-drop}
use Rattle.std.proofs.lemmas.Bool.{cases_Bool, cond-true, cond-false, eq-eqb, ne_eqb, le-leb, and_from, and_parts, eqb-true, leb-true}
use Rattle.std.proofs.lemmas.Bool.Decides.{nat_tests}
use Rattle.std.specs.Option.{ok_or}
use Rattle.terms.specs.declared.access.Access.{Access}
use Rattle.frames.specs.declared.fault.LineFault.{LineFault}
use Rattle.frames.specs.declared.fault.LineFault.TheVariants.{Empty, WrongLength}
use Rattle.frames.specs.declared.kind.Kind.{Kind}
use Rattle.frames.specs.declared.kind.Kind.TheVariants.{Append, Assign, BeginPark, ResumeFinish, Verdict, Tally, SetUpResidue, SetUpListed}
use Rattle.frames.specs.Kinds.{byte_of, kind_from}
use Rattle.frames.specs.Hex.{Bytes}
use Rattle.terms.specs.Accesses.{access}
use Rattle.frames.specs.Contents.{Content, access_bytes, bytes_of, no_line_of, AccessesFit, Writable}
use Rattle.frames.specs.Contents.Content.{append, assign, begin_park, resume_finish, verdict, tally, set_up_residue, set_up_listed}
use Rattle.frames.specs.Reading.{pair_at, accesses_in, append_sized, said_in, frame_with, frame_in}

-- ⟨ from what a frame says to its bytes and back ⟩

pub few_accesses : (s : ℕ) (xs : List Access) → no_line_of (append s xs) ≡ None → length xs ≤ 8
few_accesses s xs h = grind (arith, nat_tests)

pub whole_table : (r n : ℕ) (table : List ℕ) → no_line_of (set_up_listed r n table) ≡ None → length table ≡ 1024
whole_table r n table h = grind (arith, nat_tests)

pub length-access_bytes : (xs : List Access) → length (access_bytes xs) ≡ 3 * length xs
length-access_bytes [] = refl
length-access_bytes (a ∷ xs) = omega (arith, length-access_bytes xs)

bytes-access_bytes : (xs : List Access) → AccessesFit xs → Bytes (access_bytes xs)
bytes-access_bytes [] h = tt
bytes-access_bytes (a ∷ xs) h = let p = h.1 in (h.0, (omega arith, (omega arith, bytes-access_bytes xs h.2)))

accesses_in-access_bytes : (xs : List Access) → AccessesFit xs → accesses_in (access_bytes xs) ≡ xs
accesses_in-access_bytes [] h = refl
accesses_in-access_bytes (a ∷ xs) h =
    let e : 256 * (a.cell / 256) + a.cell % 256 ≡ a.cell = omega arith in
    ap (λ (n : ℕ). access a.mode n ∷ accesses_in (access_bytes xs)) e ∙ ap (λ (r : List Access). a ∷ r) (accesses_in-access_bytes xs h.2)

pub bytes-bytes_of : (f : Content) → Writable f → Bytes (bytes_of f)
bytes-bytes_of (append s xs) h =
    let p = h.fit.0 in
    let q = few_accesses s xs h.held in
    (omega arith, (omega arith, (omega arith, (omega arith, bytes-access_bytes xs h.fit.1))))
bytes-bytes_of assign h = (omega arith, tt)
bytes-bytes_of (begin_park w) h = (omega arith, (h.fit, tt))
bytes-bytes_of (resume_finish w) h = (omega arith, (h.fit, tt))
bytes-bytes_of (verdict n) h = let p = h.fit in (omega arith, (omega arith, (omega arith, tt)))
bytes-bytes_of tally h = (omega arith, tt)
bytes-bytes_of (set_up_residue r n) h = (omega arith, (h.fit.0, (h.fit.1, tt)))
bytes-bytes_of (set_up_listed r n t) h = (omega arith, (h.fit.0, (h.fit.1, h.fit.2)))

-- a row that is not empty is read by its kind
by_kind : (bs : List ℕ) (kind : Kind) (f : Content) → 0 < length bs → kind_from (get_or bs 0 0) ≡ Ok kind → said_in kind bs ≡ Some f → frame_in bs ≡ Ok f
by_kind bs kind f h k e =
    cond-false _ _ _ (ne_eqb (length bs) 0 (λ z. omega arith))
    ∙ (ap (λ (r : Result Kind LineFault). frame_with r bs) k ∙ ap (λ (o : Option Content). ok_or o (WrongLength (length bs))) e)

pub frame_in-bytes_of : (f : Content) → Writable f → frame_in (bytes_of f) ≡ Ok f
frame_in-bytes_of (append s xs) h =
    let e : 256 * (s / 256) + s % 256 ≡ s = let p = h.fit.0 in omega arith in
    let f = accesses_in-access_bytes xs h.fit.1 in
    let t : append_sized (bytes_of (append s xs)) ≡ true = and_from _ _ (le-leb _ _ (few_accesses s xs h.held)) (eq-eqb (length (bytes_of (append s xs))) (4 + 3 * length xs) (omega (arith, length-access_bytes xs))) in
    by_kind (bytes_of (append s xs)) Append (append s xs) (omega arith) refl (cond-true _ _ _ t ∙ cc)
frame_in-bytes_of assign h = refl
frame_in-bytes_of (begin_park w) h = refl
frame_in-bytes_of (resume_finish w) h = refl
frame_in-bytes_of (verdict n) h = let e : 256 * (n / 256) + n % 256 ≡ n = omega arith in cc
frame_in-bytes_of tally h = refl
frame_in-bytes_of (set_up_residue r n) h = refl
frame_in-bytes_of (set_up_listed r n t) h =
    let p = whole_table r n t h.held in
    by_kind (bytes_of (set_up_listed r n t)) SetUpListed (set_up_listed r n t) (omega arith) refl (cond-true _ _ _ (eq-eqb (length (bytes_of (set_up_listed r n t))) 1027 (omega arith)))

-- ⟨ from bytes to what the frame says and back ⟩

-- byte i of a row, which is a byte, and the rest of the row
pub peel : (i : ℕ) (bs : List ℕ) → Bytes bs → i < length bs → (get_or bs i 0 < 256) × (drop i bs ≡ get_or bs i 0 ∷ drop (i + 1) bs)
peel i bs h l = (below i bs h l, drop_more bs i 0 l)
  where
    below : (i : ℕ) (bs : List ℕ) → Bytes bs → i < length bs → get_or bs i 0 < 256
    below i [] h l = absurd (omega arith)
    below zero (b ∷ bs) h l = h.0
    below (suc i) (b ∷ bs) h l = below i bs h.1 (omega arith)

bytes_drop : (n : ℕ) (bs : List ℕ) → Bytes bs → Bytes (drop n bs)
bytes_drop zero bs h = h
bytes_drop (suc n) [] h = tt
bytes_drop (suc n) (b ∷ bs) h = bytes_drop n bs h.1

access_bytes-accesses_in : (n : ℕ) (bs : List ℕ) → Bytes bs → length bs ≡ 3 * n → (length (accesses_in bs) ≡ n) × AccessesFit (accesses_in bs) × (access_bytes (accesses_in bs) ≡ bs)
access_bytes-accesses_in n [] h e = (omega arith, tt, refl)
access_bytes-accesses_in n (m ∷ []) h e = absurd (omega arith)
access_bytes-accesses_in n (m ∷ k ∷ []) h e = absurd (omega arith)
access_bytes-accesses_in n (m ∷ k ∷ l ∷ bs) (p, (q, (r, h))) e =
    let (u, v, w) = access_bytes-accesses_in (n - 1) bs h (omega arith) in
    let x : (256 * k + l) / 256 ≡ k = omega arith in
    let y : (256 * k + l) % 256 ≡ l = omega arith in
    (omega arith, (p, omega arith, v), cc)

-- a kind is found by its byte
pub kind_is : (byte : ℕ) (kind : Kind) → kind_from byte ≡ Ok kind → byte ≡ byte_of kind
kind_is byte Append h = grind (arith, nat_tests)
kind_is byte Assign h = grind (arith, nat_tests)
kind_is byte BeginPark h = grind (arith, nat_tests)
kind_is byte ResumeFinish h = grind (arith, nat_tests)
kind_is byte Verdict h = grind (arith, nat_tests)
kind_is byte Tally h = grind (arith, nat_tests)
kind_is byte SetUpResidue h = grind (arith, nat_tests)
kind_is byte SetUpListed h = grind (arith, nat_tests)

-- a row of bytes that reads is the frame's row
pub bytes_of-frame_in : (bs : List ℕ) (f : Content) → Bytes bs → frame_in bs ≡ Ok f → Writable f × (bytes_of f ≡ bs)
bytes_of-frame_in bs f h e =
    elim (cases_Bool (eqb (length bs) 0)) [
      | inl z ↦ absurd (let a = cond-true (eqb (length bs) 0) (Err Empty) (frame_with (kind_from (get_or bs 0 0)) bs) z in let y : ◌≡◌ {A = ℕ} 0 1 = cc in omega arith)
      | inr z ↦ found (kind_from (get_or bs 0 0)) refl (sym (cond-false (eqb (length bs) 0) (Err Empty) (frame_with (kind_from (get_or bs 0 0)) bs) z) ∙ e)
    ]
  where
    P : Content → Type 0
    P g = Writable g × (bytes_of g ≡ bs)

    -- a kind says something only of a row of its length
    said : (t : Bool) (g : Content) → cond t (Some g) None ≡ Some f → (t ≡ true → P g) → P f
    said t g e here =
        elim (cases_Bool t) [
          | inl p ↦ let a = cond-true t (Some g) None p in let s : g ≡ f = cc in subst P s (here p)
          | inr p ↦ absurd (let a = cond-false t (Some g) None p in let z : ◌≡◌ {A = ℕ} 0 1 = cc in omega arith)
        ]

    -- a row of one byte
    one : (k : ℕ) → get_or bs 0 0 ≡ k → eqb (length bs) 1 ≡ true → k ∷ [] ≡ bs
    one k e t =
        let n = eqb-true (length bs) 1 t in
        let (p, q) = peel 0 bs h (omega arith) in
        let r = drop_all 1 bs (omega arith) in cc

    two : (k : ℕ) → get_or bs 0 0 ≡ k → eqb (length bs) 2 ≡ true → (get_or bs 1 0 < 256) × (k ∷ get_or bs 1 0 ∷ [] ≡ bs)
    two k e t =
        let n = eqb-true (length bs) 2 t in
        let (p, q) = peel 0 bs h (omega arith) in
        let (u, v) = peel 1 bs h (omega arith) in
        let r = drop_all 2 bs (omega arith) in (u, cc)

    -- the first three of at least three bytes
    three : (k : ℕ) → get_or bs 0 0 ≡ k → 3 ≤ length bs → (get_or bs 1 0 < 256) × (get_or bs 2 0 < 256) × (k ∷ get_or bs 1 0 ∷ get_or bs 2 0 ∷ drop 3 bs ≡ bs)
    three k e n =
        let (p, q) = peel 0 bs h (omega arith) in
        let (u, v) = peel 1 bs h (omega arith) in
        let (w, x) = peel 2 bs h (omega arith) in
        (u, w, cc)

    for_worker : (k : ℕ) (g : ℕ → Content) → ((w : ℕ) → w < 256 → Writable (g w)) → ((w : ℕ) → bytes_of (g w) ≡ k ∷ w ∷ []) → get_or bs 0 0 ≡ k → eqb (length bs) 2 ≡ true → P (g (get_or bs 1 0))
    for_worker k g fit is e t = let (u, x) = two k e t in (fit (get_or bs 1 0) u, is (get_or bs 1 0) ∙ x)

    for_verdict : get_or bs 0 0 ≡ 5 → eqb (length bs) 3 ≡ true → P (verdict (pair_at bs 1))
    for_verdict e t =
        let n = eqb-true (length bs) 3 t in
        let (u, w, x) = three 5 e (omega arith) in
        let hi : pair_at bs 1 / 256 ≡ get_or bs 1 0 = omega arith in
        let lo : pair_at bs 1 % 256 ≡ get_or bs 2 0 = omega arith in
        let r = drop_all 3 bs (omega arith) in
        (record { held = refl; fit = omega arith }, cc)

    for_residue : get_or bs 0 0 ≡ 16 → eqb (length bs) 3 ≡ true → P (set_up_residue (get_or bs 1 0) (get_or bs 2 0))
    for_residue e t =
        let n = eqb-true (length bs) 3 t in
        let (u, w, x) = three 16 e (omega arith) in
        let r = drop_all 3 bs (omega arith) in
        (record { held = refl; fit = (u, w) }, cc)

    for_listed : get_or bs 0 0 ≡ 17 → eqb (length bs) 1027 ≡ true → P (set_up_listed (get_or bs 1 0) (get_or bs 2 0) (drop 3 bs))
    for_listed e t =
        let n = eqb-true (length bs) 1027 t in
        let (u, w, x) = three 17 e (omega arith) in
        let l = eq-eqb (length (drop 3 bs)) 1024 (omega (arith, length-drop 3 bs)) in
        (record { held = cond-true _ _ _ l; fit = (u, w, bytes_drop 3 bs h) }, x)

    for_append : get_or bs 0 0 ≡ 1 → append_sized bs ≡ true → P (append (pair_at bs 1) (accesses_in (drop 4 bs)))
    for_append e t =
        let (a, b) = and_parts (leb (get_or bs 3 0) 8) (eqb (length bs) (4 + 3 * get_or bs 3 0)) t in
        let m = leb-true (get_or bs 3 0) 8 a in
        let n = eqb-true (length bs) (4 + 3 * get_or bs 3 0) b in
        let (u, w, x) = three 1 e (omega arith) in
        let (y, z) = peel 3 bs h (omega arith) in
        let (r, fits, back) = access_bytes-accesses_in (get_or bs 3 0) (drop 4 bs) (bytes_drop 4 bs h) (omega (arith, length-drop 4 bs)) in
        let hi : pair_at bs 1 / 256 ≡ get_or bs 1 0 = omega arith in
        let lo : pair_at bs 1 % 256 ≡ get_or bs 2 0 = omega arith in
        let l = le-leb (length (accesses_in (drop 4 bs))) 8 (omega arith) in
        (record { held = cond-true _ _ _ l; fit = (omega arith, fits) }, cc)

    by : (kind : Kind) → get_or bs 0 0 ≡ byte_of kind → said_in kind bs ≡ Some f → P f
    by Append k e = said _ _ e (for_append k)
    by Assign k e = said _ _ e (λ n. (record { held = refl; fit = tt }, one 2 k n))
    by BeginPark k e = said _ _ e (for_worker 3 begin_park (λ w l. record { held = refl; fit = l }) (λ w. refl) k)
    by ResumeFinish k e = said _ _ e (for_worker 4 resume_finish (λ w l. record { held = refl; fit = l }) (λ w. refl) k)
    by Verdict k e = said _ _ e (for_verdict k)
    by Tally k e = said _ _ e (λ n. (record { held = refl; fit = tt }, one 6 k n))
    by SetUpResidue k e = said _ _ e (for_residue k)
    by SetUpListed k e = said _ _ e (for_listed k)

    whole : (kind : Kind) (o : Option Content) → get_or bs 0 0 ≡ byte_of kind → said_in kind bs ≡ o → ok_or o (WrongLength (length bs)) ≡ Ok f → P f
    whole kind None k p q = absurd (let z : ◌≡◌ {A = ℕ} 0 1 = cc in omega arith)
    whole kind (Some g) k p q = let s : g ≡ f = cc in by kind k (p ∙ ap (λ (x : Content). Some x) s)

    found : (r : Result Kind LineFault) → kind_from (get_or bs 0 0) ≡ r → frame_with r bs ≡ Ok f → P f
    found (Err x) p q = absurd (let z : ◌≡◌ {A = ℕ} 0 1 = cc in omega arith)
    found (Ok kind) p q = whole kind (said_in kind bs) (kind_is (get_or bs 0 0) kind p) refl q

-- ⟨ rows that no kind fits ⟩

-- a row that is longer than any frame
pub longer_than_any : (kind : Kind) (bs : List ℕ) → 1027 < length bs → said_in kind bs ≡ None
longer_than_any Append bs h = grind (arith, nat_tests)
longer_than_any Assign bs h = grind (arith, nat_tests)
longer_than_any BeginPark bs h = grind (arith, nat_tests)
longer_than_any ResumeFinish bs h = grind (arith, nat_tests)
longer_than_any Verdict bs h = grind (arith, nat_tests)
longer_than_any Tally bs h = grind (arith, nat_tests)
longer_than_any SetUpResidue bs h = grind (arith, nat_tests)
longer_than_any SetUpListed bs h = grind (arith, nat_tests)
