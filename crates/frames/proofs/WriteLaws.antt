-- Lines of frames, written part by part.
use Rattle.std.proofs.Common.{◌≡◌, ℕ, suc, ◌+◌, ◌*◌, ◌/◌, ◌%◌, ◌<◌, ◌≤◌, List, [], ◌∷◌, ◌++◌, length, get_or, take, drop, Some, None, Ok, Option, Result, sym, refl, ap, subst, arith}
use Rattle.std.proofs.lemmas.List.{length-take-le, take_more}
use Rattle.terms.specs.declared.access.Access.{Access}
use Rattle.frames.specs.declared.fault.WriteFault.{WriteFault}
use Rattle.frames.specs.Hex.{hex_of, Bytes}
use Rattle.frames.specs.Contents.{Content, access_bytes, line_of, no_line_of, AccessesFit}
use Rattle.frames.specs.Contents.Content.{append, assign, begin_park, resume_finish, verdict, tally, set_up_residue, set_up_listed}
use Rattle.frames.specs.Writing.{over, unless}
use Rattle.frames.proofs.HexLaws.{length-hex_of}
use Rattle.frames.proofs.ContentLaws.{few_accesses, whole_table, length-access_bytes}
use Rattle.frames.proofs.PutLaws.{hex_of-append, over_more}

pub length-append_line : (s : ℕ) (xs : List Access) → length (line_of (append s xs)) ≡ 8 + 6 * length xs
length-append_line s xs = omega (arith, length-hex_of (access_bytes xs), length-access_bytes xs)

pub length-listed_line : (r n : ℕ) (table : List ℕ) → length (line_of (set_up_listed r n table)) ≡ 6 + 2 * length table
length-listed_line r n table = omega (arith, length-hex_of table)

-- the longest line is that of a listed map
pub line_short : (f : Content) → no_line_of f ≡ None → length (line_of f) ≤ 2054
line_short (append s xs) h = omega (arith, length-append_line s xs, few_accesses s xs h)
line_short assign h = omega arith
line_short (begin_park w) h = omega arith
line_short (resume_finish w) h = omega arith
line_short (verdict n) h = omega arith
line_short tally h = omega arith
line_short (set_up_residue r n) h = omega arith
line_short (set_up_listed r n t) h = omega (arith, length-listed_line r n t, whole_table r n t h)

-- a frame that is not refused has a line
pub has_line_is : (o : Option WriteFault) (u : Unit {0}) → ◌≡◌ {A = Result (Unit {0}) WriteFault} (Ok u) (unless o (Ok tt)) → o ≡ None
has_line_is None u h = refl
has_line_is (Some e) u h = absurd (let z : ◌≡◌ {A = ℕ} 0 1 = cc in omega arith)

access_bytes-push : (xs : List Access) (a : Access) → access_bytes (xs ++ a ∷ []) ≡ access_bytes xs ++ (a.mode ∷ (a.cell / 256) ∷ (a.cell % 256) ∷ [])
access_bytes-push [] a = refl
access_bytes-push (x ∷ xs) a = ap (λ (t : List ℕ). x.mode ∷ (x.cell / 256) ∷ (x.cell % 256) ∷ t) (access_bytes-push xs a)

-- one more access is written
pub access_more : (o : List ℕ) (xs : List Access) (i at end : ℕ) (w w' bytes : List ℕ) (d : Access) → at ≤ length o → i < length xs → end ≡ at + 6 * i → w ≡ take at o ++ over (hex_of (access_bytes (take i xs))) (drop at o) → bytes ≡ access_bytes (get_or xs i d ∷ []) → w' ≡ take end w ++ over (hex_of bytes) (drop end w) → w' ≡ take at o ++ over (hex_of (access_bytes (take (i + 1) xs))) (drop at o)
access_more o xs i at end w w' bytes d l h e inv f put =
    let n = length-take-le at o l in
    let m : length (take at o) + length (hex_of (access_bytes (take i xs))) ≡ end = omega (arith, length-hex_of (access_bytes (take i xs)), length-access_bytes (take i xs), length-take-le i xs (omega arith)) in
    let u = over_more (take at o) (hex_of (access_bytes (take i xs))) (drop at o) (hex_of (access_bytes (get_or xs i d ∷ []))) end m in
    let t = take_more xs i d h in
    let p = access_bytes-push (take i xs) (get_or xs i d) in
    let q = hex_of-append (access_bytes (take i xs)) (access_bytes (get_or xs i d ∷ [])) in
    cc

pub bytes_from_each : (bs : List ℕ) → ((i : ℕ) → get_or bs i 0 < 256) → Bytes bs
bytes_from_each [] h = tt
bytes_from_each (b ∷ bs) h = (h 0, bytes_from_each bs (λ i. h (suc i)))

fit_push : (xs : List Access) (a : Access) → AccessesFit xs → AccessesFit (a ∷ []) → AccessesFit (xs ++ a ∷ [])
fit_push [] a h f = f
fit_push (x ∷ xs) a h f = (h.0, h.1, fit_push xs a h.2 f)

-- one more access is within its widths
pub fit_more : (xs : List Access) (i : ℕ) (d : Access) → i < length xs → AccessesFit (take i xs) → AccessesFit (get_or xs i d ∷ []) → AccessesFit (take (i + 1) xs)
fit_more xs i d h fits more = subst AccessesFit (sym (take_more xs i d h)) (fit_push (take i xs) (get_or xs i d) fits more)
