-- Steps of the loops over accesses.
use Rattle.std.proofs.Common.{◌≡◌, ℕ, zero, suc, ◌+◌, ◌*◌, ◌<◌, ◌≤◌, Bool, true, List, [], ◌∷◌, length, get_or, drop, set, arith}
use Rattle.std.proofs.lemmas.List.{at_drop_more, at_drop_all}
use Rattle.std.proofs.lemmas.Bool.{and_parts}
use Rattle.terms.specs.declared.access.Access.{Access}
use Rattle.model.specs.Finding.{all}
use Rattle.model.specs.Model.{marking}

abbrev pub no_access : Access
no_access = record { mode = 0; cell = 0 }

pub all_at : {A : Type 0} (p : A → Bool) (xs : List A) (i : ℕ) (d : A) → i < length xs → all p xs ≡ true → p (get_or xs i d) ≡ true
unfolding all
all_at p [] i d l h = absurd (omega arith)
all_at p (x ∷ xs) zero d l h = (and_parts (p x) _ h).0
all_at p (x ∷ xs) (suc i) d l h = all_at p xs i d (omega arith) (and_parts (p x) _ h).1

pub marking_more : (k : ℕ) (accesses : List Access) (i : ℕ) (d : Access) (marks : List ℕ) → i < length accesses → marking k (drop i accesses) marks ≡ marking k (drop (i + 1) accesses) (set marks (4 * (get_or accesses i d).cell + (get_or accesses i d).mode) k)
unfolding marking
marking_more k accesses i d marks l = at_drop_more (λ xs. marking k xs marks) accesses i d l

pub marking_all : (k : ℕ) (accesses : List Access) (i : ℕ) (marks : List ℕ) → length accesses ≤ i → marking k (drop i accesses) marks ≡ marks
unfolding marking
marking_all k accesses i marks l = at_drop_all (λ xs. marking k xs marks) accesses i l
