-- What an order needs other workers to have finished first, by its meaning over the intentions. Assumes nothing.
use Rattle.std.specs.Prelude.{ℕ, cond, ◌&&◌, ◌==◌, nat_eq}
use Rattle.terms.specs.Maps.{MapMeaning}
use Rattle.model.specs.Finding.{last}
use Rattle.model.specs.Words.{Intention, touches, worker, is_joint}

-- the highest joint number below k that touches p, or 0
unfoldable pub last_joint : MapMeaning → (ℕ → Intention) → ℕ → ℕ → ℕ
last_joint m it p k = last (λ j. is_joint m (it j) && touches m (it j) p) k

-- the highest plain number below k on p, or 0
unfoldable pub last_plain : MapMeaning → (ℕ → Intention) → ℕ → ℕ → ℕ
last_plain m it p k = last (λ j. nat_eq (worker m (it j)) p) k

-- what k needs from worker v. A plain order needs from worker 0 the last joint number on its partition;
-- a joint order needs from each partition that it touches the last plain number there.
unfoldable pub need_of : MapMeaning → (ℕ → Intention) → ℕ → ℕ → ℕ
need_of m it k v =
    cond (v == 0)
    (cond (is_joint m (it k)) 0 (last_joint m it (worker m (it k)) k))
    (cond (is_joint m (it k) && touches m (it k) v) (last_plain m it v k) 0)
