-- Tests over a list and over the numbers below a bound. Assumes nothing.
use Rattle.std.specs.Prelude.{ℕ, zero, suc, Bool, true, false, cond, ◌&&◌, ◌||◌, List, [], ◌∷◌}

-- some element passes
unfoldable pub any : {A : Type 0} → (A → Bool) → List A → Bool
any p [] = false
any p (x ∷ xs) = p x || any p xs

-- every element passes
unfoldable pub all : {A : Type 0} → (A → Bool) → List A → Bool
all p [] = true
all p (x ∷ xs) = p x && all p xs

-- some number below k passes
unfoldable pub exists : (ℕ → Bool) → ℕ → Bool
exists f zero = false
exists f (suc k) = f k || exists f k

-- the highest number below k that passes, or 0
unfoldable pub last : (ℕ → Bool) → ℕ → ℕ
last f zero = 0
last f (suc k) = cond (f k) k (last f k)
