-- Two files that agree on a part.
use Rattle.std.specs.Prelude.{◌≡◌, List, ℕ, take, drop}

-- the n bytes from off are the same in both, as far as each has them
pub record Same (off n : ℕ) (xs ys : List ℕ) : Type 0 where
  pub bytes : take n (drop off xs) ≡ take n (drop off ys)
