-- What the code has on its way to an answer: at how many places a text differs from a list, and a line as the values of its characters, so that a
-- line is judged and read without a branch. Contracts of inner functions cite it, those of public ones do not.
use Rattle.std.specs.Prelude.{cond, List, [], ◌∷◌, ℕ, zero, suc, ◌+◌, ◌*◌, eqb, get_or}
use Rattle.record.specs.Record.{digit_of, digit_in}

unfoldable pub differs : ℕ → ℕ → ℕ
differs a b = cond (eqb a b) 0 1

unfoldable pub misses : List ℕ → ℕ → List ℕ → ℕ
misses t p [] = 0
misses t p (b ∷ x) = differs (get_or t p 0) b + misses t (p + 1) x

-- the values of the n characters from p on
unfoldable pub values_at : List ℕ → ℕ → ℕ → List ℕ
values_at t p zero = []
values_at t p (suc n) = digit_in (get_or t p 0) ∷ values_at t (p + 1) n

unfoldable pub digits_of : List ℕ → List ℕ
digits_of [] = []
digits_of (v ∷ vs) = digit_of v ∷ digits_of vs

-- the bytes of values, two each
unfoldable pub joined : List ℕ → List ℕ
joined [] = []
joined (v ∷ []) = []
joined (v ∷ w ∷ vs) = (v * 16 + w) ∷ joined vs
