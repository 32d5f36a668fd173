-- The zeros of a list.
use Rattle.std.specs.Prelude.{Bool, cond, List, [], ◌∷◌, ℕ, zero, suc, eqb}

-- the place of the first zero: the length where there is none
unfoldable pub first_zero : List ℕ → ℕ
first_zero [] = 0
first_zero (x ∷ xs) = cond (eqb x 0) 0 (suc (first_zero xs))

-- how many zeros there are
unfoldable pub zeros_in : List ℕ → ℕ
zeros_in [] = 0
zeros_in (x ∷ xs) = cond (eqb x 0) (suc (zeros_in xs)) (zeros_in xs)

-- one past the last zero: 0 where there is none
abbrev pub end_before : Bool → ℕ → ℕ
end_before b zero = cond b 1 0
end_before b (suc n) = suc (suc n)

unfoldable pub zero_end : List ℕ → ℕ
zero_end [] = 0
zero_end (x ∷ xs) = end_before (eqb x 0) (zero_end xs)
