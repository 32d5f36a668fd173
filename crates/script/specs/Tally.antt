-- What a list of calls answers, whatever an answer is.
use Rattle.std.specs.Prelude.{List, [], ◌∷◌, ℕ, ◌+◌, Result, Ok, Err}
use Rattle.book.specs.Machine.{Call, Machine, effect}

-- the answer of each call, made on what the last one left
unfoldable pub answers_of : {X L P A : Type 0} → Machine X L P → (X → Call P → A) → List (Call P) → X → List A
answers_of m ask [] x = []
answers_of m ask (c ∷ cs) x = ask x c ∷ answers_of m ask cs (effect m c x)

-- a number of each answer, summed
unfoldable pub sum_of : {A : Type 0} → (A → ℕ) → List A → ℕ
sum_of one [] = 0
sum_of one (a ∷ bs) = one a + sum_of one bs

-- the last answer, or the given one where there is none
unfoldable pub last_of : {A : Type 0} → A → List A → A
last_of a [] = a
last_of a (b ∷ bs) = last_of b bs

-- 1 of an accepted call, 0 of a refused one
unfoldable pub accepted_one : {A E : Type 0} → Result A E → ℕ
accepted_one (Ok r) = 1
accepted_one (Err x) = 0
