-- The first refusal in an order of checks.
use Rattle.std.specs.Prelude.{ℕ, zero, suc, Bool, true, false, List, [], ◌∷◌, Err, Ok}
use Rattle.refusal.specs.declared.Refusal.{Refusal}
use Rattle.refusal.specs.Verdict.{Verdict}

-- the first verdict's refusal, or the second verdict
abbrev pub ◌or_else◌ : Verdict → Verdict → Verdict
(Ok tt) or_else v = v
(Err x) or_else v = Err x

infixr 4 ◌or_else◌
-- refused where the test holds
abbrev pub refuse_if : Bool → Refusal → Verdict
refuse_if true x = Err x
refuse_if false x = Ok tt

-- what is given where a verdict accepts, or for its refusal
abbrev pub by_verdict : {A : Type 0} → Verdict → A → (Refusal → A) → A
by_verdict (Ok tt) a f = a
by_verdict (Err x) a f = f x

-- the same, whatever the refusal is
abbrev pub if_accepted : {A : Type 0} → Verdict → A → A → A
if_accepted v a b = by_verdict v a (λ x. b)

-- the first refusal of a list of checks
abbrev pub first_refusal : List Verdict → Verdict
first_refusal [] = Ok tt
first_refusal (v ∷ vs) = v or_else first_refusal vs

-- the first refusal of the checks of a table's entries i, i + 1, .., n of them
unfoldable pub first_of : (ℕ → Verdict) → ℕ → ℕ → Verdict
first_of check i zero = Ok tt
first_of check i (suc n) = check i or_else first_of check (suc i) n
