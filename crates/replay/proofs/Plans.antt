-- The addresses and lists read from a script are those of its plans.
use mathlib.Core.Path.{◌≡◌, refl, ◌∙◌, ap, ap₂}
use mathlib.Core.List.{List}
use Prim.Native.Nat.{ℕ, ◌+◌, ◌≤◌}
use native.Mathlib.Omega.{arith}
use lib.ListN.{length, get_or}
use Rattle.script.proofs.Plans.{plan-fits}
use Rattle.history.specs.Images.{images}
use Rattle.history.specs.Plan.{Plan, Relocatable}
use Rattle.history.specs.Call.{Call, build, move, answer_of, effect}
use Rattle.displacement.specs.declared.Addresses.{Addresses}
use Rattle.displacement.specs.Reach.{plan_of}
use Rattle.replay.specs.Script.{plan_end, plan_at}
use Rattle.std.specs.Prelude.{Result}
use Rattle.refusal.specs.declared.Refusal.{Refusal}
use Rattle.history.specs.declared.Reached.{Reached}

module _ (s : List ℕ) (at : ℕ) where
  -- a plan that has an end has its addresses in the script
  pub plan-addresses : (plan_end s at ≡ 0 → ⊥) → at + 2 ≤ length s
  plan-addresses nz =
      let f = plan-fits 2 s at nz in
      omega arith

  -- a plan's addresses, read one by one
  abbrev pub AddressesAt : Addresses → Type 0
  AddressesAt a = (a.text.0 ≡ get_or s at 0) × (a.«data».0 ≡ get_or s (at + 1) 0)

  -- the addresses and the list are the plan
  plan-read : (a : Addresses) (l : List ℕ) → AddressesAt a → l ≡ (plan_at s at).list → plan_of a l ≡ plan_at s at
  unfolding plan_at
  plan-read a l h e = rw (h.0, h.1, e) refl

-- ---- the calls that were read

-- a call on buffers of t and d is answered by a, and leaves t' and d'
abbrev pub Made : Relocatable → Call → List ℕ → List ℕ → Result Reached Refusal → List ℕ → List ℕ → Type 0
Made m c t d a t' d' = (a ≡ answer_of m (length t) (length d) c) × (images t' d' ≡ effect m c (images t d))

module _ (m : Relocatable) (t d : List ℕ) (a : Result Reached Refusal) (t' d' : List ℕ) where
  -- equal calls are answered alike and leave the same
  pub by_call : (c k : Call) → Made m c t d a t' d' → c ≡ k → Made m k t d a t' d'
  by_call c k h e = (h.0 ∙ ap (answer_of m (length t) (length d)) e, h.1 ∙ ap (λ (c : Call). effect m c (images t d)) e)

  module _ (s : List ℕ) (at : ℕ) where
    -- a build for what was read is the build for the plan
    pub built-plan : (b : Addresses) (l : List ℕ) → AddressesAt s at b → l ≡ (plan_at s at).list
        → Made m (build (plan_of b l)) t d a t' d' → Made m (build (plan_at s at)) t d a t' d'
    built-plan b l h e k = by_call _ _ k (ap build (plan-read s at b l h e))

    -- a move between what was read is the move between the two plans
    pub moved-plans : (next : ℕ) (b b' : Addresses) (l l' : List ℕ) → next ≡ plan_end s at
        → AddressesAt s at b → l ≡ (plan_at s at).list → AddressesAt s next b' → l' ≡ (plan_at s next).list
        → Made m (move (plan_of b l) (plan_of b' l')) t d a t' d' → Made m (move (plan_at s at) (plan_at s (plan_end s at))) t d a t' d'
    moved-plans next b b' l l' n h e h' e' k =
        by_call _ _ k (ap₂ (λ (p q : Plan). move p q) (plan-read s at b l h e) (plan-read s next b' l' h' e' ∙ ap (plan_at s) n))
