-- Builds and moves on images of any shape: what a call leaves in the buffers, and what a list of calls leaves.
use Rattle.std.specs.Prelude.{List, [], ◌∷◌, ℕ, ℤ, pos, ◌+ℤ◌, ◌-ℤ◌, ◌≡◌, Err, Ok}
use Rattle.refusal.specs.declared.Refusal.{Refusal}
use Rattle.refusal.specs.Order.{if_accepted}
use Rattle.refusal.specs.Verdict.{Verdict}

-- a shift is document 01's term: an exact whole number for each symbol
abbrev pub Shifts : Type 0
Shifts = ℕ → ℤ

abbrev pub unshifted : Shifts
unshifted i = pos 0

abbrev pub sum : Shifts → Shifts → Shifts
sum s t i = s i +ℤ t i

-- what t is more than s
abbrev pub difference : Shifts → Shifts → Shifts
difference s t i = t i -ℤ s i

-- a build for a plan, or a move from a plan to another; P is what a plan is
pub data Call (P : Type 0) : Type 0 where
  build : P → Call P
  move : P → P → Call P

-- what builds and moves are made of: X is what the buffers hold, L their lengths, P the plans
pub record Machine (X L P : Type 0) : Type 0 where
  pub raw : X
  pub displacements : P → Shifts
  pub apply : Shifts → X → X
  pub lengths : X → L
  -- a call is judged by the buffers' lengths and by what they hold
  pub check : L → X → Call P → Verdict

module _ {X L P : Type 0} (m : Machine X L P) where
  -- what the displacements of q are more than those of p
  abbrev pub differences : P → P → Shifts
  differences p q = difference (m.displacements p) (m.displacements q)

  -- the images for a plan: the raw ones with its displacements applied
  abbrev pub built_for : P → X
  built_for p = m.apply (m.displacements p) m.raw

  -- what an accepted call leaves in the buffers; a move takes them as they are
  abbrev pub accepted : Call P → X → X
  accepted (build p) x = built_for p
  accepted (move p q) x = m.apply (differences p q) x

  -- what a call leaves in the buffers: a refusal changes nothing
  abbrev pub effect : Call P → X → X
  effect c x = if_accepted (m.check (m.lengths x) x c) (accepted c x) x

  -- each call on what the last one left
  unfoldable pub run : List (Call P) → X → X
  run [] x = x
  run (c ∷ cs) x = run cs (effect c x)

  -- a call is accepted on buffers
  abbrev pub Accepts : X → Call P → Type 0
  Accepts x c = m.check (m.lengths x) x c ≡ Ok tt

  -- `Chain x p cs r`: on buffers x that p was reached in, no build of cs is accepted, and each accepted move goes from the plan that the accepted call
  -- before it reached, or from one with the same displacements; r is the last plan so reached
  pub data Chain : X → P → List (Call P) → P → Type 0 where
    ended : {x : X} {p : P} → Chain x p [] p
    moved : {x : X} {p o q r : P} {cs : List (Call P)} → Accepts x (move o q) → m.displacements o ≡ m.displacements p
        → Chain (effect (move o q) x) q cs r → Chain x p (move o q ∷ cs) r
    passed : {x : X} {p r : P} {c : Call P} {cs : List (Call P)} (z : Refusal) → m.check (m.lengths x) x c ≡ Err z → Chain x p cs r → Chain x p (c ∷ cs) r
