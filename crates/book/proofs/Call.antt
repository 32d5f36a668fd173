-- One call, and a list of them: what each outcome leaves, and that lengths are kept. Once for every machine of builds and moves. Assumes nothing.
use mathlib.Core.Path.{◌≡◌, refl, sym, ◌∙◌}
use mathlib.Core.List.{List, [], ◌∷◌, ◌++◌}
use Rattle.refusal.specs.declared.Refusal.{Refusal}
use Rattle.refusal.specs.Order.{if_accepted}
use Rattle.book.specs.Machine.{Shifts, Call, Machine, differences, accepted, effect, run, Accepts}
use Rattle.book.specs.Machine.Call.{build, move}
use Rattle.std.specs.Prelude.{Err, Ok}
use Rattle.refusal.specs.Verdict.{Verdict}

module _ {X L P : Type 0} (m : Machine X L P) where
  -- what holds of both outcomes of a call holds of what it leaves
  pub effect-either : (Q : X → Type 0) (c : Call P) (x : X) → (Accepts m x c → Q (accepted m c x))
      → ((r : Refusal) → m.check (m.lengths x) x c ≡ Err r → Q x) → Q (effect m c x)
  effect-either Q c x if-accepted if-refused = by-verdict (m.check (m.lengths x) x c) refl
    where
      by-verdict : (v : Verdict) → m.check (m.lengths x) x c ≡ v → Q (if_accepted v (accepted m c x) x)
      by-verdict (Ok tt) e = if-accepted e
      by-verdict (Err r) e = if-refused r e

  -- demand 1: "A refusal changes no byte of any buffer I lend."
  pub refused-nothing : (c : Call P) (x : X) (r : Refusal) → m.check (m.lengths x) x c ≡ Err r → effect m c x ≡ x
  refused-nothing c x r e = rw e refl

  -- what an accepted call leaves
  pub effect-accepted : (c : Call P) (x : X) → Accepts m x c → effect m c x ≡ accepted m c x
  effect-accepted c x e = rw e refl

  -- lists of calls, one after the other
  pub run-append : (cs ds : List (Call P)) (x : X) → run m (cs ++ ds) x ≡ run m ds (run m cs x)
  unfolding run
  run-append [] ds x = refl
  run-append (c ∷ cs) ds x = run-append cs ds (effect m c x)

-- ---- every call keeps the lengths

-- what that asks of a machine
pub record LengthLaws {X L P : Type 0} (m : Machine X L P) : Type 0 where
  -- ROOM: the buffers of an accepted call have the raw images' lengths
  pub room : (x : X) (c : Call P) → Accepts m x c → m.lengths x ≡ m.lengths m.raw
  -- shifts applied keep the lengths
  pub keeps : (s : Shifts) (x : X) → m.lengths (m.apply s x) ≡ m.lengths x

module _ {X L P : Type 0} (m : Machine X L P) (law : LengthLaws m) where
  -- an accepted call
  accepted-lengths : (c : Call P) (x : X) → m.lengths x ≡ m.lengths m.raw → m.lengths (accepted m c x) ≡ m.lengths x
  accepted-lengths (build p) x e = law.keeps (m.displacements p) m.raw ∙ sym e
  accepted-lengths (move p q) x e = law.keeps (differences m p q) x

  -- any call
  pub effect-lengths : (c : Call P) (x : X) → m.lengths (effect m c x) ≡ m.lengths x
  effect-lengths c x = effect-either m (λ y. m.lengths y ≡ m.lengths x) c x (λ e. accepted-lengths c x (law.room x c e)) (λ r e. refl)

  -- a list of calls
  pub run-lengths : (cs : List (Call P)) (x : X) → m.lengths (run m cs x) ≡ m.lengths x
  unfolding run
  run-lengths [] x = refl
  run-lengths (c ∷ cs) x = run-lengths cs (effect m c x) ∙ effect-lengths c x
