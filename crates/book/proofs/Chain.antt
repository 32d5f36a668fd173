-- Chains of moves from a build, once for every machine of builds and moves. Assumes nothing.
use mathlib.Core.Path.{◌≡◌, refl, sym, ◌∙◌, ap, fun_ext}
use mathlib.Core.List.{List, [], ◌∷◌, ◌++◌}
use lib.IntN.{ℤ, pos, neg_ℤ, ◌+ℤ◌, ◌-ℤ◌, +ℤ_comm, +ℤ_assoc, +ℤ_invr, -ℤ-+ℤ_cancel}
use Rattle.book.specs.Machine.{Shifts, unshifted, sum, Call, Machine, differences, built_for, effect, run, Accepts, Chain}
use Rattle.book.specs.Machine.Call.{build, move}
use Rattle.book.specs.Machine.Chain.{ended, moved, passed}
use Rattle.book.proofs.Call.{refused-nothing, effect-accepted, run-append}
use Rattle.book.proofs.Book.{Lawful}

module _ {X L P : Type 0} (m : Machine X L P) where
  -- a plan's displacements and the differences to another are the other's
  pub differences-reach : (p q : P) → sum (m.displacements p) (differences m p q) ≡ m.displacements q
  differences-reach p q =
      fun_ext (λ i. +ℤ_comm (m.displacements p i) (m.displacements q i -ℤ m.displacements p i) ∙ -ℤ-+ℤ_cancel (m.displacements q i) (m.displacements p i))

  -- the differences there and back add up to 0
  pub differences-back : (p q : P) → sum (differences m p q) (differences m q p) ≡ unshifted
  differences-back p q = fun_ext (λ i. back (m.displacements p i) (m.displacements q i))
    where
      back : (a b : ℤ) → (b -ℤ a) +ℤ (a -ℤ b) ≡ pos 0
      back a b = sym (+ℤ_assoc (b -ℤ a) a (neg_ℤ b)) ∙ ap (λ (z : ℤ). z -ℤ b) (-ℤ-+ℤ_cancel b a) ∙ +ℤ_invr b

  -- ---- images for a plan

  module _ (law : Lawful m) where
    -- a move of the images for a plan, from one with the same displacements, gives the images for the plan that it reaches
    pub built-moved : (p o q : P) → m.displacements o ≡ m.displacements p → m.apply (differences m o q) (built_for m p) ≡ built_for m q
    built-moved p o q s =
        law.adds (m.displacements p) (differences m o q) m.raw refl
        ∙ ap (λ (d : Shifts). m.apply d m.raw) (ap (λ (d : Shifts). sum d (differences m o q)) (sym s) ∙ differences-reach o q)

    -- an accepted move from a plan whose images are there leaves those of the plan that it reaches
    pub move-built : (x : X) (p o q : P) → m.displacements o ≡ m.displacements p → x ≡ built_for m p → Accepts m x (move o q)
        → effect m (move o q) x ≡ built_for m q
    move-built x p o q s b e = effect-accepted m (move o q) x e ∙ ap (m.apply (differences m o q)) b ∙ built-moved p o q s

    -- a chain of moves from p leaves the images for its last plan
    pub chain-images : (x : X) (p : P) (cs : List (Call P)) (r : P) → Chain m x p cs r → x ≡ built_for m p → run m cs x ≡ built_for m r
    unfolding run
    chain-images x p cs r ended b = b
    chain-images x p cs r (moved {o = o} {q = q} {cs = ds} e s c) b = chain-images (effect m (move o q) x) q ds r c (move-built x p o q s b e)
    chain-images x p cs r (passed {c = k} {cs = ds} z e c) b = ap (run m ds) (refused-nothing m k x z e) ∙ chain-images x p ds r c b

    -- "If a build was accepted, and each accepted move after the last such build goes from the plan that the accepted call before it reached, these are the
    -- images that demand 2 defines for the last plan so reached."
    pub reached-images : (x : X) (before : List (Call P)) (p : P) (after : List (Call P)) (r : P) → Accepts m (run m before x) (build p)
        → Chain m (built_for m p) p after r → run m (before ++ (build p ∷ after)) x ≡ built_for m r
    unfolding run
    reached-images x before p after r e c =
        run-append m before (build p ∷ after) x ∙ ap (run m after) (effect-accepted m (build p) (run m before x) e) ∙ chain-images (built_for m p) p after r c refl

    -- "So for plans P, Q and R, with every call accepted, a build for P moved to Q and on to R equals building for R"
    pub build-move-move : (x : X) (p q r : P) → Accepts m x (build p) → Accepts m (built_for m p) (move p q) → Accepts m (built_for m q) (move q r)
        → run m (build p ∷ move p q ∷ move q r ∷ []) x ≡ built_for m r
    build-move-move x p q r a b c =
        reached-images x [] p (move p q ∷ move q r ∷ []) r (unfold run in a)
        (moved b refl (moved (rw (move-built (built_for m p) p p q refl refl b) c) refl ended))
