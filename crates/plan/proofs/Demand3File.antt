-- Demand 3 and the mission's sentences on builds and moves, for every file: no premise says anything of it.
use mathlib.Core.Path.{◌≡◌}
use mathlib.Core.Bool.{Bool}
use mathlib.Core.List.{List, [], ◌∷◌, ◌++◌}
use Prim.Native.Nat.{ℕ}
use lib.ListN.{length, get_or}
use Rattle.update.specs.Update.{Bytes}
use Rattle.history.specs.Images.{Images, All, image_of, InField}
use Rattle.history.specs.Plan.{Plan, SamePlan, built_images}
use Rattle.history.specs.Call.{Call, build, move, effect, run, Accepts}
use Rattle.history.specs.Book.{book_after, book_images, Chain}
use Rattle.history.proofs.Demand3.{demand-3}
use Rattle.history.proofs.Corollaries.{reached-images, build-move-move, build-move-back, move-back, move_same, move-outside}
use Rattle.plan.specs.Relocatable.{relocatable_at}
use Rattle.plan.proofs.Sound.{relocatable-sound}

-- "For every list of builds and moves on them, with whatever plans, refused calls included, the buffers then equal, byte for byte, the images of the book"
pub demand-3-file : (file : List ℕ) (cs : List Call) (x : Images)
    → run (relocatable_at file) cs x ≡ book_images (relocatable_at file) (book_after (relocatable_at file) cs x)
demand-3-file file = demand-3 (relocatable_at file) (relocatable-sound file)

-- "If a build was accepted, and each accepted move after the last such build goes from the plan that the accepted call before it reached, these are the
-- images that demand 2 defines for the last plan so reached."
pub reached-images-file : (file : List ℕ) (x : Images) (before : List Call) (p : Plan) (after : List Call) (r : Plan)
    → Accepts (relocatable_at file) x (build p) → Chain (relocatable_at file) (length x.text) (length x.dat) p after r
    → run (relocatable_at file) (before ++ (build p ∷ after)) x ≡ built_images (relocatable_at file) r
reached-images-file file = reached-images (relocatable_at file) (relocatable-sound file)

-- "So for plans P, Q and R, with every call accepted, a build for P moved to Q and on to R equals building for R"
pub build-move-move-file : (file : List ℕ) (x : Images) (p q r : Plan)
    → Accepts (relocatable_at file) x (build p) → Accepts (relocatable_at file) x (move p q) → Accepts (relocatable_at file) x (move q r)
    → run (relocatable_at file) (build p ∷ move p q ∷ move q r ∷ []) x ≡ effect (relocatable_at file) (build r) x
build-move-move-file file = build-move-move (relocatable_at file) (relocatable-sound file)

-- "moving back restores the start": what the build for P left
pub build-move-back-file : (file : List ℕ) (x : Images) (p q : Plan) → Accepts (relocatable_at file) x (build p) → Accepts (relocatable_at file) x (move p q)
    → run (relocatable_at file) (build p ∷ move p q ∷ move q p ∷ []) x ≡ effect (relocatable_at file) (build p) x
build-move-back-file file = build-move-back (relocatable_at file) (relocatable-sound file)

-- the same of any bytes, whether the moves are accepted or refused
pub move-back-file : (file : List ℕ) (x : Images) → Bytes x.text → Bytes x.dat → (p q : Plan)
    → run (relocatable_at file) (move p q ∷ move q p ∷ []) x ≡ x
move-back-file file = move-back (relocatable_at file) (relocatable-sound file)

-- "moving to the same plan changes nothing": on any bytes, whether it is accepted or refused
pub move-same-file : (file : List ℕ) (x : Images) → Bytes x.text → Bytes x.dat → (p q : Plan) → SamePlan (relocatable_at file) p q
    → effect (relocatable_at file) (move p q) x ≡ x
move-same-file file = move_same (relocatable_at file) (relocatable-sound file)

-- "No move changes a byte outside the fields named by the module's loader relocation entries."
pub move-outside-file : (file : List ℕ) (p q : Plan) (x : Images) (t : Bool) (k : ℕ) → All (λ e. InField t k e → ⊥) (relocatable_at file).entries
    → get_or (image_of t (effect (relocatable_at file) (move p q) x)) k 0 ≡ get_or (image_of t x) k 0
move-outside-file file = move-outside (relocatable_at file)
