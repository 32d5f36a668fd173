-- Demand 3 for object files, for every file. Assumes nothing.
use mathlib.Core.Path.{◌≡◌}
use mathlib.Core.Logic.{◌⊎◌}
use mathlib.Core.Bool.{true}
use mathlib.Core.List.{List, [], ◌∷◌, ◌++◌}
use Prim.Native.Nat.{ℕ, ◌+◌, ◌≤◌, ◌<◌}
use lib.ListN.{length, get_or}
use Rattle.refusal.specs.declared.Refusal.{Refusal}
use Rattle.field_kind.specs.Field.{bytes_in}
use Rattle.object_history.specs.Call.{Call, build, move, call_check, Accepts, effect, run, machine_of}
use Rattle.object_history.specs.Object.{Plan, SamePlan, built_image}
use Rattle.object_history.specs.Range.{is_branch}
use Rattle.object_history.specs.Book.{book_after, book_images}
use Rattle.object_history.proofs.Demand3 as objects
use Rattle.object_history.proofs.Corollaries as corollaries
use Rattle.object_history.proofs.Corollaries.{BranchAfter}
use Rattle.update.specs.Update.{Bytes}
use Rattle.book.specs.Machine as machine
use Rattle.book.specs.Entries.{All}
use Rattle.object_plan.specs.Object.{object_of}
use Rattle.object_plan.proofs.Sound.{object-sound}
use Rattle.std.specs.Prelude.{Err}

module _ (file : List ℕ) where
  -- "Demand 3 holds here too, for an object file, its one buffer and the entries above."
  pub demand-3-object : (cs : List Call) (x : List ℕ) → run (object_of file) cs x ≡ book_images (object_of file) (book_after (object_of file) cs x)
  demand-3-object cs x = objects.demand-3 (object_of file) (object-sound file) cs x

  -- RANGE is judged in a move from the buffer by the operation as from the book's images by the book
  pub same-verdict : (cs : List Call) (c : Call) (x : List ℕ)
      → call_check (object_of file) (length (run (object_of file) cs x)) (run (object_of file) cs x) c ≡ call_check (object_of file) (length x) (book_images (object_of file) (book_after (object_of file) cs x)) c
  same-verdict cs c x = objects.same-verdict (object_of file) (object-sound file) cs c x

  -- the images of the plan last reached
  pub reached-image : (x : List ℕ) (before : List Call) (p : Plan) (after : List Call) (r : Plan) → Accepts (object_of file) (run (object_of file) before x) (build p)
      → machine.Chain (machine_of (object_of file)) (built_image (object_of file) p) p after r → run (object_of file) (before ++ (build p ∷ after)) x ≡ built_image (object_of file) r
  reached-image x before p after r e c = corollaries.reached-images (object_of file) (object-sound file) x before p after r e c

  -- demand 1: "A refusal changes no byte of any buffer I lend."
  pub refused-nothing : (c : Call) (x : List ℕ) (r : Refusal) → call_check (object_of file) (length x) x c ≡ Err r → effect (object_of file) c x ≡ x
  refused-nothing c x r e = corollaries.refused-nothing (object_of file) c x r e

  -- each branch word after an accepted call: its signed value is the exact sum of that before and of all entries on the word, and its other six and two bits stay
  pub branches-after : (c : Call) (x : List ℕ) → Accepts (object_of file) x c
      → All (λ e. is_branch e.field.kind ≡ true → BranchAfter (object_of file) (object-sound file) c x e) (object_of file).entries
  branches-after c x a = corollaries.branches-after (object_of file) (object-sound file) c x a

  -- after an accepted build for P, the move to Q is answered, number and item, as a build for Q would be
  pub move-as-build : (p q : Plan) (x : List ℕ) → Accepts (object_of file) x (build p)
      → call_check (object_of file) (length (built_image (object_of file) p)) (built_image (object_of file) p) (move p q) ≡ call_check (object_of file) (length x) x (build q)
  move-as-build p q x e = corollaries.move-as-build (object_of file) (object-sound file) p q x e

  -- after an accepted build and moves that go each from the plan last reached, refused calls between them, a build for the last plan reached is accepted too and leaves the same
  pub chain-build : (x : List ℕ) (p : Plan) (after : List Call) (r : Plan) → Accepts (object_of file) x (build p) → machine.Chain (machine_of (object_of file)) (built_image (object_of file) p) p after r
      → Accepts (object_of file) x (build r) × (run (object_of file) (build p ∷ after) x ≡ effect (object_of file) (build r) x)
  chain-build x p after r a c = corollaries.chain-build (object_of file) (object-sound file) x p after r a c

  -- P to Q to R: the build for R is accepted too, and leaves the same
  pub build-move-move : (x : List ℕ) (p q r : Plan) → Accepts (object_of file) x (build p) → Accepts (object_of file) (effect (object_of file) (build p) x) (move p q)
      → Accepts (object_of file) (run (object_of file) (build p ∷ move p q ∷ []) x) (move q r)
      → Accepts (object_of file) x (build r) × (run (object_of file) (build p ∷ move p q ∷ move q r ∷ []) x ≡ effect (object_of file) (build r) x)
  build-move-move x p q r a b c = corollaries.build-move-move (object_of file) (object-sound file) x p q r a b c

  -- an accepted move can be moved back, and that restores the bytes
  pub move-back : (x : List ℕ) → Bytes x → (p q : Plan) → Accepts (object_of file) x (move p q)
      → Accepts (object_of file) (effect (object_of file) (move p q) x) (move q p) × (run (object_of file) (move p q ∷ move q p ∷ []) x ≡ x)
  move-back x h p q e = corollaries.move-back (object_of file) (object-sound file) x h p q e

  -- "moving to the same plan changes nothing": on any bytes, whether it is accepted or refused
  pub move_same : (x : List ℕ) → Bytes x → (p q : Plan) → SamePlan (object_of file) p q → effect (object_of file) (move p q) x ≡ x
  move_same x h p q s = corollaries.move_same (object_of file) (object-sound file) x h p q s

  -- "No move changes a byte outside the fields"
  pub move-outside : (p q : Plan) (x : List ℕ) (k : ℕ) → All (λ e. (k < e.field.offset) ⊎ (e.field.offset + bytes_in e.field.kind ≤ k)) (object_of file).entries
      → get_or (effect (object_of file) (move p q) x) k 0 ≡ get_or x k 0
  move-outside p q x k h = corollaries.move-outside (object_of file) (object-sound file) p q x k h
