-- The theorem of the book, once for every machine of builds and moves whose shifts add up. Assumes nothing.
use mathlib.Core.Path.{◌≡◌, refl, sym, ◌∙◌, ap, ap₂, fun_ext}
use mathlib.Core.Bool.{Bool, true, false}
use mathlib.Core.List.{List, [], ◌∷◌}
use lib.IntN.{+ℤ_idl}
use Rattle.refusal.specs.Order.{if_accepted}
use Rattle.book.specs.Machine.{Shifts, unshifted, sum, Call, Machine, differences, accepted, effect, run}
use Rattle.book.specs.Machine.Call.{build, move}
use Rattle.book.proofs.Call.{LengthLaws, effect-lengths, run-lengths}
use Rattle.book.specs.Book.{Book, first_book, entered, images_by, book_images, enter, enter_all, book_after}
use Rattle.std.specs.Prelude.{Err, Ok}
use Rattle.refusal.specs.Verdict.{Verdict}

-- what the theorem of the book asks of a machine
pub record Lawful {X L P : Type 0} (m : Machine X L P) : Type 0 where
  pub lengths : LengthLaws m
  -- on buffers of the raw images' lengths, by s and then by t is by their sum
  pub adds : (s t : Shifts) (x : X) → m.lengths x ≡ m.lengths m.raw → m.apply t (m.apply s x) ≡ m.apply (sum s t) x

module _ {X L P : Type 0} (m : Machine X L P) (law : Lawful m) where
  -- ---- one call on a book's images

  -- before the first accepted call every shift is 0
  abbrev Unbegun : Book X → Type 0
  Unbegun b = b.begun ≡ false → b.shifts ≡ unshifted

  -- the book's images are as long as its base
  images-lengths : (t : Bool) (s : Shifts) (x : X) → m.lengths (images_by m t s x) ≡ m.lengths x
  unfolding images_by
  images-lengths true s x = law.lengths.keeps s x
  images-lengths false s x = refl

  -- a move of the book's images is a move of its base by the sum
  move-images : (t : Bool) (s d : Shifts) (x : X) → (t ≡ false → s ≡ unshifted) → m.lengths x ≡ m.lengths m.raw
      → m.apply d (images_by m t s x) ≡ m.apply (sum s d) x
  unfolding images_by
  move-images true s d x z f = law.adds s d x f
  move-images false s d x z f =
      ap (λ (e : Shifts). m.apply e x) (sym (ap (λ (n : Shifts). sum n d) (z refl) ∙ fun_ext (λ i. +ℤ_idl (d i))))

  -- an accepted call on the book's images
  accepted-book : (c : Call P) (b : Book X) → Unbegun b → m.lengths b.base ≡ m.lengths m.raw
      → accepted m c (book_images m b) ≡ book_images m (entered m c b)
  unfolding book_images images_by entered
  accepted-book (build p) b z f = refl
  accepted-book (move p q) b z f = move-images b.begun b.shifts (differences m p q) b.base z f

  -- a call on the book's images, of buffers of lengths l, gives the images of the book with the call entered
  effect-book : (l : L) (c : Call P) (b : Book X) → Unbegun b → m.lengths (book_images m b) ≡ l → effect m c (book_images m b) ≡ book_images m (enter m l c b)
  unfolding enter book_images
  effect-book l c b z q =
      ap (λ (k : L). if_accepted (m.check k (book_images m b) c) (accepted m c (book_images m b)) (book_images m b)) q
      ∙ by-verdict (m.check l (book_images m b) c) refl
    where
      base-lengths : m.check l (book_images m b) c ≡ Ok tt → m.lengths b.base ≡ m.lengths m.raw
      base-lengths e = sym (images-lengths b.begun b.shifts b.base) ∙ law.lengths.room (book_images m b) c (rw q e)

      by-verdict : (v : Verdict) → m.check l (book_images m b) c ≡ v
          → if_accepted v (accepted m c (book_images m b)) (book_images m b) ≡ book_images m (if_accepted v (entered m c b) b)
      by-verdict (Ok tt) e = accepted-book c b z (base-lengths e)
      by-verdict (Err r) e = refl

  -- a book that has not begun stays so or begins
  enter-unbegun : (l : L) (c : Call P) (b : Book X) → Unbegun b → Unbegun (enter m l c b)
  unfolding enter entered
  enter-unbegun l c b z = by-verdict (m.check l (book_images m b) c) c
    where
      by-verdict : (w : Verdict) (k : Call P) → Unbegun (if_accepted w (entered m k b) b)
      by-verdict (Ok tt) (build p) = λ h. cc
      by-verdict (Ok tt) (move p q) = λ h. cc
      by-verdict (Err r) k = z

  -- ---- every list of calls

  -- what a list of calls leaves of a book's images are the images of the book with the calls entered
  run-book : (l : L) (cs : List (Call P)) (b : Book X) → Unbegun b → m.lengths (book_images m b) ≡ l → run m cs (book_images m b) ≡ book_images m (enter_all m l cs b)
  unfolding run enter_all
  run-book l [] b z q = refl
  run-book l (c ∷ cs) b z q =
      let here : effect m c (book_images m b) ≡ book_images m (enter m l c b) = effect-book l c b z q in
      ap (run m cs) here
      ∙ run-book l cs (enter m l c b) (enter-unbegun l c b z) (ap m.lengths (sym here) ∙ effect-lengths m law.lengths c (book_images m b) ∙ q)

  -- "For every list of builds and moves on them, with whatever plans, refused calls included, the buffers then equal, byte for byte, the images of the book"
  pub book : (cs : List (Call P)) (x : X) → run m cs x ≡ book_images m (book_after m cs x)
  unfolding book_after first_book book_images images_by
  book cs x = run-book (m.lengths x) cs (first_book x) (λ h. refl) refl

  -- a call after a list is judged by the buffers as the book judges it, from its images and the first buffers' lengths
  pub same-verdict : (cs : List (Call P)) (c : Call P) (x : X)
      → m.check (m.lengths (run m cs x)) (run m cs x) c ≡ m.check (m.lengths x) (book_images m (book_after m cs x)) c
  same-verdict cs c x = ap₂ (λ (l : L) (y : X). m.check l y c) (run-lengths m law.lengths cs x) (book cs x)
