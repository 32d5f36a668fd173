-- The book that a list of calls is held against, for images of any shape.
use Rattle.std.specs.Prelude.{Bool, true, false, List, [], ◌∷◌}
use Rattle.refusal.specs.Order.{if_accepted}
use Rattle.book.specs.Machine.{Shifts, unshifted, sum, Call, Machine, differences}
use Rattle.book.specs.Machine.Call.{build, move}

-- book, base and shift are document 01's terms: the book holds a base and for each symbol a shift; begun says that a call was accepted
pub record Book (X : Type 0) : Type 0 where
  pub base : X
  pub shifts : Shifts
  pub begun : Bool

-- at first the base is what the buffers hold and every shift is 0
unfoldable pub first_book : {X : Type 0} → X → Book X
first_book x = record { base = x; shifts = unshifted; begun = false }

module _ {X L P : Type 0} (m : Machine X L P) where
  -- a build sets the base to the raw images and the shifts to its plan's displacements; a move adds the to plan's minus the from plan's
  unfoldable pub entered : Call P → Book X → Book X
  entered (build p) b = record { base = m.raw; shifts = m.displacements p; begun = true }
  entered (move p q) b = record { base = b.base; shifts = sum b.shifts (differences m p q); begun = true }

  -- the base, from the first accepted call on with the shifts applied
  unfoldable pub images_by : Bool → Shifts → X → X
  images_by true s x = m.apply s x
  images_by false s x = x

  unfoldable pub book_images : Book X → X
  book_images b = images_by b.begun b.shifts b.base

  -- a refused call changes nothing; a call is judged by the buffers' lengths and by the book's own images
  unfoldable pub enter : L → Call P → Book X → Book X
  enter l c b = if_accepted (m.check l (book_images b) c) (entered c b) b

  unfoldable pub enter_all : L → List (Call P) → Book X → Book X
  enter_all l [] b = b
  enter_all l (c ∷ cs) b = enter_all l cs (enter l c b)

  -- the book after a list of calls: it is fed the calls, and of the buffers their lengths and what they hold before the first call
  unfoldable pub book_after : List (Call P) → X → Book X
  book_after cs x = enter_all (m.lengths x) cs (first_book x)
