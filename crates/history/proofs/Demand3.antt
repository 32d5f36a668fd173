-- Demand 3: after every list of builds and moves, refused calls included, the buffers are the images of the book.
use mathlib.Core.Path.{◌≡◌}
use mathlib.Core.List.{List, []}
use Rattle.book.proofs.Book.{Lawful}
use Rattle.book.proofs.Book as book
use Rattle.history.specs.Images.{Images}
use Rattle.history.specs.Plan.{Relocatable, Sound}
use Rattle.history.specs.Call.{Call, run, machine_of}
use Rattle.history.specs.Book.{book_after, book_images}
use Rattle.history.proofs.Apply.{apply_all-add}
use Rattle.history.proofs.Check.{module-lengths, lengths-inside}

-- a sound module meets what the theorem of the book asks of a machine
pub module-lawful : (m : Relocatable) → Sound m → Lawful (machine_of m)
module-lawful m sound =
    record { lengths = module-lengths m; adds = λ s t x e. apply_all-add m.entries s t x (lengths-inside m sound x e) sound.pairwise }

-- "For every list of builds and moves on them, with whatever plans, refused calls included, the buffers then equal, byte for byte, the images of the book"
pub demand-3 : (m : Relocatable) → Sound m → (cs : List Call) (x : Images) → run m cs x ≡ book_images m (book_after m cs x)
unfolding run book_images book_after
demand-3 m sound cs x = book.book (machine_of m) (module-lawful m sound) cs x

-- a module with no entries, as a refused file is, is sound
pub no-entries-sound : (m : Relocatable) → m.entries ≡ [] → Sound m
no-entries-sound m e = record { inside = rw e tt; pairwise = rw e tt }
