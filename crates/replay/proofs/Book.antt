-- A script's book.
use mathlib.Core.Path.{◌≡◌, sym}
use mathlib.Core.List.{List}
use Prim.Native.Nat.{ℕ}
use Rattle.history.specs.Images.{Images}
use Rattle.history.specs.Call.{run}
use Rattle.history.specs.Book.{book_after, book_images}
use Rattle.plan.specs.Relocatable.{relocatable_at}
use Rattle.plan.proofs.Demand3File.{demand-3-file}
use Rattle.replay.specs.Script.{calls_of}

-- the book's images after a script's calls are what running them leaves
pub replay-run : (file script : List ℕ) (x : Images)
    → book_images (relocatable_at file) (book_after (relocatable_at file) (calls_of script) x) ≡ run (relocatable_at file) (calls_of script) x
replay-run file script x = sym (demand-3-file file (calls_of script) x)
