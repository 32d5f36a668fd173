use Prim.Native.Nat.{◌-◌}
use mathlib.Core.Path.{◌≡◌}
use lib.ListN.{length}
use lib.Seq.{sets}
use Rattle.address_book.specs.Call.{filled}
use Rattle.address_table.specs.Table.{book_of}
use Rattle.address_fill.specs.Fill.{places_from}
use Rattle.address_fill.proofs.fill_list.Given as goal

abbrev pub invariant-loop-k : goal.invariant-loop-k
invariant-loop-k l = sets l.list l.k (filled (book_of l.table) l.bench (places_from l.file l.f l.symbols l.strings l.k (length l.initial.list - l.k))) ≡ filled (book_of l.table) l.bench (places_from l.file l.f l.symbols l.strings 0 (length l.initial.list))
