-- A symbol's name from where it starts and how many bytes it may take. Assumes nothing.
use Prim.Native.Nat.{ℕ}
use mathlib.Core.Path.{◌≡◌, refl}
use mathlib.Core.List.{List}
use Rattle.format.specs.declared.SymbolIndex.{SymbolIndex}
use Rattle.format.specs.Range.{text_of}
use Rattle.refusal.proofs.Order.{not-accepted}
use Rattle.symbol.specs.declared.Symbol.{Symbol}
use Rattle.symbol.specs.Entry.{tables_at, entry_of}
use Rattle.symbol.specs.Name.{room_in, name_from}
use Rattle.symbol.specs.Symbol.{verdict_of, name_check}
use Rattle.symbol.proofs.Checks.{name-accepted}
use Rattle.symbol_lookup.specs.Lookup.{symbol_at, name_behind, symbol_name_at}
use Rattle.symbol_lookup.proofs.Lookup.{found_in}
use Rattle.symbol_table.specs.Row.{range_of, symbol_room}
use Rattle.std.specs.Prelude.{Err, Ok, Result}
use Rattle.refusal.specs.declared.Refusal.{Refusal}
use Rattle.format.specs.declared.FileRange.{FileRange}

accepted-found : (file : List ℕ) (a : Result FileRange Refusal) → verdict_of a ≡ Ok tt → name_from file a ≡ Ok (text_of file (range_of a))
accepted-found file (Ok r) e = refl
accepted-found file (Err x) e = not-accepted e

-- the name of a symbol that is found: from its start up to the first zero of the bytes that it may take, or all of them
pub name-cut : (file : List ℕ) (i : SymbolIndex) {s : Symbol} → symbol_at file i ≡ Ok s → symbol_name_at file i ≡ Ok (text_of file (symbol_room file i))
unfolding symbol_name_at name_behind symbol_room name_check
name-cut file i k =
    let t = tables_at file in
    rw k (accepted-found file (room_in file t i (entry_of file t i)) (name-accepted file t i (found_in file i k).1))
