-- The tables of an accepted file give what the look-ups by file and index give. Assumes nothing.
use Prim.Native.Nat.{ℕ}
use mathlib.Core.Path.{◌≡◌, refl, sym, ◌∙◌}
use mathlib.Core.List.{List}
use Rattle.format.specs.declared.FileRange.{FileRange}
use Rattle.format.specs.declared.SymbolIndex.{SymbolIndex}
use Rattle.symbol.specs.declared.Tables.{Tables}
use Rattle.symbol.specs.declared.SymbolEntry.{SymbolEntry}
use Rattle.symbol.specs.declared.Symbol.{Symbol}
use Rattle.symbol.specs.Entry.{OpenTables, entry_of}
use Rattle.symbol.specs.Name.{room_in}
use Rattle.symbol.specs.Symbol.{name_check, symbol_in}
use Rattle.symbol.proofs.Checks.{name-accepted}
use Rattle.symbol_lookup.specs.Lookup.{symbol_at}
use Rattle.symbol_lookup.proofs.Lookup.{at-opened}
use Rattle.csect_lookup.specs.Lookup.{csect_in, csect_at}
use Rattle.csect_lookup.proofs.Answers.{csect-opened}
use Rattle.symbol_table.specs.Row.{range_of, symbol_room}
use Rattle.std.specs.Prelude.{Ok, Result}
use Rattle.refusal.specs.declared.Refusal.{Refusal}
use Rattle.csect.specs.declared.Csect.{Csect}

module _ (file : List ℕ) (t : Tables) (o : OpenTables file t) (i : SymbolIndex) where
  pub csect-is : {c : Result Csect Refusal} → c ≡ csect_in file t i → csect_at file i ≡ c
  csect-is e = sym (csect-opened file i o) ∙ sym e

  pub symbol-is : {s : Symbol} → symbol_in file t i ≡ Ok s → symbol_at file i ≡ Ok s
  symbol-is e = sym (at-opened file i o) ∙ e

  -- the entry as the code reads it
  module _ {e : SymbolEntry} (q : e ≡ entry_of file t i) where
    pub room-is : {r : FileRange} → Ok r ≡ room_in file t i e → symbol_room file i ≡ r
    unfolding symbol_room
    room-is {r} p =
        let z : range_of (room_in file t i (entry_of file t i)) ≡ r = rw (← q, ← p) refl in
        rw o.tables at z

    pub entry_named : {s : Symbol} → symbol_in file t i ≡ Ok s → name_check file t i e ≡ Ok tt
    entry_named k = rw q (name-accepted file t i k)
