-- Bench figures of document 01, computed from the definitions. Assumes nothing.
use Prim.Native.Nat.{ℕ}
use mathlib.Core.Path.{◌≡◌, refl}
use mathlib.Core.Bool.{false}
use mathlib.Core.List.{List, [], ◌∷◌, map}
use Rattle.word.specs.Zero.{first_zero}
use Rattle.format.specs.declared.Format.TheVariants.{Xcoff32}
use Rattle.format.specs.declared.SymbolIndex.{SymbolIndex}
use Rattle.format.specs.Range.{range}
use Rattle.refusal.specs.declared.Refusal.TheVariants.{Name}
use Rattle.refusal.specs.Part.{range_bytes}
use Rattle.symbol.specs.declared.Tables.{Tables}
use Rattle.symbol.specs.declared.SymbolEntry.{SymbolEntry}
use Rattle.format.specs.declared.NameField.TheVariants.{Offset}
use Rattle.symbol.specs.Name.{string_room, is_debug_class, room_by, name_in}
use Rattle.std.specs.Prelude.{Err, None, Ok, Result}
use Rattle.refusal.specs.declared.Refusal.{Refusal}
use Rattle.format.specs.declared.FileRange.{FileRange}

abbrev pub strings : List ℕ
strings = 0 ∷ 0 ∷ 0 ∷ 7 ∷ 0x61 ∷ 0x62 ∷ 0 ∷ []

abbrev pub tables : Tables
tables = record { format = Xcoff32; nscns = 0; start = record { 0 = 0 }; count = 0; strings = range 0 7; ends = 7; debug = None; version2 = false }

abbrev pub index : SymbolIndex
index = record { 0 = 9 }

-- an entry whose name is at an offset
abbrev pub entry : ℕ → SymbolEntry
entry o = record { name = Offset o; value = 0; scnum = 0; ntype = 0; sclass = 0; numaux = 0 }

-- where its name lies, and the name's bytes
abbrev pub named : ℕ → Result FileRange Refusal × List ℕ
named o = (name_in strings tables index (entry o), range_bytes strings (name_in strings tables index (entry o)))

-- P10: offset 4 is `ab`, 6 is empty, 3 and 7 are NAME
pub p10 : map named (4 ∷ 6 ∷ 3 ∷ 7 ∷ []) ≡ (Ok (range 4 2), 0x61 ∷ 0x62 ∷ []) ∷ (Ok (range 6 0), []) ∷ (Err (Name index), []) ∷ (Err (Name index), []) ∷ []
unfolding room_by is_debug_class string_room first_zero
p10 = refl
