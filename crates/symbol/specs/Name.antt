-- Where the name of an entry lies: a part of the file, or NAME.
use Rattle.std.specs.Prelude.{ℕ, ◌+◌, ◌-◌, ◌%◌, Bool, true, cond, ◌||◌, ◌&&◌, List, eqb, ltb, leb, drop, Err, Ok, Result}
use Rattle.word.specs.Number.{bytes_in}
use Rattle.word.specs.Zero.{first_zero}
use Rattle.format.specs.declared.FileRange.{FileRange}
use Rattle.format.specs.declared.NameField.{NameField}
use Rattle.format.specs.declared.NameField.TheVariants.{Short, Offset}
use Rattle.format.specs.declared.SymbolIndex.{SymbolIndex}
use Rattle.format.specs.Layout.{short_name}
use Rattle.format.specs.Range.{range, bytes_of, text_of}
use Rattle.refusal.specs.declared.Refusal.TheVariants.{Name}
use Rattle.debug_section.specs.Debug.{has_string, string_range}
use Rattle.symbol.specs.declared.Tables.{Tables}
use Rattle.symbol.specs.declared.SymbolEntry.{SymbolEntry}
use Rattle.symbol.specs.Entry.{entry_start}
use Rattle.refusal.specs.declared.Refusal.{Refusal}

-- ---- the bytes that a name may take

-- a string of the string table: all from its offset to the table's end, with a zero among them
unfoldable pub string_room : List ℕ → FileRange → ℕ → SymbolIndex → Result FileRange Refusal
string_room file strings o i =
    cond (ltb o 4 || leb strings.length o) (Err (Name i))
    (cond (leb (strings.length - o) (first_zero (drop o (bytes_of file strings)))) (Err (Name i))
    (Ok (range (strings.start.0 + o) (strings.length - o))))

-- a string of the debug section: as many as the length before it says
unfoldable pub debug_room : List ℕ → Tables → ℕ → SymbolIndex → Result FileRange Refusal
debug_room file t o i = cond (has_string t.format file t.debug o) (Ok (string_range t.format file t.debug o)) (Err (Name i))

-- a debug class: bit 80 hex
unfoldable pub is_debug_class : ℕ → Bool
is_debug_class sclass = leb 0x80 (sclass % 0x100)

-- a short name: the entry's own 8. Offset 0: none, at the start of the file. Else by the class
unfoldable pub room_by : List ℕ → Tables → SymbolIndex → ℕ → NameField → Result FileRange Refusal
room_by file t i sclass Short = Ok (range (entry_start t i.0 + short_name.offset) (bytes_in short_name.width))
room_by file t i sclass (Offset o) =
    cond (eqb o 0) (Ok (range 0 0))
    (cond (is_debug_class sclass) (debug_room file t o i) (string_room file t.strings o i))

-- of the entry e at index i
abbrev pub room_in : List ℕ → Tables → SymbolIndex → SymbolEntry → Result FileRange Refusal
room_in file t i e = room_by file t i e.sclass e.name

-- ---- the name: those bytes up to their first zero, or all of them

abbrev pub name_from : List ℕ → Result FileRange Refusal → Result FileRange Refusal
name_from file (Ok r) = Ok (text_of file r)
name_from file (Err x) = Err x

abbrev pub name_in : List ℕ → Tables → SymbolIndex → SymbolEntry → Result FileRange Refusal
name_in file t i e = name_from file (room_in file t i e)

-- whether a name lies somewhere, by the end of the strings: serves the contract of `has_name` alone
unfoldable pub has_name : List ℕ → Tables → ℕ → NameField → Bool
has_name file t sclass Short = true
has_name file t sclass (Offset o) =
    eqb o 0 || cond (is_debug_class sclass) (has_string t.format file t.debug o) (leb 4 o && ltb o t.ends)
