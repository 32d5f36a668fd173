-- Loader relocation entries: what an entry holds, THREAD and LREL, and the field that it names.
use Rattle.std.specs.Prelude.{ℕ, ◌+◌, ◌-◌, ◌*◌, ◌/◌, ◌%◌, ◌≤◌, Bool, true, false, not, cond, ◌&&◌, ◌||◌, List, eqb, ltb, leb, length}
use Rattle.word.specs.Number.{field, field_in}
use Rattle.word.specs.declared.Width.TheVariants.{Two}
use Rattle.format.specs.declared.Format.{Format}
use Rattle.format.specs.declared.Format.TheVariants.{Xcoff32, Xcoff64}
use Rattle.format.specs.Layout.{relocation_layout}
use Rattle.format.specs.Limit.{file_limit, relocation_limit}
use Rattle.refusal.specs.declared.Refusal.TheVariants.{Thread, Lrel}
use Rattle.refusal.specs.declared.ThreadItem.TheVariants.{ThreadSymbol}
use Rattle.refusal.specs.Order.{◌or_else◌, refuse_if}
use Rattle.parts.specs.declared.Part.{Part}
use Rattle.parts.specs.declared.Parts.{Parts}
use Rattle.loader_header.specs.declared.LoaderTables.{LoaderTables}
use Rattle.relocation.specs.declared.RelocationEntry.{RelocationEntry}
use Rattle.relocation.specs.declared.FieldPlace.{FieldPlace}
use Rattle.refusal.specs.Verdict.{Verdict}

-- where relocation entry i starts, from 0
abbrev pub entry_start : Format → LoaderTables → ℕ → ℕ
entry_start f t i = t.relocations.0 + i * (relocation_layout f).length

-- the entry at base
unfoldable pub entry_at : Format → ℕ → List ℕ → RelocationEntry
entry_at f base file =
    record {
      address = record { 0 = field_in (relocation_layout f).address base file };
      symbol = field_in (relocation_layout f).symbol base file;
      rtype = field_in (field 8 Two) base file;
      scnum = field_in (field 10 Two) base file;
    }

-- THREAD: symbol index -1 or -2, four bytes
abbrev pub is_thread : RelocationEntry → Bool
is_thread e = leb 0xFFFFFFFE e.symbol

-- the type's low byte: 00, 0C, 0D add; 01 subtracts
unfoldable pub is_type : ℕ → Bool
is_type low = eqb low 0x00 || eqb low 0x0C || eqb low 0x0D || eqb low 0x01

abbrev pub subtracts : ℕ → Bool
subtracts rtype = eqb (rtype % 256) 0x01

-- the type's high byte: its low six bits plus one are the width, 32 or, in XCOFF64, also 64; its two top bits are ignored
abbrev pub width_bits : ℕ → ℕ
width_bits rtype = rtype / 256 % 64 + 1

unfoldable pub is_width : Format → ℕ → Bool
is_width Xcoff32 bits = eqb bits 32
is_width Xcoff64 bits = eqb bits 32 || eqb bits 64

-- the field's bytes
abbrev pub bytes_wide : Bool → ℕ
bytes_wide true = 8
bytes_wide false = 4

abbrev pub is_wide : ℕ → Bool
is_wide rtype = eqb (width_bits rtype) 64

-- the whole field is inside the section
unfoldable pub is_inside : Part → RelocationEntry → Bool
is_inside p e = leb p.address.0 e.address.0 && leb (e.address.0 + bytes_wide (is_wide e.rtype)) (p.address.0 + p.size)

-- the section is text or data, and holds the field
unfoldable pub is_held : Parts → RelocationEntry → Bool
is_held p e =
    cond (eqb e.scnum p.text.number.0) (is_inside p.text e)
    (eqb e.scnum p.«data».number.0 && is_inside p.«data» e)

-- LREL, where not: type, width, section and field, and the symbol: 0, 1, 2 are text, data and bss, 3 is the first of the table's nsyms
unfoldable pub is_good : Format → Parts → ℕ → RelocationEntry → Bool
is_good f p nsyms e = is_type (e.rtype % 256) && is_width f (width_bits e.rtype) && is_held p e && ltb e.symbol (3 + nsyms)

-- entry i by itself: THREAD, LREL
unfoldable pub own_check : Format → Parts → ℕ → ℕ → RelocationEntry → Verdict
own_check f p nsyms i e = refuse_if (is_thread e) (Thread (ThreadSymbol (record { 0 = i }))) or_else refuse_if (not (is_good f p nsyms e)) (Lrel (record { 0 = i }))

-- the field that an entry names: in text or in data, its offset there, and its width
unfoldable pub place_of : Parts → RelocationEntry → FieldPlace
place_of p e =
    record {
      text = eqb e.scnum p.text.number.0;
      offset = e.address.0 - cond (eqb e.scnum p.text.number.0) p.text.address.0 p.«data».address.0;
      wide = is_wide e.rtype;
    }

-- of entry i in the file
unfoldable pub entry_in : List ℕ → Format → LoaderTables → ℕ → RelocationEntry
entry_in file f t i = entry_at f (entry_start f t i) file

unfoldable pub own_at : List ℕ → Format → Parts → LoaderTables → ℕ → Verdict
own_at file f p t i = own_check f p t.nsyms i (entry_in file f t i)

unfoldable pub place_at : List ℕ → Format → Parts → LoaderTables → ℕ → FieldPlace
place_at file f p t i = place_of p (entry_in file f t i)

-- the relocation entries are in the file
pub record EntriesInside (file : List ℕ) (f : Format) (t : LoaderTables) : Type 0 where
  pub small : length file ≤ file_limit
  pub few : t.nreloc ≤ relocation_limit
  pub inside : t.relocations.0 + t.nreloc * (relocation_layout f).length ≤ length file

-- a field inside a section of `text` or `data` bytes
pub record PlaceInside (p : Parts) (e : FieldPlace) : Type 0 where
  pub inside : e.offset + bytes_wide e.wide ≤ cond e.text p.text.size p.«data».size
