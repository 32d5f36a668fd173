-- Entries of a section's own relocation table: what an entry holds, and the field that it changes.
use Rattle.std.specs.Prelude.{ℕ, ◌+◌, ◌-◌, ◌*◌, ◌%◌, ◌≤◌, ◌<◌, Bool, true, false, cond, ◌&&◌, ◌||◌, List, eqb, leb, length, None, Option, Some}
use Rattle.word.specs.Number.{field, field_in as number_in}
use Rattle.word.specs.declared.Width.TheVariants.{One, Four, Eight}
use Rattle.format.specs.declared.Format.{Format}
use Rattle.format.specs.declared.Format.TheVariants.{Xcoff32, Xcoff64}
use Rattle.format.specs.Limit.{file_limit}
use Rattle.refusal.specs.declared.SectionRelocation.{SectionRelocation}
use Rattle.table_kind.specs.declared.TableKind.TheVariants.{Relocations}
use Rattle.table_kind.specs.Kind.{entry_length}
use Rattle.field_kind.specs.declared.FieldKind.{FieldKind}
use Rattle.field_kind.specs.declared.FieldKind.TheVariants as kind
use Rattle.field_kind.specs.declared.ObjectField.{ObjectField}
use Rattle.field_kind.specs.Field.{bytes_in, place}
use Rattle.object_history.specs.declared.AmountKind.{AmountKind}
use Rattle.object_history.specs.declared.AmountKind.TheVariants.{Plus, Minus, Relative}
use Rattle.section_relocation.specs.declared.ObjectSection.{ObjectSection}
use Rattle.section_relocation.specs.declared.EntryLayout.{EntryLayout}
use Rattle.section_relocation.specs.declared.SectionEntry.{SectionEntry}
use Rattle.section_relocation.specs.declared.EntryClass.{EntryClass}
use Rattle.section_relocation.specs.declared.EntryClass.TheVariants.{Adds, Subtracts, AbsoluteBranch, RelativeBranch, Keeps, Other}
use Rattle.section_relocation.specs.declared.Effect.{Effect}

-- ---- what an entry holds

abbrev pub entry_layout : Format → EntryLayout
entry_layout Xcoff32 = record { address = field 0 Four; symbol = field 4 Four; rsize = field 8 One; rtype = field 9 One }
entry_layout Xcoff64 = record { address = field 0 Eight; symbol = field 8 Four; rsize = field 12 One; rtype = field 13 One }

-- the entry at base
unfoldable pub entry_at : Format → ℕ → List ℕ → SectionEntry
entry_at f base file =
    record {
      address = record { 0 = number_in (entry_layout f).address base file };
      symbol = record { 0 = number_in (entry_layout f).symbol base file };
      rsize = number_in (entry_layout f).rsize base file;
      rtype = number_in (entry_layout f).rtype base file;
    }

-- entry i of a section's table, from 0
unfoldable pub entry_in : List ℕ → Format → ObjectSection → ℕ → SectionEntry
entry_in file f s i = entry_at f (s.table.0 + i * entry_length Relocations f) file

-- ---- what an entry does

-- "Take types 00, 01, 0C, 0D as now; 0F, which changes nothing; 08 and 18 absolute branch; 0A and 1A relative branch"
unfoldable pub class_of : ℕ → EntryClass
class_of rtype =
    cond (eqb rtype 0x00 || eqb rtype 0x0C || eqb rtype 0x0D) Adds
    (cond (eqb rtype 0x01) Subtracts
    (cond (eqb rtype 0x08 || eqb rtype 0x18) AbsoluteBranch
    (cond (eqb rtype 0x0A || eqb rtype 0x1A) RelativeBranch
    (cond (eqb rtype 0x0F) Keeps Other))))

abbrev pub known : FieldKind → AmountKind → Option Effect
known k a = Some (record { kind = k; amount = a })

-- a width of 32, in XCOFF64 also 64
unfoldable pub plain_effect : Format → ℕ → AmountKind → Option Effect
plain_effect Xcoff32 bits a = cond (eqb bits 32) (known kind.Four a) None
plain_effect Xcoff64 bits a = cond (eqb bits 32) (known kind.Four a) (cond (eqb bits 64) (known kind.Eight a) None)

-- "A branch entry has width 26"
unfoldable pub branch_effect : ℕ → AmountKind → Option Effect
branch_effect bits a = cond (eqb bits 26) (known kind.Branch a) None

unfoldable pub effect_by : Format → ℕ → EntryClass → Option Effect
effect_by f bits Adds = plain_effect f bits Plus
effect_by f bits Subtracts = plain_effect f bits Minus
effect_by f bits AbsoluteBranch = branch_effect bits Plus
effect_by f bits RelativeBranch = branch_effect bits Relative
effect_by f bits Keeps = known kind.Nothing Plus
effect_by f bits Other = None

-- the size's low six bits plus one are the width; its two top bits are ignored
unfoldable pub effect_of : Format → SectionEntry → Option Effect
effect_of f e = effect_by f (e.rsize % 64 + 1) (class_of e.rtype)

-- an entry that is not known does nothing: LREL refuses it
abbrev pub effect_or : Option Effect → Effect
effect_or (Some x) = x
effect_or None = record { kind = kind.Nothing; amount = Plus }

-- ---- its field

abbrev pub has_bytes : FieldKind → Bool
has_bytes kind.Nothing = false
has_bytes kind.Four = true
has_bytes kind.Eight = true
has_bytes kind.Branch = true

-- the whole field is inside the section
unfoldable pub is_inside : ObjectSection → ℕ → FieldKind → Bool
is_inside s at k = leb s.address.0 at && leb (at + bytes_in k) (s.address.0 + s.size)

abbrev pub is_held_by : ObjectSection → ℕ → Option Effect → Bool
is_held_by s at None = false
is_held_by s at (Some x) = cond (has_bytes x.kind) (is_inside s at x.kind) true

-- an entry that is known, with its field inside the section; of type 0F no field is looked at
unfoldable pub is_held : Format → ObjectSection → SectionEntry → Bool
is_held f s e = is_held_by s e.address.0 (effect_of f e)

-- a field of the buffer, by its kind; that of type 0F has no bytes, at offset 0
unfoldable pub field_by : ObjectSection → ℕ → FieldKind → ObjectField
field_by s at k = place (cond (has_bytes k) (s.place + (at - s.address.0)) 0) k

unfoldable pub field_of : Format → ObjectSection → SectionEntry → ObjectField
field_of f s e = field_by s e.address.0 (effect_or (effect_of f e)).kind

-- of entry i
unfoldable pub field_in : List ℕ → Format → ObjectSection → ℕ → ObjectField
field_in file f s i = field_of f s (entry_in file f s i)

-- entry i, as a refusal names it: "Entries are numbered on from table to table"
abbrev pub name_of : ObjectSection → ℕ → SectionRelocation
name_of s i = record { section = s.number; index = i; number = s.first + i }

-- ---- what a section of an accepted file guarantees: its table and raw data are in the file, its bytes in the buffer, and its numbers can be counted
pub record TableReady (file : List ℕ) (f : Format) (s : ObjectSection) : Type 0 where
  pub small : length file ≤ file_limit
  pub table : s.table.0 + s.count * entry_length Relocations f ≤ length file
  pub raw : 0 < s.size → s.raw.0 + s.size ≤ length file
  pub placed : s.place + s.size < 4294967296
  pub numbered : s.first + s.count < 4294967296
