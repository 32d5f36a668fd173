-- The debug section, and a string in it.
use Rattle.std.specs.Prelude.{ℕ, zero, suc, ◌+◌, ◌-◌, ◌≤◌, Bool, false, not, cond, ◌&&◌, ◌||◌, List, [], ◌∷◌, eqb, ltb, length, get_or, None, Option, Some}
use Rattle.word.specs.declared.Field.{Field}
use Rattle.word.specs.declared.Width.TheVariants.{Two, Four}
use Rattle.word.specs.Number.{field, bytes_in, field_in}
use Rattle.word.specs.Test.{past}
use Rattle.section_kind.specs.declared.SectionKind.TheVariants.{Debug}
use Rattle.section_kind.specs.Kind.{flags_of}
use Rattle.format.specs.declared.Format.{Format}
use Rattle.format.specs.declared.Format.TheVariants.{Xcoff32, Xcoff64}
use Rattle.format.specs.declared.FileRange.{FileRange}
use Rattle.format.specs.Range.{range}
use Rattle.section.specs.declared.Section.{Section}
use Rattle.file_tables.specs.Tables.{blank_section}
use Rattle.header.specs.declared.Summary.{Summary}
use Rattle.debug_section.specs.declared.DebugTally.{DebugTally}

-- ---- exactly one debug section with raw data

unfoldable pub is_debug : Section → Bool
is_debug s = eqb (flags_of s.kind) (flags_of Debug) && s.raw

abbrev pub raw_of : Section → FileRange
raw_of s = range s.scnptr.0 s.size

-- the raw data of those among the first n sections, the last one first
unfoldable pub debug_ranges : List Section → ℕ → List FileRange
debug_ranges sections zero = []
debug_ranges sections (suc i) =
    let s = get_or sections i blank_section in
    cond (is_debug s) (raw_of s ∷ debug_ranges sections i) (debug_ranges sections i)

abbrev pub exactly_one : List FileRange → Option FileRange
exactly_one [] = None
exactly_one (r ∷ []) = Some r
exactly_one (r ∷ s ∷ rs) = None

unfoldable pub debug_of : Summary → Option FileRange
debug_of y = exactly_one (debug_ranges y.sections y.count)

-- how many there are, and the last: serves the contract of `tally_debug` alone
abbrev pub last_of : List FileRange → FileRange
last_of [] = range 0 0
last_of (r ∷ rs) = r

abbrev pub tally_of : List FileRange → DebugTally
tally_of rs = record { count = length rs; last = last_of rs }

-- it lies inside the file's `len` bytes
abbrev pub DebugInside : ℕ → Option FileRange → Type 0
DebugInside len None = Unit {0}
DebugInside len (Some d) = d.start.0 + d.length ≤ len

-- ---- a string of the section, by its offset

-- its length stands before it: 2 bytes in XCOFF32, 4 in XCOFF64
abbrev pub length_field : Format → Field
length_field Xcoff32 = field 0 Two
length_field Xcoff64 = field 0 Four

abbrev pub length_width : Format → ℕ
length_width f = bytes_in (length_field f).width

unfoldable pub length_at : Format → List ℕ → FileRange → ℕ → ℕ
length_at f file d o = field_in (length_field f) (d.start.0 + o - length_width f) file

-- the length or the string leaves the section d
unfoldable pub leaves : Format → List ℕ → FileRange → ℕ → Bool
leaves f file d o = (ltb o (length_width f) || ltb d.length o) || past o (length_at f file d o) d.length

unfoldable pub has_string : Format → List ℕ → Option FileRange → ℕ → Bool
has_string f file None o = false
has_string f file (Some d) o = not (leaves f file d o)

-- the string's bytes; none where there is no section
unfoldable pub string_range : Format → List ℕ → Option FileRange → ℕ → FileRange
string_range f file None o = range 0 0
string_range f file (Some d) o = range (d.start.0 + o) (length_at f file d o)
