-- One section: what its header holds, and the order in which it is judged: KIND, BOUNDS, ADDRESS.
use Rattle.std.specs.Prelude.{ℕ, ◌+◌, ◌≤◌, ◌≡◌, Bool, true, not, cond, ◌&&◌, ◌||◌, List, eqb, Err, None, Ok, Option, Result, Some}
use Rattle.word.specs.Number.{field_in}
use Rattle.word.specs.Test.{past}
use Rattle.format.specs.declared.Format.{Format}
use Rattle.section_kind.specs.declared.SectionKind.{SectionKind}
use Rattle.format.specs.declared.SectionNumber.{SectionNumber}
use Rattle.format.specs.Layout.{section_layout, address_limit}
use Rattle.section_kind.specs.Kind.{kind_of, has_raw_kind, is_placed_kind}
use Rattle.refusal.specs.declared.Refusal.TheVariants.{Kind, Bounds, Address}
use Rattle.refusal.specs.declared.BoundsItem.TheVariants.{RawData}
use Rattle.refusal.specs.declared.AddressItem.TheVariants.{Misplaced}
use Rattle.section.specs.declared.SectionHeader.{SectionHeader}
use Rattle.section.specs.declared.Section.{Section}
use Rattle.refusal.specs.declared.Refusal.{Refusal}

-- the numbers of the section header at base
unfoldable pub section_header_at : Format → ℕ → List ℕ → SectionHeader
section_header_at f base file =
    record {
      paddr = record { 0 = field_in (section_layout f).paddr base file };
      vaddr = record { 0 = field_in (section_layout f).vaddr base file };
      size = field_in (section_layout f).size base file;
      scnptr = record { 0 = field_in (section_layout f).scnptr base file };
      relptr = record { 0 = field_in (section_layout f).relptr base file };
      lnnoptr = record { 0 = field_in (section_layout f).lnnoptr base file };
      nreloc = field_in (section_layout f).nreloc base file;
      nlnno = field_in (section_layout f).nlnno base file;
      flags = field_in (section_layout f).flags base file;
    }

-- raw data exists
unfoldable pub has_raw_data : SectionKind → SectionHeader → Bool
has_raw_data k h = has_raw_kind k && not (eqb h.scnptr.0 0)

-- BOUNDS: raw data exists and ends past the file's `len` bytes
unfoldable pub raw_data_past : SectionKind → ℕ → SectionHeader → Bool
raw_data_past k len h = has_raw_data k h && past h.scnptr.0 h.size len

-- ADDRESS: of text, data and bss, the two addresses differ or address + size exceeds the address space
unfoldable pub misplaced : Format → SectionKind → SectionHeader → Bool
misplaced f k h = is_placed_kind k && (not (eqb h.vaddr.0 h.paddr.0) || past h.vaddr.0 h.size (address_limit f))

-- the record of a section of kind k
unfoldable pub section_of : SectionKind → SectionHeader → Section
section_of k h =
    record {
      kind = k;
      paddr = h.paddr;
      vaddr = h.vaddr;
      size = h.size;
      scnptr = h.scnptr;
      relptr = h.relptr;
      lnnoptr = h.lnnoptr;
      nreloc = h.nreloc;
      nlnno = h.nlnno;
      raw = has_raw_data k h;
    }

-- KIND, BOUNDS, ADDRESS
unfoldable pub judge_kind : Format → ℕ → SectionHeader → SectionNumber → Option SectionKind → Result Section Refusal
judge_kind f len h n None = Err (Kind n)
judge_kind f len h n (Some k) =
    cond (raw_data_past k len h) (Err (Bounds (RawData n)))
    (cond (misplaced f k h) (Err (Address (Misplaced n)))
    (Ok (section_of k h)))

-- what section n is judged to be, with the header h in a file of `len` bytes
unfoldable pub judge_section : Format → ℕ → SectionHeader → SectionNumber → Result Section Refusal
judge_section f len h n = judge_kind f len h n (kind_of h.flags)

-- what an accepted section guarantees: raw data is inside the file's `len` bytes, and text, data and bss are inside the address space
pub record SectionWithin (f : Format) (len : ℕ) (s : Section) : Type 0 where
  pub data-in : s.raw ≡ true → s.scnptr.0 + s.size ≤ len
  pub same : is_placed_kind s.kind ≡ true → s.vaddr.0 ≡ s.paddr.0
  pub address-in : is_placed_kind s.kind ≡ true → s.vaddr.0 + s.size ≤ address_limit f
