-- What a refusal names is there: for a file whose headers are whole, from what the checks before the refusal leave known. Assumes nothing.
use Prim.Native.Nat.{ℕ, ◌+◌, ◌-◌, ◌*◌, ◌≤◌, ◌<◌}
use mathlib.Core.Path.{◌≡◌, refl, sym, ◌∙◌, ap, ap₂, subst}
use mathlib.Core.List.{List}
use native.Mathlib.Nat.{add-zero, zero-mul, mul-le-mul_right}
use native.Mathlib.Omega.{arith}
use lib.ListN.{length}
use Rattle.word.specs.Number.{field_in}
use Rattle.word.proofs.Test.{past-no}
use borrow.Author.Tests.{ne_eqb}
use Rattle.format.specs.declared.Format.{Format}
use Rattle.format.specs.declared.Format.TheVariants.{Xcoff32, Xcoff64}
use Rattle.refusal.specs.declared.SectionRelocation.{SectionRelocation}
use Rattle.section.specs.Section.{section_header_at}
use Rattle.table_kind.specs.declared.TableKind.TheVariants.{Relocations as RelocationTable}
use Rattle.table_kind.specs.Kind.{entry_length}
use Rattle.format.specs.Layout.{magic_field, format_of, section_layout, symbol_length, loader_layout, loader_symbol_length, relocation_layout}
use Rattle.format.specs.Limit.{file_limit}
use Rattle.refusal.specs.declared.Refusal.{Refusal}
use Rattle.file_header.specs.declared.FileHeader.{FileHeader}
use Rattle.file_header.specs.Header.{header_at, section_start, header_check}
use Rattle.file_header.proofs.Checked.{header-complete}
use Rattle.loader_header.specs.Header.{loader_header_at}
use Rattle.offset.specs.declared.Starts.{Starts}
use Rattle.offset.specs.Offset.{placed, entry_place, starts_as, starts_of, header_place, symbol_place, loader_symbol_place, relocation_place, section_table, section_relocation_place, loader_starts, offset_in, offset_by, offset_of}
use Rattle.offset.specs.Named.{Entry, NamesHeader, NamesSymbol, NamesStrings, NamesLoader, NamesLoaderSymbol, NamesRelocation, section_table_start, NamesSectionRelocation, Names, NamedBy, Named, loader_start, loader_of}
use Rattle.offset.proofs.Found.{starts-known}
use Rattle.std.specs.Prelude.{None, Ok, Option, Some}

-- ---- causes that name nothing in the file

plain_by : (file : List ℕ) (x : Refusal) → ((s : Starts) → offset_in file s x ≡ 0) → (a : Option Starts) → offset_by file a x ≡ 0
plain_by file x h None = refl
plain_by file x h (Some s) = h s

pub plain-offset : (file : List ℕ) (x : Refusal) → ((s : Starts) → offset_in file s x ≡ 0) → offset_of file x ≡ 0
plain-offset file x h = plain_by file x h (starts_of file)

pub plain-named : (file : List ℕ) (x : Refusal) → ((s : Starts) → offset_in file s x ≡ 0) → ((h : FileHeader) → offset_of file x ≡ 0 → Names file h x (offset_of file x)) → Named file x
plain-named file x z n = by (format_of (field_in magic_field 0 file))
  where
    by : (a : Option Format) → NamedBy file a x
    by None = plain-offset file x z
    by (Some f) = n (header_at f file) (plain-offset file x z)

-- ---- places

pub place-there : (len start off : ℕ) → start + off ≤ len → placed len start off ≡ start + off
place-there len start off h = rw (past-no start off len h) refl

module _ (len start n count k : ℕ) (i : k < count) (h : start + count * n ≤ len) where
  entry_whole : start + (k + 1) * n ≤ len
  entry_whole = let m : (k + 1) * n ≤ count * n = mul-le-mul_right n (omega arith) in omega arith

  pub entry-there : Entry len start n count k (entry_place len start n k)
  entry-there = record { known = i; inside = h; here = rw (past-no start ((k + 1) * n) len entry_whole) refl }

-- ---- a file whose headers are whole

-- headers follow the file header
start-positive : (f : Format) (opthdr : ℕ) → 0 < section_start f opthdr 0
unfolding section_start
start-positive Xcoff32 opthdr = omega arith
start-positive Xcoff64 opthdr = omega arith

from_first : (f : Format) (opthdr count len : ℕ) → section_start f opthdr count ≤ len → section_start f opthdr 0 + count * (section_layout f).length ≤ len
unfolding section_start
from_first f opthdr count len q = let z = zero-mul (section_layout f).length in omega arith

pub record Headed (file : List ℕ) (f : Format) : Type 0 where
  pub small : length file ≤ file_limit
  pub two : 2 ≤ length file
  pub magic : format_of (field_in magic_field 0 file) ≡ Some f
  pub headers : header_check f file ≡ Ok tt

module _ (file : List ℕ) (f : Format) (g : Headed file f) where
  abbrev h : FileHeader
  h = header_at f file

  abbrev s : Starts
  s = starts_as f file

  offset-is : (x : Refusal) → offset_of file x ≡ offset_in file s x
  offset-is x = rw (← starts-known file g.small g.two f g.magic g.headers refl) refl

  -- what is shown of the place that the starts give holds of the offset
  pub named_by : (x : Refusal) → Names file h x (offset_in file s x) → Named file x
  named_by x n = rw (g.magic, offset-is x) n

  headers-inside : section_start f h.opthdr 0 + h.nscns * (section_layout f).length ≤ length file
  unfolding header_at
  headers-inside = from_first f h.opthdr h.nscns (length file) (header-complete f file g.headers).inside

  starts-format : s.format ≡ f
  unfolding starts_as
  starts-format = refl

  length-is : s.length ≡ length file
  unfolding starts_as
  length-is = refl

  -- the header of section n
  pub header-named : (n : ℕ) → 0 < n → n ≤ h.nscns → NamesHeader file h n (header_place s n)
  unfolding starts_as header_at
  header-named n p q = (p, entry-there (length file) (section_start f h.opthdr 0) (section_layout f).length h.nscns (n - 1) (omega arith) headers-inside)

  -- an entry of section n's own relocation table, where it is in the file
  module _ (e : SectionRelocation) (p : 0 < e.section.0) (q : e.section.0 ≤ h.nscns) where
    header-place : header_place s e.section.0 ≡ section_start f h.opthdr 0 + (e.section.0 - 1) * (section_layout f).length
    unfolding starts_as header_at
    header-place = (header-named e.section.0 p q).1.here

    header-not-zero : header_place s e.section.0 ≡ 0 → ⊥
    header-not-zero z = (let k = start-positive f h.opthdr in omega (arith, header-place))

    table_is : section_table file s e.section.0 ≡ section_table_start file h e.section.0
    table_is =
        rw (ne_eqb (header_place s e.section.0) 0 header-not-zero)
        (ap₂ (λ (g : Format) (k : ℕ). (section_header_at g k file).relptr.0) starts-format header-place ∙ (unfold header_at in refl))

    place_is : section_relocation_place file s e ≡ entry_place (length file) (section_table_start file h e.section.0) (entry_length RelocationTable f) e.index
    place_is =
        ap₂ (λ (l t : ℕ). entry_place l t (entry_length RelocationTable s.format) e.index) length-is table_is
        ∙ ap (λ (g : Format). entry_place (length file) (section_table_start file h e.section.0) (entry_length RelocationTable g) e.index) starts-format

    pub section-relocation-named : section_table_start file h e.section.0 + (e.index + 1) * entry_length RelocationTable f ≤ length file
        → NamesSectionRelocation file h e (section_relocation_place file s e)
    unfolding header_at
    section-relocation-named i = (
      p,
      q,
      subst (λ (off : ℕ). Entry (length file) (section_table_start file h e.section.0) (entry_length RelocationTable f) (e.index + 1) e.index off) (sym place_is)
          (entry-there (length file) (section_table_start file h e.section.0) (entry_length RelocationTable f) (e.index + 1) e.index (omega arith) i),
    )

  -- symbol i, where the symbol table is in the file
  pub symbol-named : (i : ℕ) → i < h.nsyms → h.symptr.0 + h.nsyms * symbol_length ≤ length file → NamesSymbol file h i (symbol_place s i)
  unfolding starts_as header_at
  symbol-named i p q = entry-there (length file) h.symptr.0 symbol_length h.nsyms i p q

  pub strings-named : h.symptr.0 + h.nsyms * symbol_length ≤ length file → NamesStrings file h s.strings
  unfolding starts_as
  strings-named q = let e = place-there (length file) h.symptr.0 (h.nsyms * symbol_length) q in (e, rw e q)

  -- the loader section, where it starts in the file or at its end
  pub loader-named : loader_start file h ≤ length file → NamesLoader file h s.loader
  unfolding starts_as
  loader-named q = let e = place-there (length file) (loader_start file h) 0 (omega arith) ∙ add-zero (loader_start file h) in (e, rw e q)

  -- its tables, where its header is in the file and they are
  module _ (l : loader_start file h + (loader_layout f).length ≤ length file) where
    lsyms-is : loader_start file h + (loader_of file h).symoff ≤ length file → s.lsyms ≡ loader_start file h + (loader_of file h).symoff
    unfolding starts_as header_at loader_starts loader_header_at
    lsyms-is q = rw (past-no (loader_start file h) (loader_layout f).length (length file) l) (place-there (length file) (loader_start file h) (loader_of file h).symoff q)

    lrels-is : loader_start file h + (loader_of file h).rldoff ≤ length file → s.lrels ≡ loader_start file h + (loader_of file h).rldoff
    unfolding starts_as header_at loader_starts loader_header_at
    lrels-is q = rw (past-no (loader_start file h) (loader_layout f).length (length file) l) (place-there (length file) (loader_start file h) (loader_of file h).rldoff q)

    -- the loader symbol with place k in its table, which is index k + 3
    pub loader-symbol-named : (k : ℕ) → k < (loader_of file h).nsyms → loader_start file h + (loader_of file h).symoff + (loader_of file h).nsyms * loader_symbol_length ≤ length file
        → NamesLoaderSymbol file h (k + 3) (loader_symbol_place s (k + 3))
    loader-symbol-named k p q =
        let e : k + 3 - 3 ≡ k = omega arith in
        (omega arith, rw (e, length-is, lsyms-is (omega arith)) (entry-there (length file) (loader_start file h + (loader_of file h).symoff) loader_symbol_length (loader_of file h).nsyms k p q))

    pub relocation-named : (i : ℕ) → i < (loader_of file h).nreloc → loader_start file h + (loader_of file h).rldoff + (loader_of file h).nreloc * (relocation_layout f).length ≤ length file
        → NamesRelocation file h i (relocation_place s i)
    unfolding header_at
    relocation-named i p q =
        rw (length-is, lrels-is (omega arith), starts-format)
        (entry-there (length file) (loader_start file h + (loader_of file h).rldoff) (relocation_layout f).length (loader_of file h).nreloc i p q)
