-- The loader header and the four tables of the loader section.
use Rattle.std.specs.Prelude.{ℕ, ◌+◌, ◌*◌, ◌≤◌, ◌<◌, ◌≡◌, Bool, false, not, cond, ◌&&◌, ◌||◌, List, eqb, ltb}
use Rattle.word.specs.Number.{field, field_in}
use Rattle.word.specs.declared.Width.TheVariants.{Four, Eight}
use Rattle.word.specs.Test.{past}
use Rattle.word.specs.Zero.{zeros_in}
use Rattle.format.specs.declared.Format.{Format}
use Rattle.format.specs.declared.Format.TheVariants.{Xcoff32, Xcoff64}
use Rattle.format.specs.Layout.{loader_layout, loader_symbol_length, relocation_layout}
use Rattle.format.specs.Limit.{file_limit, loader_symbol_limit, relocation_limit}
use Rattle.format.specs.Range.{range, bytes_of}
use Rattle.refusal.specs.declared.Refusal.TheVariants as refusal
use Rattle.refusal.specs.declared.LimitItem.TheVariants.{LoaderSymbols, Relocations}
use Rattle.refusal.specs.declared.LoaderItem.TheVariants.{ShortHeader, Version, SymbolsPast, RelocationsPast, ImportIdsPast, StringsPast}
use Rattle.refusal.specs.Order.{◌or_else◌, refuse_if}
use Rattle.loader_header.specs.declared.LoaderHeader.{LoaderHeader}
use Rattle.loader_header.specs.declared.LoaderTables.{LoaderTables}
use Rattle.refusal.specs.Verdict.{Verdict}

-- where the loader symbols start in the section: at 32 in XCOFF32
unfoldable pub symbols_offset : Format → ℕ → List ℕ → ℕ
symbols_offset Xcoff32 base file = 32
symbols_offset Xcoff64 base file = field_in (field 40 Eight) base file

-- where the relocation entries start: behind the symbols in XCOFF32
unfoldable pub relocations_offset : Format → ℕ → List ℕ → ℕ
relocations_offset Xcoff32 base file = 32 + field_in (field 4 Four) base file * loader_symbol_length
relocations_offset Xcoff64 base file = field_in (field 48 Eight) base file

-- the loader header at base
unfoldable pub loader_header_at : Format → ℕ → List ℕ → LoaderHeader
loader_header_at f base file =
    record {
      version = field_in (field 0 Four) base file;
      nsyms = field_in (field 4 Four) base file;
      nreloc = field_in (field 8 Four) base file;
      istlen = field_in (field 12 Four) base file;
      nimpid = field_in (field 16 Four) base file;
      impoff = field_in (loader_layout f).impoff base file;
      stlen = field_in (loader_layout f).stlen base file;
      stoff = field_in (loader_layout f).stoff base file;
      symoff = symbols_offset f base file;
      rldoff = relocations_offset f base file;
    }

-- each number fits its field
pub record Bounded (h : LoaderHeader) : Type 0 where
  pub nsyms : h.nsyms < 4294967296
  pub nreloc : h.nreloc < 4294967296
  pub istlen : h.istlen < 4294967296
  pub nimpid : h.nimpid < 4294967296

-- a table passes the section; one of length 0 has its offset ignored
unfoldable pub table_past : ℕ → ℕ → ℕ → Bool
table_past off len size = not (eqb len 0) && past off len size

-- LOADER 1, LIMIT 2, LIMIT 3
unfoldable pub numbers_check : LoaderHeader → Verdict
numbers_check h =
    refuse_if (not (eqb h.version 1 || eqb h.version 2)) (refusal.Loader Version)
    or_else refuse_if (ltb loader_symbol_limit h.nsyms) (refusal.Limit LoaderSymbols)
    or_else refuse_if (ltb relocation_limit h.nreloc) (refusal.Limit Relocations)

-- a table's place in the file: where its offset leads from the section's start, or the start itself for an empty one
abbrev pub place_of : ℕ → ℕ → ℕ → ℕ
place_of start off len = cond (eqb len 0) start (start + off)

unfoldable pub tables_of : Format → ℕ → LoaderHeader → LoaderTables
tables_of f start h =
    record {
      symbols = record { 0 = place_of start h.symoff (h.nsyms * loader_symbol_length) };
      nsyms = h.nsyms;
      relocations = record { 0 = place_of start h.rldoff (h.nreloc * (relocation_layout f).length) };
      nreloc = h.nreloc;
      ids = range (place_of start h.impoff h.istlen) h.istlen;
      nimpid = h.nimpid;
      strings = range (place_of start h.stoff h.stlen) h.stlen;
    }

-- LOADER 2 to 5; the id table holds at least three zero-ended strings for each id
unfoldable pub places_check : List ℕ → Format → ℕ → ℕ → LoaderHeader → Verdict
places_check file f start size h =
    refuse_if (table_past h.symoff (h.nsyms * loader_symbol_length) size) (refusal.Loader SymbolsPast)
    or_else refuse_if (table_past h.rldoff (h.nreloc * (relocation_layout f).length) size) (refusal.Loader RelocationsPast)
    or_else refuse_if (table_past h.impoff h.istlen size || ltb (zeros_in (bytes_of file (tables_of f start h).ids)) (3 * h.nimpid)) (refusal.Loader ImportIdsPast)
    or_else refuse_if (table_past h.stoff h.stlen size) (refusal.Loader StringsPast)

-- the loader section of `size` bytes at start: LOADER 0 first
unfoldable pub header_check : List ℕ → Format → ℕ → ℕ → Verdict
header_check file f start size =
    refuse_if (ltb size (loader_layout f).length) (refusal.Loader ShortHeader)
    or_else numbers_check (loader_header_at f start file)
    or_else places_check file f start size (loader_header_at f start file)

-- a loader section with bytes is in the file of `len` bytes
pub record LoaderRoom (len start size : ℕ) : Type 0 where
  pub small : len ≤ file_limit
  pub inside : 0 < size → start + size ≤ len

-- what the checks of the places leave known
pub record PlacesGood (f : Format) (start size : ℕ) (h : LoaderHeader) : Type 0 where
  pub room : start + size ≤ file_limit
  pub symbols : table_past h.symoff (h.nsyms * loader_symbol_length) size ≡ false
  pub relocations : table_past h.rldoff (h.nreloc * (relocation_layout f).length) size ≡ false
  pub ids : table_past h.impoff h.istlen size ≡ false
  pub strings : table_past h.stoff h.stlen size ≡ false
