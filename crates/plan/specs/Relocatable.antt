-- The module in a file as builds and moves see it.
use Rattle.std.specs.Prelude.{ℕ, zero, suc, ◌+◌, ◌-◌, ◌*◌, cond, List, [], ◌∷◌, ◌++◌, eqb, replicate, Err, Ok, Result}
use Rattle.format.specs.declared.FileOffset.{FileOffset}
use Rattle.format.specs.declared.Format.{Format}
use Rattle.format.specs.declared.SectionNumber.{SectionNumber}
use Rattle.format.specs.declared.Format.TheVariants.{Xcoff32}
use Rattle.format.specs.Layout.{loader_symbol_length}
use Rattle.format.specs.Range.{range, bytes_of}
use Rattle.refusal.specs.declared.Refusal.{Refusal}
use Rattle.module.specs.declared.Anchor.{Anchor}
use Rattle.module.specs.declared.Module.{Module}
use Rattle.parts.specs.declared.Parts.{Parts}
use Rattle.loader_symbol.specs.declared.LoaderEntry.{LoaderEntry}
use Rattle.loader_symbol.specs.Symbol.{entry_at, is_imported}
use Rattle.relocation.specs.declared.RelocationEntry.{RelocationEntry}
use Rattle.relocation.specs.Relocation.{entry_in, place_at, place_of, subtracts}
use Rattle.loadable.specs.declared.Loadable.{Loadable}
use Rattle.loadable.specs.Loadable.{loadable_at}
use Rattle.history.specs.declared.Followed.{Followed}
use Rattle.history.specs.declared.Followed.TheVariants as followed
use Rattle.history.specs.declared.Relocation.{Relocation}
use Rattle.history.specs.Images.{images}
use Rattle.history.specs.Plan.{Anchored, Relocatable}
use Rattle.history.specs.Plan.Anchored.{none, in_text, in_data}

-- which address the loader symbol with place k in the table follows: an import its own, a deferred import (file id 0) none, any other its section's,
-- bss following data
unfoldable pub followed_of : SectionNumber → ℕ → LoaderEntry → Followed
followed_of text k e =
    cond (is_imported e.smtype) (cond (eqb e.ifile 0) followed.Nothing (followed.Import k e.value))
    (cond (eqb e.scnum text.0) followed.Text followed.Data)

-- in a table that starts at `start`
unfoldable pub followed_in : List ℕ → Format → FileOffset → SectionNumber → ℕ → Followed
followed_in file f start text k = followed_of text k (entry_at f (start.0 + k * loader_symbol_length) file)

abbrev pub followed_at : List ℕ → Loadable → ℕ → Followed
followed_at file l k = followed_in file l.layout.format l.tables.symbols l.layout.parts.text.number k

-- n symbols from place k
unfoldable pub symbols_from : List ℕ → Loadable → ℕ → ℕ → List Followed
symbols_from file l k zero = []
symbols_from file l k (suc n) = followed_at file l k ∷ symbols_from file l (suc k) n

-- a relocation entry as it is applied: its field, its sign and its symbol
abbrev pub relocation_of : Parts → RelocationEntry → Relocation
relocation_of p e = record { place = place_of p e; minus = subtracts e.rtype; symbol = e.symbol }

-- entry i of the file
unfoldable pub relocation_at : List ℕ → Loadable → ℕ → Relocation
unfolding place_at
relocation_at file l i = relocation_of l.layout.parts (entry_in file l.layout.format l.tables i)

-- n entries from entry i
unfoldable pub relocations_from : List ℕ → Loadable → ℕ → ℕ → List Relocation
relocations_from file l i zero = []
relocations_from file l i (suc n) = relocation_at file l i ∷ relocations_from file l (suc i) n

-- the raw text: the section's bytes
unfoldable pub raw_text : List ℕ → Module → List ℕ
raw_text file m = bytes_of file (range m.parts.text.start.0 m.parts.text.size)

-- the raw data image: the section's bytes, zeros up to bss, then bss zeros
unfoldable pub raw_data : List ℕ → Module → List ℕ
raw_data file m =
    bytes_of file (range m.parts.«data».start.0 m.parts.«data».size) ++ replicate (m.image - m.parts.«data».size) 0

-- the entry point or the TOC anchor: section 0 means that there is none
unfoldable pub anchored : Parts → Anchor → Anchored
anchored p a = cond (eqb a.section.0 0) none (cond (eqb a.section.0 p.text.number.0) (in_text a.address.0) (in_data a.address.0))

unfoldable pub relocatable_of : List ℕ → Loadable → Relocatable
relocatable_of file l =
    record {
      verdict = Ok tt;
      raw = images (raw_text file l.layout) (raw_data file l.layout);
      text_address = l.layout.parts.text.address.0;
      data_address = l.layout.parts.«data».address.0;
      format = l.layout.format;
      symbols = symbols_from file l 0 l.tables.nsyms;
      entries = relocations_from file l 0 l.tables.nreloc;
      entry = anchored l.layout.parts l.layout.entry;
      toc = anchored l.layout.parts l.layout.toc;
    }

-- a refused file: nothing to apply, and every call is refused by its verdict, whatever the format
unfoldable pub no_module : Refusal → Relocatable
no_module x =
    record {
      verdict = Err x;
      raw = images [] [];
      text_address = 0;
      data_address = 0;
      format = Xcoff32;
      symbols = [];
      entries = [];
      entry = none;
      toc = none;
    }

unfoldable pub relocatable_by : List ℕ → Result Loadable Refusal → Relocatable
relocatable_by file (Ok l) = relocatable_of file l
relocatable_by file (Err x) = no_module x

-- what any file is to builds and moves
unfoldable pub relocatable_at : List ℕ → Relocatable
relocatable_at file = relocatable_by file (loadable_at file)
