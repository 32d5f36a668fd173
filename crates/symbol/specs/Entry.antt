-- A symbol table entry: what its 18 bytes hold, and the tables that it is judged by.
use Rattle.std.specs.Prelude.{ℕ, ◌+◌, ◌*◌, ◌≡◌, List, Ok}
use Rattle.word.specs.Number.{field_in}
use Rattle.word.specs.Zero.{zero_end}
use Rattle.format.specs.declared.Format.{Format}
use Rattle.format.specs.declared.SymbolIndex.{SymbolIndex}
use Rattle.format.specs.Name.{name_field}
use Rattle.format.specs.Layout.{symbol_layout, symbol_length}
use Rattle.format.specs.Range.{bytes_of}
use Rattle.header.specs.declared.Summary.{Summary}
use Rattle.header.specs.Open.{open_of}
use Rattle.debug_section.specs.Debug.{debug_of}
use Rattle.visibility.specs.Visibility.{has_version2}
use Rattle.symbol.specs.declared.Tables.{Tables}
use Rattle.symbol.specs.declared.SymbolEntry.{SymbolEntry}

-- all that entries and their names are judged by: where symbols and strings lie, where the last string ends, the debug section, and whether types may have a visibility
abbrev pub tables_of : List ℕ → Summary → Tables
tables_of file y =
    record {
      format = y.format;
      nscns = y.count;
      start = y.symbols.start;
      count = y.symbols.count;
      strings = y.symbols.strings;
      ends = zero_end (bytes_of file y.symbols.strings);
      debug = debug_of y;
      version2 = has_version2 file y;
    }

-- as opening finds them
abbrev pub tables_at : List ℕ → Tables
tables_at file = tables_of file (open_of file).summary

-- t has the tables of an accepted file: what every function over an opened file asks for
pub record OpenTables (file : List ℕ) (t : Tables) : Type 0 where
  pub accepted : (open_of file).verdict ≡ Ok tt
  pub tables : t ≡ tables_at file

-- where the entry with index i starts
abbrev pub entry_start : Tables → ℕ → ℕ
entry_start t i = t.start.0 + i * symbol_length

-- the 18 bytes at base, taken as an entry
unfoldable pub entry_at : Format → ℕ → List ℕ → SymbolEntry
entry_at f base file =
    record {
      name = name_field f base file;
      value = field_in (symbol_layout f).value base file;
      scnum = field_in (symbol_layout f).scnum base file;
      ntype = field_in (symbol_layout f).ntype base file;
      sclass = field_in (symbol_layout f).sclass base file;
      numaux = field_in (symbol_layout f).numaux base file;
    }

-- the entry of an opened file at an index
unfoldable pub entry_of : List ℕ → Tables → SymbolIndex → SymbolEntry
entry_of file t i = entry_at t.format (entry_start t i.0) file
