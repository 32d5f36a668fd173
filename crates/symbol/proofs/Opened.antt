-- The tables of an accepted file. Assumes nothing.
use Prim.Native.Nat.{ℕ, ◌+◌, ◌*◌, ◌≤◌, ◌<◌}
use mathlib.Core.Path.{◌≡◌, refl}
use mathlib.Core.Bool.{Bool}
use mathlib.Core.List.{List}
use native.Mathlib.Omega.{arith}
use lib.ListN.{length}
use Rattle.word.specs.Zero.{zero_end}
use Rattle.format.specs.Layout.{symbol_length}
use Rattle.format.specs.Limit.{file_limit, section_limit}
use Rattle.format.specs.Range.{bytes_of}
use Rattle.header.specs.declared.Opened.{Opened}
use Rattle.header.specs.declared.Summary.{Summary}
use Rattle.header.specs.Open.{open_of}
use Rattle.header.specs.Inside.{Inside}
use Rattle.header.proofs.Accepted.{opened_inside}
use Rattle.debug_section.specs.Debug.{debug_of, DebugInside}
use Rattle.visibility.specs.Visibility.{has_version2}
use Rattle.debug_section.proofs.Sections.{debug-inside}
use Rattle.symbol.specs.declared.Tables.{Tables}
use Rattle.symbol.specs.Entry.{OpenTables, entry_start}
use Rattle.std.specs.Prelude.{Ok, Option}
use Rattle.format.specs.declared.FileRange.{FileRange}

-- they are inside the file, and `ends` is the strings' own
pub record TablesInside (file : List ℕ) (t : Tables) : Type 0 where
  pub small : length file ≤ file_limit
  pub symbols : t.start.0 + t.count * symbol_length ≤ length file
  pub strings : t.strings.start.0 + t.strings.length ≤ length file
  pub ends : t.ends ≡ zero_end (bytes_of file t.strings)
  pub debug : DebugInside (length file) t.debug

pub tables-inside : (file : List ℕ) (t : Tables) → OpenTables file t → TablesInside file t
tables-inside file t o =
    let h = opened_inside file o.accepted in
    rw o.tables record { small = h.small; symbols = h.symbols; strings = h.strings; ends = refl; debug = debug-inside file o.accepted }

-- an entry of the table is whole
pub entry_whole : (file : List ℕ) (t : Tables) (i : ℕ) → OpenTables file t → i < t.count → entry_start t i + symbol_length ≤ length file
entry_whole file t i o k = let h = tables-inside file t o in omega (arith, h.symbols)

-- of an answer of opening that accepts: what `tables_of` asks for, and what it gives
pub opened-tables : (file : List ℕ) {o : Opened} → o ≡ open_of file → o.verdict ≡ Ok tt → ((open_of file).verdict ≡ Ok tt) × (o.summary ≡ (open_of file).summary)
opened-tables file e k = (rw e at k, rw e refl)

module _ (file : List ℕ) {y : Summary} (k : (open_of file).verdict ≡ Ok tt) (e : y ≡ (open_of file).summary) where
  pub strings-inside : y.symbols.strings.start.0 + y.symbols.strings.length ≤ length file
  strings-inside = rw e (opened_inside file k).strings

  pub few-sections : y.count ≤ section_limit
  few-sections = rw e (opened_inside file k).few

  pub summary-inside : Inside file y
  summary-inside = rw e (opened_inside file k)

  pub tables-open : {n : ℕ} {d : Option FileRange} {v : Bool} → n ≡ zero_end (bytes_of file y.symbols.strings) → d ≡ debug_of y → v ≡ has_version2 file y
      → OpenTables file (record { format = y.format; nscns = y.count; start = y.symbols.start; count = y.symbols.count; strings = y.symbols.strings; ends = n; debug = d; version2 = v })
  tables-open z q v = record { accepted = k; tables = rw (z, q, v, e) refl }
