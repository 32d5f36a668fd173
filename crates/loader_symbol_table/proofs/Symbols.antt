-- The row of a loader symbol is what the look-ups of that symbol say. Assumes nothing.
use mathlib.Core.Path.{◌≡◌, refl}
use mathlib.Core.List.{List}
use Prim.Native.Nat.{ℕ, ◌+◌, ◌<◌, ◌≤◌}
use native.Mathlib.Nat.{add-sub_cancel}
use native.Mathlib.Omega.{arith}
use borrow.Author.Tests.{lt-ltb, le-ltb}
use lib.ListN.{length}
use Rattle.format.specs.Layout.{loader_symbol_length}
use Rattle.loader_header.specs.declared.LoaderTables.{LoaderTables}
use Rattle.loader_symbol.specs.Symbol.{entry_start, entry_at, name_in}
use Rattle.loader_symbol.specs.declared.LoaderEntry.{LoaderEntry}
use Rattle.loadable.specs.declared.Loadable.{Loadable}
use Rattle.loadable.specs.Loadable.{loadable_at}
use Rattle.loadable.proofs.Accepted.{loadable-valid}
use Rattle.lookup.specs.Symbol.{index_check, entry_of, symbol_in, loader_symbol_at, name_of, symbol_name_in, loader_name_at}
use Rattle.std.specs.Prelude.{Ok, Result}
use Rattle.refusal.specs.declared.Refusal.{Refusal}
use Rattle.format.specs.declared.FileRange.{FileRange}

index_in : (t : LoaderTables) (k : ℕ) → k < t.nsyms → index_check t (k + 3) ≡ Ok tt
unfolding index_check
index_in t k h = rw (le-ltb (k + 3) 3 (omega arith), lt-ltb (k + 3) (3 + t.nsyms) (omega arith)) refl

module _ (file : List ℕ) (l : Loadable) (k : ℕ) (found : loadable_at file ≡ Ok l) (h : k < l.tables.nsyms) where
  -- its 24 bytes and the strings are in the file
  pub symbol-inside : (entry_start l.tables k + loader_symbol_length ≤ length file) × (l.tables.strings.start.0 + l.tables.strings.length ≤ length file)
  symbol-inside =
      let t = (loadable-valid file l found).loader.tables in
      let table = t.symbols in
      (omega arith, t.strings)

  -- the look-ups of index k + 3 find the entry with place k
  pub symbol-found : {e : LoaderEntry} → e ≡ entry_at l.layout.format (entry_start l.tables k) file → loader_symbol_at file (k + 3) ≡ Ok e
  unfolding loader_symbol_at symbol_in entry_of
  symbol-found q = rw (found, index_in l.tables k h, add-sub_cancel k 3, q) refl

  pub name-found : {e : LoaderEntry} {n : Result FileRange Refusal} → e ≡ entry_at l.layout.format (entry_start l.tables k) file → n ≡ name_in file l.tables.strings (entry_start l.tables k) (k + 3) e.name → loader_name_at file (k + 3) ≡ n
  unfolding loader_name_at symbol_name_in name_of entry_of
  name-found q p = rw (found, index_in l.tables k h, add-sub_cancel k 3, p, q) refl
