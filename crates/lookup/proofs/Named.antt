-- What the refusals of a loader symbol and of its name name is there. Assumes nothing.
use Prim.Native.Nat.{ℕ, ◌+◌, ◌-◌, ◌%◌}
use mathlib.Core.Path.{◌≡◌, refl}
use mathlib.Core.Bool.{true, not, ◌&&◌, ◌||◌}
use mathlib.Core.List.{List}
use native.Mathlib.Omega.{arith}
use borrow.Author.Tests.{not-false}
use lib.Dec.{ltb}
use Rattle.word.proofs.Test.{and_second}
use Rattle.refusal.specs.declared.IndexItem.TheVariants.{NoLoaderSymbol}
use Rattle.refusal.specs.declared.Refusal.{Refusal}
use Rattle.refusal.specs.declared.Refusal.TheVariants.{Index, Lsym}
use Rattle.refusal.specs.Order.{by_verdict}
use Rattle.refusal.proofs.Order.{accepted-test}
use Rattle.refusal.proofs.Causes.{Causes, RangeCauses, cause-if}
use Rattle.offset.specs.Named.{Named}
use Rattle.offset.proofs.Named.{plain-named}
use Rattle.loader_header.specs.declared.LoaderTables.{LoaderTables}
use Rattle.loader_symbol.specs.declared.LoaderEntry.{LoaderEntry}
use Rattle.loader_symbol.specs.Symbol.{entry_start, entry_at, name_in, is_found, is_placed, entry_check, symbol_check}
use Rattle.loadable.specs.declared.Loadable.{Loadable}
use Rattle.loadable.specs.Loadable.{loadable_at}
use Rattle.loadable.specs.Valid.{Valid}
use Rattle.loadable.proofs.Accepted.{loadable-valid}
use Rattle.loadable.proofs.Named.{LoadableCauses, loadable-named}
use Rattle.lookup.specs.Symbol.{index_check, entry_of, symbol_in, loader_symbol_at, name_of, symbol_name_in, loader_name_at}
use Rattle.lookup.proofs.Symbols.{index-known}
use Rattle.std.specs.Prelude.{Err, Ok, Result}
use Rattle.format.specs.declared.FileRange.{FileRange}
use Rattle.refusal.specs.Verdict.{Verdict}

-- what holds of the refusal of a loader symbol's answer
abbrev pub LoaderSymbolCauses : (Refusal → Type 0) → Result LoaderEntry Refusal → Type 0
LoaderSymbolCauses P (Ok e) = Unit {0}
LoaderSymbolCauses P (Err x) = P x

module _ (file : List ℕ) (i : ℕ) where
  abbrev P : Refusal → Type 0
  P = Named file

  index-named : (t : LoaderTables) → Causes P (index_check t i)
  unfolding index_check
  index-named t = cause-if P (ltb i 3 || not (ltb i (3 + t.nsyms))) (Index (NoLoaderSymbol i)) (λ _. plain-named file (Index (NoLoaderSymbol i)) (λ s. refl) (λ _ e. e))

  -- request 4: of a loader symbol
  pub loader-symbol-named : LoaderSymbolCauses P (loader_symbol_at file i)
  unfolding loader_symbol_at symbol_in
  loader-symbol-named = by (loadable_at file) (loadable-named file)
    where
      found : (v : Verdict) (e : LoaderEntry) → Causes P v → LoaderSymbolCauses P (by_verdict v (Ok e) Err)
      found (Ok tt) e c = tt
      found (Err x) e c = c

      by : (a : Result Loadable Refusal) → LoadableCauses P a → LoaderSymbolCauses P (symbol_in file a i)
      by (Err x) c = c
      by (Ok l) c = found (index_check l.tables i) (entry_of file l i) (index-named l.tables)

  -- ---- its name: that of an accepted module lies somewhere

  found-named : (a : Result FileRange Refusal) → is_found a ≡ true → RangeCauses P a
  found-named (Ok r) e = tt
  found-named (Err x) e = let z : ◌≡◌ {A = ℕ} 0 1 = cc in absurd (omega arith)

  name-there : (l : Loadable) → Valid file l → index_check l.tables i ≡ Ok tt → is_found (name_of file l i) ≡ true
  unfolding name_of entry_of symbol_check entry_check
  name-there l v e =
      let t = l.tables in
      let k = index-known t i e in
      let n = entry_at l.layout.format (entry_start t (i - 3)) file in
      let z : i - 3 + 3 ≡ i = omega arith in
      let c = v.loader.symbols (i - 3) (omega arith) in
      let placed = ltb (n.smtype % 8) 4 && is_placed l.layout.parts t.nimpid n in
      let named = is_found (name_in file t.strings (entry_start t (i - 3)) (i - 3 + 3) n.name) in
      rw z at (and_second placed named (not-false (placed && named) (accepted-test (not (placed && named)) (Lsym (i - 3 + 3)) c)))

  pub loader-name-named : RangeCauses P (loader_name_at file i)
  unfolding loader_name_at symbol_name_in
  loader-name-named = by (loadable_at file) refl (loadable-named file)
    where
      found : (l : Loadable) → Valid file l → (v : Verdict) → index_check l.tables i ≡ v → Causes P v → RangeCauses P (by_verdict v (name_of file l i) Err)
      found l w (Ok tt) e c = found-named (name_of file l i) (name-there l w e)
      found l w (Err x) e c = c

      by : (a : Result Loadable Refusal) → loadable_at file ≡ a → LoadableCauses P a → RangeCauses P (symbol_name_in file a i)
      by (Err x) e c = c
      by (Ok l) e c = found l (loadable-valid file l e) (index_check l.tables i) refl (index-named l.tables)
