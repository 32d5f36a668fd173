-- What a symbol look-up's refusals name is there. Assumes nothing.
use Prim.Native.Nat.{ℕ}
use mathlib.Core.Path.{◌≡◌, refl}
use mathlib.Core.List.{List}
use native.Mathlib.Omega.{arith}
use Rattle.format.specs.declared.SymbolIndex.{SymbolIndex}
use Rattle.refusal.specs.Order.{by_verdict}
use Rattle.refusal.proofs.Order.{not-accepted}
use Rattle.refusal.proofs.Causes.{Causes, RangeCauses}
use Rattle.offset.specs.Named.{Named}
use Rattle.header.specs.Open.{open_of}
use Rattle.header.proofs.Named.{opened-named}
use Rattle.symbol.specs.declared.Symbol.{Symbol}
use Rattle.symbol.specs.Entry.{tables_at, entry_of}
use Rattle.symbol.specs.Name.{room_in, name_from, name_in}
use Rattle.symbol.specs.Symbol.{verdict_of, name_check, symbol_in}
use Rattle.symbol.proofs.Checks.{symbol-accepted}
use Rattle.symbol.proofs.Named.{SymbolCauses, symbol-in-named}
use Rattle.symbol_lookup.specs.Lookup.{symbol_at, name_behind, symbol_name_at}
use Rattle.std.specs.Prelude.{Err, Ok, Result}
use Rattle.refusal.specs.declared.Refusal.{Refusal}
use Rattle.format.specs.declared.FileRange.{FileRange}
use Rattle.refusal.specs.Verdict.{Verdict}

module _ (file : List ℕ) where
  -- request 4: of a symbol
  pub symbol-at-named : (i : SymbolIndex) → SymbolCauses (Named file) (symbol_at file i)
  unfolding symbol_at
  symbol-at-named i = by (open_of file).verdict refl (opened-named file)
    where
      by : (v : Verdict) → (open_of file).verdict ≡ v → Causes (Named file) v → SymbolCauses (Named file) (by_verdict v (symbol_in file (tables_at file) i) Err)
      by (Ok tt) e c = symbol-in-named file (tables_at file) (record { accepted = e; tables = refl }) i
      by (Err x) e c = c

  -- ---- its name: that of a symbol that is found lies somewhere

  room-found : (a : Result FileRange Refusal) → verdict_of a ≡ Ok tt → RangeCauses (Named file) (name_from file a)
  room-found (Ok r) e = tt
  room-found (Err x) e = not-accepted e

  in_table : (i : SymbolIndex) (s : Symbol) (v : Verdict) → by_verdict v (symbol_in file (tables_at file) i) Err ≡ Ok s → symbol_in file (tables_at file) i ≡ Ok s
  in_table i s (Ok tt) e = e
  in_table i s (Err x) e = let z : ◌≡◌ {A = ℕ} 0 1 = cc in absurd (omega arith)

  name-found : (i : SymbolIndex) (s : Symbol) → symbol_at file i ≡ Ok s → RangeCauses (Named file) (name_in file (tables_at file) i (entry_of file (tables_at file) i))
  unfolding symbol_at name_check
  name-found i s e =
      let t = tables_at file in
      let c = symbol-accepted file t i (in_table i s (open_of file).verdict e) in
      room-found (room_in file t i (entry_of file t i)) c.1.1.0

  pub symbol-name-named : (i : SymbolIndex) → RangeCauses (Named file) (symbol_name_at file i)
  unfolding symbol_name_at name_behind
  symbol-name-named i = by (symbol_at file i) refl (symbol-at-named i)
    where
      by : (a : Result Symbol Refusal) → symbol_at file i ≡ a → SymbolCauses (Named file) a → RangeCauses (Named file) (name_behind file (tables_at file) i a)
      by (Ok s) e c = name-found i s e
      by (Err x) e c = c
