-- The laws of a symbol that is looked up in a file, and of its name. Assumes nothing.
use Prim.Native.Nat.{ℕ, ◌+◌, ◌≤◌}
use mathlib.Core.Path.{◌≡◌, refl, ap}
use mathlib.Core.List.{List}
use native.Mathlib.Omega.{arith}
use lib.ListN.{length}
use Rattle.format.specs.declared.FileRange.{FileRange}
use Rattle.format.specs.declared.SymbolIndex.{SymbolIndex}
use Rattle.refusal.specs.declared.Refusal.{Refusal}
use Rattle.refusal.specs.Order.{by_verdict}
use Rattle.refusal.specs.Part.{range_bytes, Within}
use Rattle.offset.specs.Report.{report_of_range, InFile}
use Rattle.offset.proofs.Report.{range_inside}
use Rattle.header.specs.declared.Opened.{Opened}
use Rattle.header.specs.Open.{open_of}
use Rattle.symbol.specs.declared.Tables.{Tables}
use Rattle.symbol.specs.declared.Symbol.{Symbol}
use Rattle.symbol.specs.Entry.{tables_at, entry_of, OpenTables}
use Rattle.symbol.specs.Name.{room_in}
use Rattle.symbol.specs.Symbol.{symbol_in}
use Rattle.symbol.proofs.Names.{room-in-file}
use Rattle.symbol.proofs.Checks.{symbol-known}
use Rattle.symbol_lookup.specs.Lookup.{symbol_at, name_behind, symbol_name_at, report_of_symbol, symbol_report}
use Rattle.symbol_lookup.proofs.Names.{NoZero, name-no-zero-in, name-within-room}
use Rattle.std.specs.Prelude.{Err, Ok, Result}
use Rattle.refusal.specs.Verdict.{Verdict}

-- a part that is found lies where its answer does
pub found_within : {n : ℕ} {r : FileRange} {a : Result FileRange Refusal} → Ok r ≡ a → Within n a → r.start.0 + r.length ≤ n
found_within e h = rw (← e) at h

module _ (file : List ℕ) (i : SymbolIndex) where
  pub at-refused : {o : Opened} {x : Refusal} → o ≡ open_of file → o.verdict ≡ Err x → Err x ≡ symbol_at file i
  unfolding symbol_at
  at-refused e k = rw (rw e at k)

  pub at-opened : {t : Tables} → OpenTables file t → symbol_in file t i ≡ symbol_at file i
  unfolding symbol_at
  at-opened o = rw (o.accepted, o.tables)

  pub symbol-reported : {a : Result Symbol Refusal} → a ≡ symbol_at file i → (a ≡ symbol_at file i) × (report_of_symbol file a ≡ symbol_report file i)
  symbol-reported e = (e, ap (report_of_symbol file) e)

  -- where a symbol is found, the file is accepted and the symbol is in its tables
  pub found_in : {s : Symbol} → symbol_at file i ≡ Ok s → OpenTables file (tables_at file) × (symbol_in file (tables_at file) i ≡ Ok s)
  unfolding symbol_at
  found_in {s} k = by-verdict (open_of file).verdict refl k
    where
      by-verdict : (v : Verdict) → (open_of file).verdict ≡ v → by_verdict v (symbol_in file (tables_at file) i) Err ≡ Ok s → OpenTables file (tables_at file) × (symbol_in file (tables_at file) i ≡ Ok s)
      by-verdict (Ok tt) q e = (record { accepted = q; tables = refl }, e)
      by-verdict (Err x) q e = let z : ◌≡◌ {A = ℕ} 0 1 = cc in absurd (omega arith)

  -- the name by the tables of the file
  pub name-opened : {t : Tables} → OpenTables file t → name_behind file t i (symbol_in file t i) ≡ symbol_name_at file i
  unfolding symbol_name_at
  name-opened o = rw (at-opened o, o.tables)

  pub name-refused : {o : Opened} {x : Refusal} → o ≡ open_of file → o.verdict ≡ Err x → Err x ≡ symbol_name_at file i
  unfolding symbol_name_at name_behind
  name-refused e k = rw (← at-refused e k)

  -- the name lies in the file
  name_in_lem : (a : Result Symbol Refusal) → symbol_at file i ≡ a → Within (length file) (name_behind file (tables_at file) i a)
  unfolding name_behind
  name_in_lem (Err x) e = tt
  name_in_lem (Ok s) e =
      let k = found_in e in
      let t = tables_at file in
      name-within-room file (room_in file t i (entry_of file t i)) (room-in-file file t i _ _ k.0 (symbol-known file t i k.1))

  pub name-within : Within (length file) (symbol_name_at file i)
  unfolding symbol_name_at
  name-within = name_in_lem (symbol_at file i) refl

  pub symbol-name-inside : InFile file (report_of_range file (symbol_name_at file i))
  symbol-name-inside = range_inside file (symbol_name_at file i) name-within

  -- and its bytes hold no zero
  no-zero-in : (a : Result Symbol Refusal) → NoZero (range_bytes file (name_behind file (tables_at file) i a))
  unfolding name_behind
  no-zero-in (Err x) = λ k h. absurd (omega arith)
  no-zero-in (Ok s) = name-no-zero-in file (room_in file (tables_at file) i (entry_of file (tables_at file) i))

  pub name-no-zero : NoZero (range_bytes file (symbol_name_at file i))
  unfolding symbol_name_at
  name-no-zero = no-zero-in (symbol_at file i)
