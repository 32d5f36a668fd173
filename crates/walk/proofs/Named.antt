-- What the walk's refusals and its own cause name is there. Assumes nothing.
use Prim.Native.Nat.{ℕ}
use mathlib.Core.Path.{◌≡◌, refl}
use mathlib.Core.List.{List}
use lib.Dec.{leb}
use Rattle.word.proofs.Test.{either}
use Rattle.format.specs.declared.SymbolIndex.{SymbolIndex}
use Rattle.refusal.specs.declared.Refusal.{Refusal}
use Rattle.refusal.specs.Order.{by_verdict}
use Rattle.refusal.proofs.Causes.{Causes}
use Rattle.offset.specs.Named.{Named}
use Rattle.header.specs.Open.{open_of}
use Rattle.header.proofs.Named.{opened-named}
use Rattle.symbol.specs.declared.Tables.{Tables}
use Rattle.symbol.specs.Entry.{OpenTables, tables_at, entry_of}
use Rattle.symbol.proofs.Named.{symbol-named}
use Rattle.walk.specs.Walk.{visited_in, behind, cause_at, walk_in, walk_of}
use Rattle.std.specs.Prelude.{Err, Ok, Result}
use Rattle.walk.specs.declared.WalkEnd.{WalkEnd}
use Rattle.refusal.specs.Verdict.{Verdict}

-- what holds of the refusal of a walk, or of the cause that it ends with
abbrev pub WalkCauses : (Refusal → Type 0) → Result WalkEnd Refusal → Type 0
WalkCauses P (Ok w) = Causes P w.cause
WalkCauses P (Err x) = P x

module _ (file : List ℕ) where
  cause-named : (t : Tables) → OpenTables file t → (i : ℕ) → Causes (Named file) (cause_at file t i)
  cause-named t o i =
      let j : SymbolIndex = record { 0 = i } in
      either (Causes (Named file)) (leb t.count i) (λ _. tt) (λ _. symbol-named file t o j (entry_of file t j))

  -- the cause that the walk of an opened file ends with
  pub walk-in-named : (open_of file).verdict ≡ Ok tt → WalkCauses (Named file) (Ok (walk_in file (tables_at file)))
  unfolding walk_in
  walk-in-named e = let t = tables_at file in cause-named t (record { accepted = e; tables = refl }) (behind file t 0 (visited_in file t))

  -- request 4: of the walk, and of its own cause
  pub walk-named : WalkCauses (Named file) (walk_of file)
  unfolding walk_of
  walk-named = by (open_of file).verdict refl (opened-named file)
    where
      by : (v : Verdict) → (open_of file).verdict ≡ v → Causes (Named file) v → WalkCauses (Named file) (by_verdict v (Ok (walk_in file (tables_at file))) Err)
      by (Ok tt) e c = walk-in-named e
      by (Err x) e c = c
