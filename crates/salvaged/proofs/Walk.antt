-- The walk over mended entries reaches the table's end; where a walk does, nothing is changed. Assumes nothing.
use mathlib.Core.Path.{◌≡◌, refl, sym, ◌∙◌, ap, subst}
use mathlib.Core.Bool.{Bool, true, false, cond}
use mathlib.Core.List.{List, [], ◌∷◌}
use Prim.Native.Nat.{ℕ, zero, suc, ◌+◌, ◌≤◌, ◌<◌}
use native.Mathlib.Omega.{arith}
use lib.Dec.{leb}
use lib.ListN.{length}
use borrow.Author.Tests.{leb-true, leb-false, le-leb}
use Rattle.format.specs.declared.SymbolIndex.{SymbolIndex}
use Rattle.format.specs.Layout.{symbol_layout, symbol_length}
use Rattle.refusal.specs.Order.{by_verdict, first_refusal}
use Rattle.refusal.proofs.Order.{not-accepted, accepted-rest}
use Rattle.symbol.specs.declared.Tables.{Tables}
use Rattle.symbol.specs.declared.SymbolEntry.{SymbolEntry}
use Rattle.symbol.specs.Entry.{OpenTables, entry_start, entry_of}
use Rattle.symbol.specs.Symbol.{index_check, symbol_checks, symbol_check, symbol_of, symbol_in}
use Rattle.symbol.proofs.Checks.{symbol-found, symbol-in-table}
use Rattle.walk.specs.Walk.{visit_step, visited_from, visited_in, behind, cause_at, walk_in}
use Rattle.frame.specs.Same.{Same}
use Rattle.frame.proofs.Readers.{SameDebug, symbol-entry-same}
use Rattle.mend.specs.Mend.{changes_at, put_all, mended_entry}
use Rattle.mend.proofs.Mended.{mended-is}
use Rattle.salvage.specs.Salvage.{mended_from, mended_in, changes_of, changes_in}
use Rattle.salvaged.proofs.Accepted.{none-changed, mended-accepted}
use Rattle.salvaged.proofs.Places.{Mended}
use Rattle.std.specs.Prelude.{Err, Ok}
use Rattle.refusal.specs.Verdict.{Verdict}

-- ---- a file with the same strings whose visited entries are as mended

module _ (file : List ℕ) (t : Tables) (o : OpenTables file t) (ys : List ℕ) (s : Same t.strings.start.0 t.strings.length ys file) (d : SameDebug t.debug ys file) where
  same-entry : (i : SymbolIndex) → Same (entry_start t i.0) symbol_length ys (put_all t (changes_at file t i) file) → entry_of ys t i ≡ mended_entry file t i
  unfolding entry_of mended_entry
  same-entry i e = symbol-entry-same t.format (entry_start t i.0) e

  -- each is accepted
  entry_found : (i : SymbolIndex) → i.0 < t.count → entry_of ys t i ≡ mended_entry file t i → symbol_in ys t i ≡ Ok (symbol_of t (mended_entry file t i))
  entry_found i h e =
      symbol-found ys t i h refl refl
      (subst (λ (x : SymbolEntry). first_refusal (symbol_checks ys t i x) ≡ Ok tt) (sym (e ∙ mended-is file t o i h)) (mended-accepted file ys t i (entry_of file t i) s d h))
      ∙ ap (λ (x : SymbolEntry). Ok (symbol_of t x)) e

  -- so the walk visits the same entries
  pub walk-mended : (steps i : ℕ) → Mended file t ys (mended_from file t steps i) → visited_from ys t steps i ≡ mended_from file t steps i
  unfolding visited_from mended_from
  walk-mended zero i m = refl
  walk-mended (suc steps) i m = by-test (λ l. walk-mended steps (i + 1 + (mended_entry file t (record { 0 = i })).numaux) l) (leb t.count i) refl m
    where
      here : SymbolIndex
      here = record { 0 = i }

      rest : List SymbolIndex
      rest = mended_from file t steps (i + 1 + (mended_entry file t here).numaux)

      stepped : visit_step i (visited_from ys t steps) (Ok (symbol_of t (mended_entry file t here))) ≡ here ∷ visited_from ys t steps (i + 1 + (mended_entry file t here).numaux)
      stepped = unfold visit_step symbol_of in refl

      by-test : (Mended file t ys rest → visited_from ys t steps (i + 1 + (mended_entry file t here).numaux) ≡ rest)
          → (c : Bool) → leb t.count i ≡ c → Mended file t ys (cond c [] (here ∷ rest))
          → cond c [] (visit_step i (visited_from ys t steps) (symbol_in ys t here)) ≡ cond c [] (here ∷ rest)
      by-test later true q m = refl
      by-test later false q m =
          ap (visit_step i (visited_from ys t steps)) (entry_found here (leb-false t.count i q) (same-entry here m.0))
          ∙ stepped
          ∙ ap (λ (is : List SymbolIndex). here ∷ is) (later m.1)

  -- and ends at the table's end
  pub behind-mended : (steps i : ℕ) → i ≤ t.count → t.count ≤ i + steps → Mended file t ys (mended_from file t steps i) → behind ys t i (mended_from file t steps i) ≡ t.count
  unfolding mended_from
  behind-mended zero i a b m = omega arith
  behind-mended (suc steps) i a b m = by-test (λ k l. behind-mended steps (i + 1 + (mended_entry file t (record { 0 = i })).numaux) k (omega arith) l) (leb t.count i) refl m
    where
      here : SymbolIndex
      here = record { 0 = i }

      rest : List SymbolIndex
      rest = mended_from file t steps (i + 1 + (mended_entry file t here).numaux)

      by-test : (i + 1 + (mended_entry file t here).numaux ≤ t.count → Mended file t ys rest → behind ys t (i + 1 + (mended_entry file t here).numaux) rest ≡ t.count)
          → (c : Bool) → leb t.count i ≡ c → Mended file t ys (cond c [] (here ∷ rest)) → behind ys t i (cond c [] (here ∷ rest)) ≡ t.count
      by-test later true q m = let h = leb-true t.count i q in omega arith
      by-test later false q m =
          let e = same-entry here m.0 in
          let found = entry_found here (leb-false t.count i q) e in
          let bound : i + 1 + (mended_entry file t here).numaux ≤ t.count = unfold symbol_of in symbol-in-table ys t here found in
          ap (λ (x : SymbolEntry). behind ys t (i + 1 + x.numaux) rest) e ∙ later bound m.1

  pub walk-reaches : Mended file t ys (mended_in file t) → walk_in ys t ≡ record { visited = length (mended_in file t); end = record { 0 = t.count }; cause = Ok tt }
  unfolding walk_in visited_in
  walk-reaches m =
      let z : 0 + length (mended_in file t) ≡ length (mended_in file t) = omega arith in
      rw (walk-mended t.count 0 m, behind-mended t.count 0 (omega arith) (omega arith) m, le-leb t.count t.count (omega arith), z) refl

-- ---- a walk that reaches the end

module _ (file : List ℕ) (t : Tables) where
  -- an entry that no check refuses is its own mended entry
  none_here : (i : SymbolIndex) → first_refusal (symbol_checks file t i (entry_of file t i)) ≡ Ok tt → changes_at file t i ≡ []
  unfolding changes_at
  none_here i h = none-changed (symbol_layout t.format) file t i (entry_of file t i) h

  own-entry : (i : SymbolIndex) → changes_at file t i ≡ [] → mended_entry file t i ≡ entry_of file t i
  unfolding mended_entry put_all
  own-entry i h = rw h refl

  unchanged-from : (steps i : ℕ) → cause_at file t (behind file t i (visited_from file t steps i)) ≡ Ok tt → changes_of file t (mended_from file t steps i) ≡ []
  unfolding visited_from mended_from changes_of
  unchanged-from zero i h = refl
  unchanged-from (suc steps) i h = by-test (λ j k. unchanged-from steps j k) (leb t.count i) refl h
    where
      here : SymbolIndex
      here = record { 0 = i }

      entry : SymbolEntry
      entry = entry_of file t here

      by-verdict : ((j : ℕ) → cause_at file t (behind file t j (visited_from file t steps j)) ≡ Ok tt → changes_of file t (mended_from file t steps j) ≡ [])
          → leb t.count i ≡ false → (v : Verdict) → symbol_check file t here entry ≡ v
          → cause_at file t (behind file t i (visit_step i (visited_from file t steps) (by_verdict v (Ok (symbol_of t entry)) Err))) ≡ Ok tt
          → changes_of file t (here ∷ mended_from file t steps (i + 1 + (mended_entry file t here).numaux)) ≡ []
      by-verdict later q (Ok tt) e k =
          let none : changes_at file t here ≡ [] = none_here here (unfold symbol_check in accepted-rest (index_check t.count here) (first_refusal (symbol_checks file t here entry)) e) in
          let on : cause_at file t (behind file t (i + 1 + entry.numaux) (visited_from file t steps (i + 1 + entry.numaux))) ≡ (Ok tt) = unfold visit_step symbol_of in k in
          unfold changes_of in rw (none, own-entry here none) (later (i + 1 + entry.numaux) on)
      by-verdict later q (Err x) e k =
          let z : Err x ≡ (Ok tt) = unfold visit_step in sym (rw (q, e) refl) ∙ k in not-accepted z

      by-test : ((j : ℕ) → cause_at file t (behind file t j (visited_from file t steps j)) ≡ Ok tt → changes_of file t (mended_from file t steps j) ≡ [])
          → (c : Bool) → leb t.count i ≡ c → cause_at file t (behind file t i (cond c [] (visit_step i (visited_from file t steps) (symbol_in file t here)))) ≡ Ok tt
          → changes_of file t (cond c [] (here ∷ mended_from file t steps (i + 1 + (mended_entry file t here).numaux))) ≡ []
      by-test later true q k = unfold changes_of in refl
      by-test later false q k = by-verdict later q (symbol_check file t here entry) refl (unfold symbol_in in k)

  pub walk-unchanged : (walk_in file t).cause ≡ Ok tt → changes_in file t ≡ []
  unfolding walk_in visited_in changes_in
  walk-unchanged h = unchanged-from t.count 0 h
