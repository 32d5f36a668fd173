-- The laws of the walk. Assumes nothing.
use Prim.Native.Nat.{ℕ, zero, suc, ◌+◌, ◌-◌, ◌≤◌, ◌<◌}
use mathlib.Core.Path.{◌≡◌, refl, sym, ◌∙◌, ap}
use mathlib.Core.Bool.{Bool, true, false, cond}
use mathlib.Core.List.{List, [], ◌∷◌}
use native.Mathlib.Decide.{dec_le}
use native.Mathlib.Nat.{sub-zero}
use native.Mathlib.Omega.{arith}
use borrow.Author.Tests.{le-leb, lt-leb}
use lib.Dec.{leb}
use lib.ListN.{length}
use Rattle.format.specs.declared.SymbolIndex.{SymbolIndex}
use Rattle.refusal.specs.declared.Refusal.{Refusal}
use Rattle.refusal.specs.Refusal.{is_refused}
use Rattle.refusal.specs.Order.{first_refusal, by_verdict}
use Rattle.refusal.proofs.Order.{accepts}
use Rattle.header.specs.declared.Opened.{Opened}
use Rattle.header.specs.Open.{open_of}
use Rattle.symbol.specs.declared.Tables.{Tables}
use Rattle.symbol.specs.declared.Symbol.{Symbol}
use Rattle.symbol.specs.declared.SymbolEntry.{SymbolEntry}
use Rattle.symbol.specs.Entry.{tables_at, OpenTables, entry_of}
use Rattle.symbol.specs.Symbol.{symbol_checks, symbol_check, symbol_of, symbol_in}
use Rattle.symbol.proofs.Checks.{symbol-found, symbol-refused, symbol-numaux, symbol-in-table}
use Rattle.symbol_lookup.specs.Lookup.{symbol_at}
use Rattle.symbol_lookup.proofs.Lookup.{at-opened}
use Rattle.walk.specs.Walk.{visit_step, visited_from, visited_in, end_of, walk_in, walk_of, report_of_walk, walk_report}
use Rattle.std.specs.Prelude.{Err, Ok, Result}
use Rattle.walk.specs.declared.WalkEnd.{WalkEnd}
use Rattle.refusal.specs.Verdict.{Verdict}

-- ---- the symbols that are visited

module _ (file : List ℕ) (t : Tables) where
  -- none at the table's end, and one step before it
  pub visited-end : (steps i : ℕ) → t.count ≤ i → visited_from file t steps i ≡ []
  unfolding visited_from
  visited-end zero i h = refl
  visited-end (suc steps) i h = rw (le-leb t.count i h)

  visited-step : (steps i : ℕ) → i < t.count → visited_from file t (suc steps) i ≡ visit_step i (visited_from file t steps) (symbol_in file t (record { 0 = i }))
  unfolding visited_from
  visited-step steps i h = rw (lt-leb t.count i h)

  pub visited-start : visited_in file t ≡ visited_from file t (t.count - 0) 0
  unfolding visited_in
  visited-start = rw (sub-zero t.count)

  -- the loop over the table: a symbol, and a refusal
  module _ (i n : ℕ) (p : n ≤ i) (h : i < t.count) where
    turn : visited_from file t (t.count - n) i ≡ visit_step i (visited_from file t (t.count - (n + 1))) (symbol_in file t (record { 0 = i }))
    turn =
        let e : t.count - n ≡ suc (t.count - (n + 1)) = omega arith in
        ap (λ (steps : ℕ). visited_from file t steps i) e ∙ visited-step (t.count - (n + 1)) i h

    pub visited-next : {s : Symbol} → symbol_in file t (record { 0 = i }) ≡ Ok s → visited_from file t (t.count - n) i ≡ record { 0 = i } ∷ visited_from file t (t.count - (n + 1)) (i + 1 + s.numaux)
    unfolding visit_step
    visited-next e = turn ∙ ap (visit_step i (visited_from file t (t.count - (n + 1)))) e

    pub visited-stop : {x : Refusal} → symbol_in file t (record { 0 = i }) ≡ Err x → visited_from file t (t.count - n) i ≡ []
    unfolding visit_step
    visited-stop e = turn ∙ ap (visit_step i (visited_from file t (t.count - (n + 1)))) e

  -- there are no more than steps
  visited-most : (steps i : ℕ) → length (visited_from file t steps i) ≤ steps
  unfolding visited_from visit_step
  visited-most zero i = omega arith
  visited-most (suc steps) i = by_end (leb t.count i) (symbol_in file t (record { 0 = i })) (λ j. visited-most steps j)
    where
      by_end : (b : Bool) (a : Result Symbol Refusal) → ((j : ℕ) → length (visited_from file t steps j) ≤ steps) → length (cond b [] (visit_step i (visited_from file t steps) a)) ≤ suc steps
      by_end true a rest = omega arith
      by_end false (Err x) rest = omega arith
      by_end false (Ok s) rest = let r = rest (i + 1 + s.numaux) in omega arith

  pub visited-few : length (visited_in file t) ≤ t.count
  unfolding visited_in
  visited-few = visited-most t.count 0

  -- as many steps as reach the table's end are enough: more change nothing
  pub visited-enough : (a b i : ℕ) → t.count ≤ i + a → t.count ≤ i + b → visited_from file t a i ≡ visited_from file t b i
  unfolding visit_step
  visited-enough zero b i h k = visited-end zero i (omega arith) ∙ sym (visited-end b i (omega arith))
  visited-enough (suc a) zero i h k = visited-end (suc a) i (omega arith) ∙ sym (visited-end zero i (omega arith))
  visited-enough (suc a) (suc b) i h k = by_place (λ j p q. visited-enough a b j p q) (dec_le t.count i)
    where
      same : ((j : ℕ) → t.count ≤ j + a → t.count ≤ j + b → visited_from file t a j ≡ visited_from file t b j) → (r : Result Symbol Refusal) → visit_step i (visited_from file t a) r ≡ visit_step i (visited_from file t b) r
      same rest (Err x) = refl
      same rest (Ok s) = ap (λ (js : List SymbolIndex). record { 0 = i } ∷ js) (rest (i + 1 + s.numaux) (omega arith) (omega arith))

      by_place : ((j : ℕ) → t.count ≤ j + a → t.count ≤ j + b → visited_from file t a j ≡ visited_from file t b j) → Dec (t.count ≤ i) → visited_from file t (suc a) i ≡ visited_from file t (suc b) i
      by_place rest (yes p) = visited-end (suc a) i p ∙ sym (visited-end (suc b) i p)
      by_place rest (no p) = visited-step a i (omega arith) ∙ same rest (symbol_in file t (record { 0 = i })) ∙ sym (visited-step b i (omega arith))

-- the walk over an accepted file is the one of stepping with `symbol_at`
pub walk_steps : (file : List ℕ) → (open_of file).verdict ≡ Ok tt → (steps i : ℕ) → i < (tables_at file).count
    → visited_from file (tables_at file) (suc steps) i ≡ visit_step i (visited_from file (tables_at file) steps) (symbol_at file (record { 0 = i }))
walk_steps file e steps i h =
    let t = tables_at file in
    visited-step file t steps i h ∙ ap (visit_step i (visited_from file t steps)) (at-opened file (record { 0 = i }) (record { accepted = e; tables = refl }))

-- ---- where the walk ends, and why

refused-check : (file : List ℕ) (t : Tables) (i : SymbolIndex) {x : Refusal} → symbol_in file t i ≡ Err x → symbol_check file t i (entry_of file t i) ≡ Err x
unfolding symbol_in
refused-check file t i {x} k = by-verdict (symbol_check file t i (entry_of file t i)) k
  where
    by-verdict : (v : Verdict) → by_verdict v (Ok (symbol_of t (entry_of file t i))) Err ≡ Err x → v ≡ Err x
    by-verdict (Ok tt) e = cc
    by-verdict (Err y) e = cc

module _ (file : List ℕ) (t : Tables) where
  pub walk_start : walk_in file t ≡ end_of file t 0 0 (visited_from file t (t.count - 0) 0)
  unfolding walk_in
  walk_start = ap (end_of file t 0 0) (visited-start file t)

  pub walk-visited : (walk_in file t).visited ≡ length (visited_in file t)
  unfolding walk_in
  walk-visited = omega arith

  -- at the table's end
  pub walk_end : (steps i n : ℕ) → t.count ≤ i → end_of file t i n (visited_from file t steps i) ≡ record { visited = n; end = record { 0 = i }; cause = Ok tt }
  walk_end steps i n h =
      let z : n + 0 ≡ n = omega arith in
      ap (end_of file t i n) (visited-end file t steps i h) ∙ rw (le-leb t.count i h, z) refl

  module _ (i n : ℕ) (p : n ≤ i) (h : i < t.count) where
    -- a symbol is visited
    pub walk_turn : {s : Symbol} → symbol_in file t (record { 0 = i }) ≡ Ok s → end_of file t i n (visited_from file t (t.count - n) i) ≡ end_of file t (i + 1 + s.numaux) (n + 1) (visited_from file t (t.count - (n + 1)) (i + 1 + s.numaux))
    walk_turn {s} e =
        let j : SymbolIndex = record { 0 = i } in
        let rest = visited_from file t (t.count - (n + 1)) (i + 1 + s.numaux) in
        let m : n + suc (length rest) ≡ n + 1 + length rest = omega arith in
        let next : end_of file t i n (j ∷ rest) ≡ end_of file t (i + 1 + (entry_of file t j).numaux) (n + 1) rest = rw m refl in
        ap (end_of file t i n) (visited-next file t i n p h e) ∙ next ∙ ap (λ (k : ℕ). end_of file t (i + 1 + k) (n + 1) rest) (sym (symbol-numaux file t j e))

    -- and a refusal ends the walk
    pub walk-stop : {x : Refusal} → symbol_in file t (record { 0 = i }) ≡ Err x → end_of file t i n (visited_from file t (t.count - n) i) ≡ record { visited = n; end = record { 0 = i }; cause = Err x }
    walk-stop e =
        let z : n + 0 ≡ n = omega arith in
        ap (end_of file t i n) (visited-stop file t i n p h e) ∙ rw (lt-leb t.count i h, refused-check file t (record { 0 = i }) e, z) refl

    -- the same by the entry's own verdict
    module _ {e : SymbolEntry} {v : Verdict} (a : e ≡ entry_of file t (record { 0 = i })) (b : v ≡ first_refusal (symbol_checks file t (record { 0 = i }) e)) where
      pub walk-refuses : is_refused v ≡ true → end_of file t i n (visited_from file t (t.count - n) i) ≡ record { visited = n; end = record { 0 = i }; cause = v }
      walk-refuses k = by-verdict v b k
        where
          by-verdict : (w : Verdict) → w ≡ first_refusal (symbol_checks file t (record { 0 = i }) e) → is_refused w ≡ true → end_of file t i n (visited_from file t (t.count - n) i) ≡ record { visited = n; end = record { 0 = i }; cause = w }
          by-verdict (Ok tt) q z = let n : ◌≡◌ {A = ℕ} 0 1 = cc in absurd (omega arith)
          by-verdict (Err x) q z = walk-stop (symbol-refused file t (record { 0 = i }) h a q refl)

      pub walk-accepts : is_refused v ≡ false → end_of file t i n (visited_from file t (t.count - n) i) ≡ end_of file t (i + 1 + e.numaux) (n + 1) (visited_from file t (t.count - (n + 1)) (i + 1 + e.numaux))
      unfolding symbol_of
      walk-accepts k = walk_turn (symbol-found file t (record { 0 = i }) h a b (accepts v k))

      -- the entry and its auxiliaries are in the table
      pub walk_inside : is_refused v ≡ false → i + 1 + e.numaux ≤ t.count
      unfolding symbol_of
      walk_inside k = symbol-in-table file t (record { 0 = i }) (symbol-found file t (record { 0 = i }) h a b (accepts v k))

-- ---- the answer

pub walk_refused : (file : List ℕ) {o : Opened} {x : Refusal} → o ≡ open_of file → o.verdict ≡ Err x → Err x ≡ walk_of file
unfolding walk_of
walk_refused file e k = rw (rw e at k)

pub walk-ended : (file : List ℕ) {t : Tables} → OpenTables file t → Ok (walk_in file t) ≡ walk_of file
unfolding walk_of
walk-ended file o = rw (o.accepted, o.tables)

pub walk-reported : (file : List ℕ) {a : Result WalkEnd Refusal} → a ≡ walk_of file → (a ≡ walk_of file) × (report_of_walk file a ≡ walk_report file)
walk-reported file e = (e, ap (report_of_walk file) e)
