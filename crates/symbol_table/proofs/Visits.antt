-- The rows along the walk: the loop that writes them, the memory that they need, and the answers. Assumes nothing.
use Prim.Native.Nat.{ℕ, ◌+◌, ◌-◌, ◌*◌, ◌≤◌, ◌<◌}
use mathlib.Core.Path.{◌≡◌, refl, sym, ◌∙◌, ap}
use mathlib.Core.List.{List, [], ◌∷◌, ◌++◌}
use native.Mathlib.Omega.{arith}
use borrow.Author.Tests.{eq-eqb}
use lib.ListN.{length, length-append}
use lib.Seq.{sets, length-sets}
use Rattle.format.specs.declared.SymbolIndex.{SymbolIndex}
use Rattle.refusal.specs.declared.Refusal.{Refusal}
use Rattle.refusal.specs.Order.{◌or_else◌, by_verdict, if_accepted}
use Rattle.header.specs.declared.Opened.{Opened}
use Rattle.header.specs.Open.{open_of}
use Rattle.symbol.specs.declared.Tables.{Tables}
use Rattle.symbol.specs.declared.Symbol.{Symbol}
use Rattle.symbol.specs.Entry.{tables_at, OpenTables}
use Rattle.symbol.specs.Symbol.{symbol_in}
use Rattle.symbol.proofs.Checks.{symbol-in-table}
use Rattle.walk.specs.declared.WalkEnd.{WalkEnd}
use Rattle.walk.specs.Walk.{visited_from, visited_in, walk_in, walk_of, report_of_walk, walk_report}
use Rattle.walk.proofs.Steps.{visited-start, visited-next, walk-visited}
use Rattle.update.proofs.Stores.{sets-append, sets-whole}
use Rattle.rows.specs.Rows.{room_check}
use Rattle.rows.proofs.Laws.{room-exact}
use Rattle.symbol_table.specs.Row.{symbol_row}
use Rattle.symbol_table.specs.Table.{rows_along, rows_in, symbol_rows, room_for, table_check, symbol_table, symbols_after}
use Rattle.std.specs.Prelude.{Err, Ok, Result}
use Rattle.refusal.specs.Verdict.{Verdict}

row-length : (file : List ℕ) (i : SymbolIndex) → length (symbol_row file i) ≡ 15
unfolding symbol_row
row-length file i = refl

-- 15 numbers for each symbol
pub rows-length : (file : List ℕ) (is : List SymbolIndex) → length (rows_along file is) ≡ 15 * length is
unfolding rows_along
rows-length file [] = refl
rows-length file (i ∷ is) =
    length-append (symbol_row file i) (rows_along file is) ∙ rw (row-length file i, rows-length file is) (omega arith)

-- ---- the loop

-- `visited` rows are written into l₀, the next is that of index i, and l is what the memory holds: with the rest of the rows it holds what all of them leave in l₀
pub record Listing (file : List ℕ) (t : Tables) (l₀ l : List ℕ) (visited i : ℕ) : Type 0 where
  pub few : visited ≤ i
  pub inside : i ≤ t.count
  pub same : length l ≡ length l₀
  pub room : visited * 15 + length (rows_along file (visited_from file t (t.count - visited) i)) ≡ length l₀
  pub left : sets l (visited * 15) (rows_along file (visited_from file t (t.count - visited) i)) ≡ sets l₀ 0 (rows_in file t)

module _ (file : List ℕ) (t : Tables) where
  pub listing_start : (l : List ℕ) → length l ≡ length (rows_in file t) → Listing file t l l 0 0
  listing_start l e =
      record { few = omega arith; inside = omega arith; same = refl; room = rw (← visited-start file t) (omega arith); left = rw (← visited-start file t) refl }

  -- none is left
  pub listing-end : {l : List ℕ} (l₀ : List ℕ) (visited i : ℕ) → visited_from file t (t.count - visited) i ≡ [] → length l₀ ≡ length (rows_in file t) → Listing file t l₀ l visited i → l ≡ rows_in file t
  unfolding rows_along
  listing-end {l} l₀ visited i none e k =
      sym (ap (λ (is : List SymbolIndex). sets l (visited * 15) (rows_along file is)) none) ∙ k.left ∙ sets-whole l₀ (rows_in file t) (sym e)

  -- a turn
  module _ {l₀ : List ℕ} (l : List ℕ) (visited i : ℕ) (h : i < t.count) (k : Listing file t l₀ l visited i) {s : Symbol} (e : symbol_in file t (record { 0 = i }) ≡ Ok s) where
    row_next : rows_along file (visited_from file t (t.count - visited) i) ≡ symbol_row file (record { 0 = i }) ++ rows_along file (visited_from file t (t.count - (visited + 1)) (i + 1 + s.numaux))
    unfolding rows_along
    row_next = ap (rows_along file) (visited-next file t i visited k.few h e)

    lengths : length (rows_along file (visited_from file t (t.count - visited) i)) ≡ 15 + length (rows_along file (visited_from file t (t.count - (visited + 1)) (i + 1 + s.numaux)))
    lengths =
        let rest = rows_along file (visited_from file t (t.count - (visited + 1)) (i + 1 + s.numaux)) in
        ap length row_next ∙ length-append (symbol_row file (record { 0 = i })) rest ∙ ap (λ (n : ℕ). n + length rest) (row-length file (record { 0 = i }))

    -- the symbol and its auxiliaries are in the table, and its row in the memory
    pub next-inside : i + 1 + s.numaux ≤ t.count
    next-inside = symbol-in-table file t (record { 0 = i }) e

    pub row_inside : visited * 15 + 15 ≤ length l
    row_inside = let room = k.room in let same = k.same in omega (arith, lengths)

    pub listing-next : {out r : List ℕ} → r ≡ symbol_row file (record { 0 = i }) → out ≡ sets l (visited * 15) r → Listing file t l₀ out (visited + 1) (i + 1 + s.numaux)
    listing-next q p =
        let row = symbol_row file (record { 0 = i }) in
        let few = k.few in
        let room = k.room in
        let place : (visited + 1) * 15 ≡ visited * 15 + length row = rw (row-length file (record { 0 = i })) (omega arith) in
        record {
          few = omega arith;
          inside = next-inside;
          same = rw (p, q) (length-sets l (visited * 15) row ∙ k.same);
          room = omega (arith, lengths);
          left = rw (p, q, place, ← sets-append l (visited * 15) row (rows_along file (visited_from file t (t.count - (visited + 1)) (i + 1 + s.numaux))), ← row_next) k.left;
        }

  -- ---- the answers

  module _ (before : List ℕ) {v : Verdict} {w : WalkEnd} (q : w ≡ walk_in file t) (e : v ≡ room_check (length before) (15 * w.visited)) where
    visited-is : 15 * w.visited ≡ 15 * length (visited_in file t)
    visited-is = ap (λ (x : WalkEnd). 15 * x.visited) q ∙ ap (λ (n : ℕ). 15 * n) (walk-visited file t)

    room-is : v ≡ room_for file t (length before)
    room-is = e ∙ ap (room_check (length before)) visited-is

    pub room-known : v ≡ Ok tt → length before ≡ length (rows_in file t)
    room-known k = room-exact (length before) (15 * w.visited) (sym e ∙ k) ∙ visited-is ∙ sym (rows-length file (visited_in file t))

    pub listed : {after : List ℕ} → v ≡ Ok tt → after ≡ rows_in file t → (Ok w ≡ by_verdict (room_for file t (length before)) (Ok (walk_in file t)) Err) × (after ≡ if_accepted (room_for file t (length before)) (rows_in file t) before)
    listed k p = rw (← room-is, k) (ap Ok q, p)

    pub not_listed : {x : Refusal} → v ≡ Err x → (Err x ≡ by_verdict (room_for file t (length before)) (Ok (walk_in file t)) Err) × (before ≡ if_accepted (room_for file t (length before)) (rows_in file t) before)
    not_listed k = rw (← room-is, k) (refl, refl)

-- what a listing ensures of its answer r and of what it leaves in the lent memory
abbrev pub Lists : List ℕ → List ℕ → Result WalkEnd Refusal → List ℕ → Type 0
Lists file before r after =
    (r ≡ symbol_table file (length before)) × ((report_of_walk file r ≡ report_of_walk file (symbol_table file (length before))) × (after ≡ symbols_after file before))

module _ (file before : List ℕ) where
  pub table-refused : {o : Opened} {x : Refusal} → o ≡ open_of file → o.verdict ≡ Err x → Lists file before (Err x) before
  table-refused {o} {x} e k = (answer, (ap (report_of_walk file) answer, after))
    where
      answer : Err x ≡ symbol_table file (length before)
      answer = unfold symbol_table table_check in rw (rw e at k) refl

      after : before ≡ symbols_after file before
      after = unfold symbols_after table_check in rw (rw e at k) refl

  pub table-listed : {t : Tables} {r : Result WalkEnd Refusal} {after : List ℕ} → OpenTables file t → r ≡ by_verdict (room_for file t (length before)) (Ok (walk_in file t)) Err → after ≡ if_accepted (room_for file t (length before)) (rows_in file t) before → Lists file before r after
  table-listed {t} {r} {after} o p z = (answer, (ap (report_of_walk file) answer, left))
    where
      answer : r ≡ symbol_table file (length before)
      answer = unfold symbol_table table_check in rw o.accepted (rw o.tables at p)

      left : after ≡ symbols_after file before
      left = unfold symbols_after table_check symbol_rows in rw o.accepted (rw o.tables at z)

-- 15 numbers for each symbol that `walk` counts are exactly what the rows take: with them the answer is the walk's
pub symbols-need : (file : List ℕ) → (symbol_table file (15 * (walk_report file).visited) ≡ walk_of file) × (length (symbol_rows file) ≡ 15 * (walk_report file).visited)
unfolding symbol_table table_check walk_of symbol_rows room_check
symbols-need file = by-verdict (open_of file).verdict
  where
    t : Tables
    t = tables_at file

    by-verdict : (v : Verdict) → (let w : (Result WalkEnd Refusal) = by_verdict v (Ok (walk_in file t)) Err in (by_verdict (v or_else room_for file t (15 * (report_of_walk file w).visited)) (Ok (walk_in file t)) Err ≡ w) × (length (if_accepted v (rows_in file t) []) ≡ 15 * (report_of_walk file w).visited))
    by-verdict (Err x) = (refl, refl)
    by-verdict (Ok tt) =
        let e = ap (λ (n : ℕ). 15 * n) (walk-visited file t) in
        (rw (eq-eqb (15 * (walk_in file t).visited) (15 * length (visited_in file t)) e) refl, rows-length file (visited_in file t) ∙ sym e)
