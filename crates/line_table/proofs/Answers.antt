-- The answers of a line table's listing. Assumes nothing.
use Prim.Native.Nat.{ℕ, ◌*◌}
use mathlib.Core.Path.{◌≡◌, refl, sym, ap, ◌∙◌}
use mathlib.Core.Bool.{true, false}
use mathlib.Core.List.{List}
use lib.ListN.{length}
use Rattle.format.specs.declared.SectionNumber.{SectionNumber}
use Rattle.refusal.specs.declared.Refusal.{Refusal}
use Rattle.refusal.specs.Refusal.{is_refused}
use Rattle.refusal.specs.Order.{if_accepted}
use Rattle.refusal.proofs.Order.{accepts}
use Rattle.offset.specs.Report.{report_head}
use Rattle.line_lookup.specs.declared.LineTable.{LineTable}
use Rattle.line_lookup.specs.Lookup.{line_table_at, entries_in}
use Rattle.rows.specs.Rows.{rows_of, room_check}
use Rattle.rows.proofs.Laws.{room-exact}
use Rattle.line_table.specs.Table.{entry_row, check_by, line_table_check, rows_by, lines_after}
use Rattle.std.specs.Prelude.{Err, Ok, Result}
use Rattle.refusal.specs.Verdict.{Verdict}

-- what a listing ensures of its verdict r and of what it leaves in the lent memory
abbrev Lists : List ℕ → SectionNumber → List ℕ → Verdict → List ℕ → Type 0
Lists file n before r after =
    (r ≡ line_table_check file n (length before)) × ((report_head file r ≡ report_head file (line_table_check file n (length before))) × (after ≡ lines_after file n before))

module _ (file before : List ℕ) where
  -- of a table that is found: by the room
  module _ (t : LineTable) {v : Verdict} (e : v ≡ room_check (length before) (3 * t.count)) where
    pub room-known : is_refused v ≡ false → length before ≡ 3 * t.count
    room-known k = room-exact (length before) (3 * t.count) (sym e ∙ accepts v k)

    pub listed : {after : List ℕ} → is_refused v ≡ false → after ≡ rows_of (entry_row (entries_in file t)) 0 t.count
        → ((Ok tt) ≡ check_by (Ok t) (length before)) × (after ≡ if_accepted (Ok tt) (rows_by file (Ok t)) before)
    unfolding check_by rows_by
    listed k q = (sym (accepts v k) ∙ e, q)

    pub not_listed : is_refused v ≡ true → (v ≡ check_by (Ok t) (length before)) × (before ≡ if_accepted v (rows_by file (Ok t)) before)
    unfolding check_by
    not_listed k = (e, as_before v k)
      where
        as_before : (u : Verdict) → is_refused u ≡ true → before ≡ if_accepted u (rows_by file (Ok t)) before
        as_before (Ok tt) r = cc
        as_before (Err x) r = refl

  -- by the table's own answer
  module _ (n : SectionNumber) {a : Result LineTable Refusal} (e : a ≡ line_table_at file n) where
    pub table-listed : {t : LineTable} {r : Verdict} {after : List ℕ} → a ≡ Ok t → r ≡ check_by (Ok t) (length before) → after ≡ if_accepted r (rows_by file (Ok t)) before → Lists file n before r after
    unfolding line_table_check lines_after
    table-listed {t} {r} {after} k p q =
        let c : r ≡ check_by (line_table_at file n) (length before) = rw (← e, k) p in
        (c, (ap (report_head file) c, rw (← c, ← e, k) q))

    pub table-refused : {x : Refusal} → a ≡ Err x → Lists file n before (Err x) before
    unfolding line_table_check lines_after check_by
    table-refused {x} k =
        let c : Err x ≡ check_by (line_table_at file n) (length before) = rw (← e, k) refl in
        (c, (ap (report_head file) c, rw (← e, k) refl))
