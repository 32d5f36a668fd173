-- The answers of a table's listing, and how much memory it needs. Assumes nothing.
use mathlib.Core.Path.{◌≡◌, refl, sym, ◌∙◌, ap}
use mathlib.Core.Bool.{true, false}
use mathlib.Core.List.{List}
use Prim.Native.Nat.{ℕ, ◌*◌}
use native.Mathlib.Omega.{arith}
use borrow.Author.Tests.{eq-eqb}
use lib.ListN.{length}
use Rattle.refusal.specs.declared.Refusal.{Refusal}
use Rattle.refusal.specs.Refusal.{is_refused}
use Rattle.refusal.proofs.Order.{accepts}
use Rattle.loadable.specs.declared.Loadable.{Loadable}
use Rattle.loadable.specs.Loadable.{loadable_at}
use Rattle.rows.specs.Rows.{rows_of, room_check}
use Rattle.rows.proofs.Laws.{room-exact, length-rows}
use Rattle.module_table.specs.Table.{Table, check_by, table_check, rows_by, table_after}
use Rattle.refusal.specs.Order.{if_accepted}
use Rattle.offset.specs.Report.{report_head}
use Rattle.std.specs.Prelude.{Err, Ok, Result}
use Rattle.refusal.specs.Verdict.{Verdict}

-- ---- the answers

-- what a listing ensures of its verdict r and of what it leaves in the lent memory
abbrev pub Lists : Table → List ℕ → List ℕ → Verdict → List ℕ → Type 0
Lists t file before r after =
    (r ≡ table_check t file (length before)) × ((report_head file r ≡ report_head file (table_check t file (length before))) × (after ≡ table_after t file before))

module _ (t : Table) (file before : List ℕ) where
  -- of an accepted module l: by the room
  module _ (l : Loadable) {v : Verdict} (e : v ≡ room_check (length before) (t.width * t.count l)) where
    pub room-known : is_refused v ≡ false → length before ≡ t.width * t.count l
    room-known k = room-exact (length before) (t.width * t.count l) (sym e ∙ accepts v k)

    pub listed : {after : List ℕ} → is_refused v ≡ false → after ≡ rows_of (t.row file l) 0 (t.count l) → ((Ok tt) ≡ check_by t (Ok l) (length before)) × (after ≡ if_accepted (Ok tt) (rows_by t file (Ok l)) before)
    unfolding check_by rows_by
    listed k q = (sym (accepts v k) ∙ e, q)

    pub not_listed : is_refused v ≡ true → (v ≡ check_by t (Ok l) (length before)) × (before ≡ if_accepted v (rows_by t file (Ok l)) before)
    unfolding check_by
    not_listed k = (e, as_before v k)
      where
        as_before : (u : Verdict) → is_refused u ≡ true → before ≡ if_accepted u (rows_by t file (Ok l)) before
        as_before (Ok tt) r = cc
        as_before (Err x) r = refl

  -- by the module's verdict
  module _ {a : Result Loadable Refusal} (e : a ≡ loadable_at file) where
    pub table-listed : {l : Loadable} {r : Verdict} {after : List ℕ} → a ≡ Ok l → r ≡ check_by t (Ok l) (length before) → after ≡ if_accepted r (rows_by t file (Ok l)) before → Lists t file before r after
    unfolding table_check table_after
    table-listed {l} {r} {after} k p q =
        let c : r ≡ check_by t (loadable_at file) (length before) = rw (← e, k) p in
        (c, (ap (report_head file) c, rw (← c, ← e, k) q))

    pub table-refused : {x : Refusal} → a ≡ Err x → Lists t file before (Err x) before
    unfolding table_check table_after check_by
    table-refused {x} k =
        let c : Err x ≡ check_by t (loadable_at file) (length before) = rw (← e, k) refl in
        (c, (ap (report_head file) c, rw (← e, k) refl))

-- ---- the memory that a listing needs, by what `module_of` answers

-- the module's own verdict
abbrev pub module_verdict : Result Loadable Refusal → Verdict
module_verdict (Ok l) = Ok tt
module_verdict (Err x) = Err x

-- `needed` numbers are exactly what the rows take: with them the module's refusals are the only ones
abbrev pub Needs : Table → List ℕ → ℕ → Type 0
Needs t file needed = (table_check t file needed ≡ module_verdict (loadable_at file)) × (length (rows_by t file (loadable_at file)) ≡ needed)

pub needs-by : (t : Table) (entries : Result Loadable Refusal → ℕ) (file : List ℕ) → ((l : Loadable) → entries (Ok l) ≡ t.count l) → ((x : Refusal) → entries (Err x) ≡ 0) → ((l : Loadable) (j : ℕ) → length (t.row file l j) ≡ t.width) → (a : Result Loadable Refusal) → (check_by t a (t.width * entries a) ≡ module_verdict a) × (length (rows_by t file a) ≡ t.width * entries a)
unfolding check_by rows_by room_check
needs-by t entries file found refused even (Ok l) =
    rw (found l) (rw (eq-eqb (t.width * t.count l) (t.width * t.count l) refl) refl, length-rows (t.row file l) t.width (even l) (t.count l) 0)
needs-by t entries file found refused even (Err x) = (refl, rw (refused x) (omega arith))
