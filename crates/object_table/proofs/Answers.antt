-- The answers of the listings. Assumes nothing.
use Prim.Native.Nat.{ℕ}
use mathlib.Core.Path.{◌≡◌, refl, sym, ◌∙◌, ap}
use mathlib.Core.Bool.{true, false}
use mathlib.Core.List.{List}
use lib.ListN.{length}
use Rattle.refusal.specs.declared.Refusal.{Refusal}
use Rattle.refusal.specs.Refusal.{is_refused}
use Rattle.refusal.specs.Order.{◌or_else◌, if_accepted}
use Rattle.refusal.proofs.Order.{accepts}
use Rattle.offset.specs.Report.{report_head}
use Rattle.header.specs.declared.Opened.{Opened}
use Rattle.header.specs.declared.Summary.{Summary}
use Rattle.header.specs.Open.{open_of}
use Rattle.object.specs.Check.{object_in, object_check}
use Rattle.rows.specs.Rows.{room_check}
use Rattle.rows.proofs.Laws.{room-exact}
use Rattle.std.specs.Prelude.{Err, Ok}
use Rattle.refusal.specs.Verdict.{Verdict}

-- ---- by the room

module _ (before : List ℕ) (needed : ℕ) {v : Verdict} (e : v ≡ room_check (length before) needed) where
  pub room-known : is_refused v ≡ false → length before ≡ needed
  room-known k = room-exact (length before) needed (sym e ∙ accepts v k)

  pub room-accepted : is_refused v ≡ false → (Ok tt) ≡ room_check (length before) needed
  room-accepted k = sym (accepts v k) ∙ e

-- a refusal leaves what was there
pub as_before : (rows before : List ℕ) (v : Verdict) → is_refused v ≡ true → before ≡ if_accepted v rows before
as_before rows before (Ok tt) r = cc
as_before rows before (Err x) r = refl

-- ---- by the object's own checks, before the listing's

-- what a listing ensures of its verdict r and of what it leaves in the lent memory
abbrev Lists : List ℕ → Verdict → List ℕ → List ℕ → Verdict → List ℕ → Type 0
Lists file c rows before r after = (r ≡ c) × ((report_head file r ≡ report_head file c) × (after ≡ if_accepted c rows before))

lists : (file rows before : List ℕ) {r c : Verdict} {after : List ℕ} → r ≡ c → after ≡ if_accepted r rows before → Lists file c rows before r after
lists file rows before e q = (e, (ap (report_head file) e, rw (← e) q))

module _ (file before : List ℕ) (check : Summary → Verdict) (rows : Summary → List ℕ) {o : Opened} (e : o ≡ open_of file) where
  abbrev whole : Verdict
  whole = object_check file or_else check (open_of file).summary

  pub open-refused : {x : Refusal} → o.verdict ≡ Err x → Lists file whole (rows (open_of file).summary) before (Err x) before
  open-refused h = lists file (rows (open_of file).summary) before (unfold object_check in rw (← e) (rw h refl)) refl

  module _ {v : Verdict} (k : o.verdict ≡ Ok tt) (q : v ≡ object_in file o.summary) where
    same : v ≡ object_check file
    unfolding object_check
    same = rw (← e) (rw k q)

    pub object-refused : {x : Refusal} → v ≡ Err x → Lists file whole (rows (open_of file).summary) before (Err x) before
    object-refused h = lists file (rows (open_of file).summary) before (rw (← same, h) refl) refl

    pub object-listed : {r : Verdict} {after : List ℕ} → v ≡ Ok tt → r ≡ check o.summary → after ≡ if_accepted r (rows o.summary) before
        → Lists file whole (rows (open_of file).summary) before r after
    object-listed h p a = lists file (rows (open_of file).summary) before (rw (← same, h, ← e) p) (rw (← e) a)
