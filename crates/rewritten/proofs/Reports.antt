-- The reports of builds and moves of an accepted module: their offsets depend on no file. Assumes nothing.
use mathlib.Core.Path.{◌≡◌, refl, sym, ◌∙◌}
use mathlib.Core.Bool.{Bool, true, false, not}
use mathlib.Core.List.{List}
use Prim.Native.Nat.{ℕ, zero, suc, ◌+◌}
use lib.Dec.{eqb, ltb}
use lib.ListN.{length, get_or}
use Rattle.refusal.specs.declared.PlanItem.{PlanItem}
use Rattle.refusal.specs.declared.PlanItem.TheVariants.{TextAddress, DataAddress, ImportAddress}
use Rattle.refusal.specs.declared.RoomItem.{RoomItem}
use Rattle.refusal.specs.declared.RoomItem.TheVariants.{TextBuffer, DataBuffer, AddressList}
use Rattle.refusal.specs.declared.Refusal.{Refusal}
use Rattle.refusal.specs.declared.Refusal.TheVariants as refusal
use Rattle.refusal.specs.Order.{◌or_else◌, refuse_if, by_verdict, first_of}
use Rattle.offset.specs.Offset.{starts_of, offset_by, offset_of}
use Rattle.history.specs.declared.Followed.{Followed}
use Rattle.history.specs.declared.Followed.TheVariants as followed
use Rattle.history.specs.Plan.{Relocatable, Plan, limit_of, reached_by, list_room, list_check, fits, address_check, import_check, fit_check, plan_check}
use Rattle.history.specs.Call.{Call, build, move, plan_reached, buffer_room, room_check, call_check, answer_of}
use Rattle.image.specs.Report.{report_of_call}
use Rattle.std.specs.Prelude.{Err, None, Ok, Option, Some}
use Rattle.offset.specs.declared.Starts.{Starts}
use Rattle.refusal.specs.Verdict.{Verdict}

-- the cause has one offset, whatever the file
abbrev Placeless : Refusal → Type 0
Placeless x = (a b : List ℕ) → offset_of a x ≡ offset_of b x

plan-at : (file : List ℕ) (s : Option Starts) (i : PlanItem) → offset_by file s (refusal.Plan i) ≡ 0
plan-at file None i = refl
plan-at file (Some s) i = refl

room_at : (file : List ℕ) (s : Option Starts) (i : RoomItem) → offset_by file s (refusal.Room i) ≡ 0
room_at file None i = refl
room_at file (Some s) i = refl

plan-placeless : (i : PlanItem) → Placeless (refusal.Plan i)
plan-placeless i a b = plan-at a (starts_of a) i ∙ sym (plan-at b (starts_of b) i)

room-placeless : (i : RoomItem) → Placeless (refusal.Room i)
room-placeless i a b = room_at a (starts_of a) i ∙ sym (room_at b (starts_of b) i)

-- so have all that a verdict gives
abbrev Free : Verdict → Type 0
Free (Ok tt) = Unit {0}
Free (Err x) = Placeless x

free_or : (v w : Verdict) → Free v → Free w → Free (v or_else w)
free_or (Ok tt) w a b = b
free_or (Err x) w a b = a

free-test : (t : Bool) (x : Refusal) → Placeless x → Free (refuse_if t x)
free-test true x h = h
free-test false x h = tt

free-first : (check : ℕ → Verdict) → ((i : ℕ) → Free (check i)) → (i n : ℕ) → Free (first_of check i n)
unfolding first_of
free-first check h i zero = tt
free-first check h i (suc n) = free_or (check i) (first_of check (suc i) n) (h i) (free-first check h (suc i) n)

module _ (m : Relocatable) (e : m.verdict ≡ Ok tt) where
  free-module : Free m.verdict
  free-module = rw e tt

  free-list : (p : Plan) → Free (list_check m p)
  unfolding list_check list_room
  free-list p = free-test (not (eqb (length p.list) (length m.symbols))) (refusal.Room AddressList) (room-placeless AddressList)

  free-address : (limit : ℕ) (list : List ℕ) (i : ℕ) (f : Followed) → Free (address_check limit list i f)
  unfolding address_check
  free-address limit list i followed.Text = tt
  free-address limit list i followed.Data = tt
  free-address limit list i (followed.Import k v) = free-test (not (ltb (get_or list k 0) limit)) (refusal.Plan (ImportAddress i)) (plan-placeless (ImportAddress i))
  free-address limit list i followed.Nothing = tt

  free-import : (list : List ℕ) (k : ℕ) → Free (import_check m list k)
  unfolding import_check
  free-import list k = free-address (limit_of m) list (k + 3) (get_or m.symbols k followed.Nothing)

  free-fit : (p : Plan) → Free (fit_check m p)
  unfolding fit_check
  free-fit p =
      let t = not (fits (limit_of m) p.text (length m.raw.text)) in
      let d = not (fits (limit_of m) p.dat (length m.raw.dat)) in
      let is = first_of (import_check m p.list) 0 (length m.symbols) in
      free_or (refuse_if t (refusal.Plan TextAddress)) (refuse_if d (refusal.Plan DataAddress) or_else is) (free-test t (refusal.Plan TextAddress) (plan-placeless TextAddress))
      (free_or (refuse_if d (refusal.Plan DataAddress)) is (free-test d (refusal.Plan DataAddress) (plan-placeless DataAddress)) (free-first (import_check m p.list) (free-import p.list) 0 (length m.symbols)))

  free-room : (tl dl : ℕ) → Free (room_check m tl dl)
  unfolding room_check buffer_room
  free-room tl dl =
      let t = not (eqb tl (length m.raw.text)) in
      let d = not (eqb dl (length m.raw.dat)) in
      free_or (refuse_if t (refusal.Room TextBuffer)) (refuse_if d (refusal.Room DataBuffer)) (free-test t (refusal.Room TextBuffer) (room-placeless TextBuffer)) (free-test d (refusal.Room DataBuffer) (room-placeless DataBuffer))

  free-call : (tl dl : ℕ) (c : Call) → Free (call_check m tl dl c)
  unfolding call_check plan_check
  free-call tl dl (build p) =
      free_or (m.verdict or_else list_check m p or_else fit_check m p) (room_check m tl dl)
      (free_or m.verdict (list_check m p or_else fit_check m p) free-module (free_or (list_check m p) (fit_check m p) (free-list p) (free-fit p)))
      (free-room tl dl)
  free-call tl dl (move p q) =
      let r = room_check m tl dl in
      free_or m.verdict (list_check m p or_else list_check m q or_else fit_check m p or_else fit_check m q or_else r) free-module
      (free_or (list_check m p) (list_check m q or_else fit_check m p or_else fit_check m q or_else r) (free-list p)
      (free_or (list_check m q) (fit_check m p or_else fit_check m q or_else r) (free-list q)
      (free_or (fit_check m p) (fit_check m q or_else r) (free-fit p) (free_or (fit_check m q) r (free-fit q) (free-room tl dl)))))

  -- so a call's report is the same on any two files
  pub reports-alike : (a b : List ℕ) (tl dl : ℕ) (c : Call) → report_of_call a (answer_of m tl dl c) ≡ report_of_call b (answer_of m tl dl c)
  unfolding answer_of
  reports-alike a b tl dl c = by-verdict (call_check m tl dl c) (free-call tl dl c)
    where
      by-verdict : (v : Verdict) → Free v → report_of_call a (by_verdict v (Ok (reached_by m (plan_reached c))) Err) ≡ report_of_call b (by_verdict v (Ok (reached_by m (plan_reached c))) Err)
      by-verdict (Ok tt) f = refl
      by-verdict (Err x) f = rw (f a b) refl
