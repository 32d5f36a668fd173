-- What a call answers and leaves, by what its checks said and what was written. Assumes nothing.
use Prim.Native.Nat.{ℕ}
use mathlib.Core.Path.{◌≡◌, refl, sym, ◌∙◌, ap, ap₂}
use mathlib.Core.Bool.{Bool, true, false}
use mathlib.Core.List.{List}
use lib.ListN.{length}
use Rattle.refusal.specs.declared.Refusal.{Refusal}
use Rattle.refusal.specs.Refusal.{is_refused}
use Rattle.refusal.specs.Order.{if_accepted}
use Rattle.refusal.proofs.Order.{told-accepted}
use Rattle.offset.specs.Report.{report_head}
use Rattle.header.specs.declared.Opened.{Opened}
use Rattle.header.specs.declared.Summary.{Summary}
use Rattle.header.specs.Open.{open_of}
use Rattle.symbol.specs.declared.Tables.{Tables}
use Rattle.object.specs.Check.{object_in, object_check}
use Rattle.book.specs.Machine.{Shifts}
use Rattle.object_history.specs.Entry.{apply_all}
use Rattle.object_history.specs.Object.{Object, Plan, displacements, differences}
use Rattle.object_history.specs.Call.{Call, build, move, range_check, call_check, effect}
use Rattle.object_plan.specs.Object.{object_of}
use Rattle.object_plan.specs.Shifts.{address_shifts}
use Rattle.object_plan.specs.Ready.{ObjectReady}
use Rattle.object_shifts.specs.Places.{places_of, recorded_of}
use Rattle.object_shifts.proofs.Places.{built-shifts, moved-shifts}
use Rattle.object_image.proofs.Checks.{refused-here, accepted-here, plan_check, plans_check, plan-known, plans-known, build-order, move-order}
use Rattle.std.specs.Prelude.{Err, Ok}
use Rattle.refusal.specs.Verdict.{Verdict}

module _ (o : Object) (c : Call) (x : List ℕ) where
  -- what a call answers and leaves
  abbrev pub Answers : Verdict → List ℕ → Type 0
  Answers v z = (v ≡ call_check o (length x) x c) × (z ≡ effect o c x)

  -- refused: nothing is changed
  pub call-refused : {v : Verdict} → v ≡ call_check o (length x) x c → is_refused v ≡ true → Answers v x
  unfolding effect
  call-refused e h = (e, kept (call_check o (length x) x c) _ (ap is_refused (sym e) ∙ h))
    where
      kept : (v : Verdict) (z : List ℕ) → is_refused v ≡ true → x ≡ if_accepted v z x
      kept (Ok tt) z h = cc
      kept (Err r) z h = refl

-- accepted
pub build-done : (o : Object) (p : Plan) (x z : List ℕ) → call_check o (length x) x (build p) ≡ Ok tt → z ≡ apply_all o.entries (displacements o p) o.raw
    → Answers o (build p) x (Ok tt) z
unfolding effect
build-done o p x z e h = (sym e, rw e h)

pub move-done : (o : Object) (p q : Plan) (x z : List ℕ) → call_check o (length x) x (move p q) ≡ Ok tt → z ≡ apply_all o.entries (differences o p q) x
    → Answers o (move p q) x (Ok tt) z
unfolding effect differences
move-done o p q x z e h = (sym e, rw e h)

-- ---- an object file that is accepted

module _ (file : List ℕ) (y : Summary) (t : Tables) (r : ObjectReady file y t) where
  -- a build, by its checks v and w before and of RANGE
  module _ (p : Plan) (x : List ℕ) {v : Verdict} {a : Bool} (e : v ≡ plan_check file y t r p (length x)) (h : a ≡ is_refused v) where
    pub build-planless : a ≡ true → Answers (object_of file) (build p) x v x
    build-planless k =
        call-refused (object_of file) (build p) x (refused-here _ e h k ∙ build-order file y t r p (length x) x) (sym h ∙ k)

    module _ (k : a ≡ false) where
      -- the plan has an address for each section, and the buffer is as long as the raw bytes
      pub build-known : (length p ≡ y.count) × (length x ≡ length (object_of file).raw)
      build-known = plan-known file y t r p (length x) (told-accepted e h k)

      module _ {to from : List ℕ} (m : to ≡ places_of y p) (n : from ≡ recorded_of y) {w : Verdict} {b : Bool}
          (f : w ≡ range_check (object_of file) (address_shifts to from) (object_of file).raw) (i : b ≡ is_refused w) where
        built : address_shifts to from ≡ displacements (object_of file) p
        built = ap₂ address_shifts m n ∙ built-shifts file y t r p

        judged : w ≡ call_check (object_of file) (length x) x (build p)
        judged =
            accepted-here _ e h k (f ∙ ap (λ (s : Shifts). range_check (object_of file) s (object_of file).raw) built)
            ∙ build-order file y t r p (length x) x

        pub build-out : b ≡ true → Answers (object_of file) (build p) x w x
        build-out j = call-refused (object_of file) (build p) x judged (sym i ∙ j)

        pub build-written : {z u : List ℕ} → b ≡ false → z ≡ (object_of file).raw → u ≡ apply_all (object_of file).entries (address_shifts to from) z
            → Answers (object_of file) (build p) x (Ok tt) u
        build-written j raw q =
            build-done (object_of file) p x _ (told-accepted judged i j)
            (q ∙ ap₂ (λ (s : Shifts) (l : List ℕ). apply_all (object_of file).entries s l) built raw)

  -- a move
  module _ (p q : Plan) (x : List ℕ) {v : Verdict} {a : Bool} (e : v ≡ plans_check file y t r p q (length x)) (h : a ≡ is_refused v) where
    pub move-planless : a ≡ true → Answers (object_of file) (move p q) x v x
    move-planless k =
        call-refused (object_of file) (move p q) x (refused-here _ e h k ∙ move-order file y t r p q (length x) x) (sym h ∙ k)

    module _ (k : a ≡ false) where
      pub move-known : (length p ≡ y.count) × (length q ≡ y.count) × (length x ≡ length (object_of file).raw)
      move-known = plans-known file y t r p q (length x) (told-accepted e h k)

      module _ {to from : List ℕ} (m : to ≡ places_of y q) (n : from ≡ places_of y p) {w : Verdict} {b : Bool}
          (f : w ≡ range_check (object_of file) (address_shifts to from) x) (i : b ≡ is_refused w) where
        moved : address_shifts to from ≡ differences (object_of file) p q
        moved = ap₂ address_shifts m n ∙ moved-shifts file y t r p q

        move-judged : w ≡ call_check (object_of file) (length x) x (move p q)
        move-judged =
            accepted-here _ e h k (f ∙ ap (λ (s : Shifts). range_check (object_of file) s x) moved) ∙ move-order file y t r p q (length x) x

        pub move-out : b ≡ true → Answers (object_of file) (move p q) x w x
        move-out j = call-refused (object_of file) (move p q) x move-judged (sym i ∙ j)

        pub move-written : {u : List ℕ} → b ≡ false → u ≡ apply_all (object_of file).entries (address_shifts to from) x → Answers (object_of file) (move p q) x (Ok tt) u
        move-written j l =
            move-done (object_of file) p q x _ (told-accepted move-judged i j) (l ∙ ap (λ (s : Shifts). apply_all (object_of file).entries s x) moved)

-- ---- a call of any file

module _ (file : List ℕ) (c : Call) (x : List ℕ) where
  -- what a public function answers and leaves
  abbrev pub Reports : Verdict → List ℕ → Type 0
  Reports v z = (v ≡ call_check (object_of file) (length x) x c) × ((report_head file v ≡ report_head file (call_check (object_of file) (length x) x c)) × (z ≡ effect (object_of file) c x))

  pub reported : {v : Verdict} {z : List ℕ} → Answers (object_of file) c x v z → Reports v z
  reported a = (a.0, (ap (report_head file) a.0, a.1))

  -- every call of a refused file gives its refusal
  refused-file : {u : Refusal} → object_check file ≡ Err u → Err u ≡ call_check (object_of file) (length x) x c
  refused-file {u} e = sym (by c (whole e))
    where
      whole : object_check file ≡ Err u → (object_of file).verdict ≡ Err u
      whole e = unfold object_of in e

      by : (c : Call) → (object_of file).verdict ≡ Err u → call_check (object_of file) (length x) x c ≡ Err u
      by (build p) e = unfold call_check in rw e refl
      by (move p q) e = unfold call_check in rw e refl

  module _ {o : Opened} (e : o ≡ open_of file) {u : Refusal} where
    pub unopened : o.verdict ≡ Err u → Reports (Err u) x
    unopened h = reported (call-refused (object_of file) c x (refused-file (unfold object_check in (rw (← e) (rw h refl)))) refl)

    pub unaccepted : {w : Verdict} → o.verdict ≡ Ok tt → w ≡ object_in file o.summary → w ≡ Err u → Reports (Err u) x
    unaccepted h q k = reported (call-refused (object_of file) c x (refused-file (unfold object_check in (rw (← e) (rw h (sym q ∙ k))))) refl)
