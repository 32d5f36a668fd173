-- What the refusals of builds and moves name is there. Assumes nothing.
use Prim.Native.Nat.{ℕ, ◌+◌}
use mathlib.Core.Path.{refl}
use mathlib.Core.Bool.{not}
use mathlib.Core.List.{List}
use lib.Dec.{eqb, ltb}
use lib.ListN.{length, get_or}
use Rattle.refusal.specs.declared.PlanItem.{PlanItem}
use Rattle.refusal.specs.declared.PlanItem.TheVariants.{TextAddress, DataAddress, ImportAddress}
use Rattle.refusal.specs.declared.Refusal.{Refusal}
use Rattle.refusal.specs.declared.Refusal.TheVariants as refusal
use Rattle.refusal.specs.declared.RoomItem.{RoomItem}
use Rattle.refusal.specs.declared.RoomItem.TheVariants.{TextBuffer, DataBuffer, AddressList}
use Rattle.refusal.proofs.Causes.{Causes, cause-if, cause-test, cause-then, cause-first}
use Rattle.offset.specs.Named.{Named}
use Rattle.offset.proofs.Named.{plain-named}
use Rattle.loadable.specs.Loadable.{loadable_at}
use Rattle.loadable.proofs.Named.{LoadableCauses, loadable-named}
use Rattle.history.specs.declared.Followed.{Followed}
use Rattle.history.specs.declared.Followed.TheVariants as followed
use Rattle.history.specs.Plan.{Relocatable, Plan, limit_of, list_room, list_check, fits, address_check, import_check, fit_check, plan_check}
use Rattle.history.specs.Call.{Call, build, move, buffer_room, room_check, call_check}
use Rattle.plan.specs.Relocatable.{relocatable_of, no_module, relocatable_by, relocatable_at}
use Rattle.std.specs.Prelude.{Err, Ok, Result}
use Rattle.loadable.specs.declared.Loadable.{Loadable}

-- ---- of any module, where its own refusal is named

module _ (file : List ℕ) (m : Relocatable) where
  abbrev P : Refusal → Type 0
  P = Named file

  room-item : (i : RoomItem) → P (refusal.Room i)
  room-item i = plain-named file (refusal.Room i) (λ s. refl) (λ _ e. e)

  plan-item : (i : PlanItem) → P (refusal.Plan i)
  plan-item i = plain-named file (refusal.Plan i) (λ s. refl) (λ _ e. e)

  list-named : (p : Plan) → Causes P (list_check m p)
  unfolding list_check list_room
  list-named p = cause-if P (not (eqb (length p.list) (length m.symbols))) (refusal.Room AddressList) (λ _. room-item AddressList)

  address-named : (list : List ℕ) (i : ℕ) (f : Followed) → Causes P (address_check (limit_of m) list i f)
  unfolding address_check
  address-named list i (followed.Import k v) = cause-if P (not (ltb (get_or list k 0) (limit_of m))) (refusal.Plan (ImportAddress i)) (λ _. plan-item (ImportAddress i))
  address-named list i followed.Text = tt
  address-named list i followed.Data = tt
  address-named list i followed.Nothing = tt

  fit-named : (p : Plan) → Causes P (fit_check m p)
  unfolding fit_check import_check
  fit-named p =
      cause-test P (not (fits (limit_of m) p.text (length m.raw.text))) (refusal.Plan TextAddress) _ (λ _. plan-item TextAddress)
      (λ _. cause-test P (not (fits (limit_of m) p.dat (length m.raw.dat))) (refusal.Plan DataAddress) _ (λ _. plan-item DataAddress)
      (λ _. cause-first P (import_check m p.list) 0 (length m.symbols) (λ k _ _. address-named p.list (k + 3) (get_or m.symbols k followed.Nothing))))

  pub room-named : (tl dl : ℕ) → Causes P (room_check m tl dl)
  unfolding room_check buffer_room
  room-named tl dl =
      cause-test P (not (eqb tl (length m.raw.text))) (refusal.Room TextBuffer) _ (λ _. room-item TextBuffer)
      (λ _. cause-if P (not (eqb dl (length m.raw.dat))) (refusal.Room DataBuffer) (λ _. room-item DataBuffer))

  module _ (v : Causes P m.verdict) where
    pub plan-named-by : (p : Plan) → Causes P (plan_check m p)
    unfolding plan_check
    plan-named-by p = cause-then P m.verdict _ v (λ _. cause-then P (list_check m p) _ (list-named p) (λ _. fit-named p))

    call-named-by : (tl dl : ℕ) (c : Call) → Causes P (call_check m tl dl c)
    unfolding call_check
    call-named-by tl dl (build p) = cause-then P (plan_check m p) _ (plan-named-by p) (λ _. room-named tl dl)
    call-named-by tl dl (move p q) =
        cause-then P m.verdict _ v
        (λ _. cause-then P (list_check m p) _ (list-named p)
        (λ _. cause-then P (list_check m q) _ (list-named q)
        (λ _. cause-then P (fit_check m p) _ (fit-named p)
        (λ _. cause-then P (fit_check m q) _ (fit-named q) (λ _. room-named tl dl)))))

-- ---- of the module in a file

verdict-named : (file : List ℕ) → Causes (Named file) (relocatable_at file).verdict
unfolding relocatable_at relocatable_by relocatable_of no_module
verdict-named file = by (loadable_at file) (loadable-named file)
  where
    by : (a : Result Loadable Refusal) → LoadableCauses (Named file) a → Causes (Named file) (relocatable_by file a).verdict
    by (Ok l) c = tt
    by (Err x) c = c

pub plan-named : (file : List ℕ) (p : Plan) → Causes (Named file) (plan_check (relocatable_at file) p)
plan-named file p = plan-named-by file (relocatable_at file) (verdict-named file) p

-- request 4: of each build and move, on buffers of any lengths
pub call-named : (file : List ℕ) (tl dl : ℕ) (c : Call) → Causes (Named file) (call_check (relocatable_at file) tl dl c)
call-named file tl dl c = call-named-by file (relocatable_at file) (verdict-named file) tl dl c
