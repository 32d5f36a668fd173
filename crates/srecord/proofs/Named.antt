-- What the refusals of records name is there: nothing in the file beyond a plan's. Assumes nothing.
use Prim.Native.Nat.{ℕ, zero, suc}
use mathlib.Core.Path.{refl}
use mathlib.Core.Bool.{not}
use mathlib.Core.List.{List}
use lib.Dec.{eqb}
use lib.ListN.{length}
use Rattle.format.specs.declared.Format.{Format}
use Rattle.format.specs.declared.Format.TheVariants.{Xcoff32, Xcoff64}
use Rattle.refusal.specs.declared.Refusal.{Refusal}
use Rattle.refusal.specs.declared.Refusal.TheVariants as refusal
use Rattle.refusal.specs.declared.RoomItem.TheVariants.{RecordBuffer}
use Rattle.refusal.proofs.Causes.{Causes, cause-if, cause-then}
use Rattle.record.specs.Record.{first_bad, text_length}
use Rattle.offset.specs.Named.{Named}
use Rattle.offset.proofs.Named.{plain-named}
use Rattle.history.specs.Plan.{Relocatable, Plan, plan_check}
use Rattle.history.specs.Call.{room_check}
use Rattle.plan.specs.Relocatable.{relocatable_at}
use Rattle.plan.proofs.Named.{plan-named, room-named}
use Rattle.srecord.specs.Records.{form_check, shares, clash_check, records_check, shape_of, record_write_check, line_check, record_read_check}

module _ (file : List ℕ) (p : Plan) where
  abbrev P : Refusal → Type 0
  P = Named file

  abbrev m : Relocatable
  m = relocatable_at file

  form-named : (f : Format) → Causes P (form_check f)
  form-named Xcoff32 = tt
  form-named Xcoff64 = plain-named file refusal.Form (λ s. refl) (λ _ e. e)

  -- request 4: of the record text's length
  pub records-named : Causes P (records_check m p)
  unfolding records_check clash_check
  records-named =
      cause-then P (plan_check m p) _ (plan-named file p)
      (λ _. cause-then P (form_check m.format) _ (form-named m.format)
      (λ _. cause-if P (shares p.text (length m.raw.text) p.dat (length m.raw.dat)) refusal.Clash (λ _. plain-named file refusal.Clash (λ s. refl) (λ _ e. e))))

  -- of writing it
  pub write-named : (tl dl rl : ℕ) → Causes P (record_write_check m p tl dl rl)
  unfolding record_write_check
  write-named tl dl rl =
      cause-then P (records_check m p) _ records-named
      (λ _. cause-then P (room_check m tl dl) _ (room-named file m tl dl)
      (λ _. cause-if P (not (eqb rl (text_length (shape_of m p tl dl)))) (refusal.Room RecordBuffer) (λ _. plain-named file (refusal.Room RecordBuffer) (λ s. refl) (λ _ e. e))))

  line-named : (n : ℕ) → Causes P (line_check n)
  unfolding line_check
  line-named zero = tt
  line-named (suc n) = plain-named file (refusal.Record (suc n)) (λ s. refl) (λ _ e. e)

  -- of reading it
  pub read_named : (tl dl : ℕ) (t : List ℕ) → Causes P (record_read_check m p tl dl t)
  unfolding record_read_check
  read_named tl dl t =
      cause-then P (records_check m p) _ records-named
      (λ _. cause-then P (room_check m tl dl) _ (room-named file m tl dl) (λ _. line-named (first_bad (shape_of m p tl dl) t)))
