-- The same of the operation: where `write_module` accepts, on whatever file. Assumes nothing.
use mathlib.Core.Path.{◌≡◌, refl, sym, ◌∙◌, ap}
use mathlib.Core.List.{List}
use Prim.Native.Nat.{ℕ}
use lib.ListN.{length, get_or}
use Rattle.refusal.specs.Verdict.{Verdict}
use Rattle.refusal.specs.declared.Refusal.TheVariants as refusal
use Rattle.refusal.specs.Order.{◌or_else◌, refuse_if}
use Rattle.refusal.proofs.Order.{accepted-first, accepted-rest, accepted-test, not-accepted}
use Rattle.header.specs.Open.{open_of}
use Rattle.loadable.specs.declared.Loadable.{Loadable}
use Rattle.loadable.specs.Loadable.{loadable_at}
use Rattle.update.specs.Update.{Bytes}
use Rattle.history.specs.Images.{Images}
use Rattle.history.specs.Plan.{Relocatable, Plan, SamePlan, plan_check}
use Rattle.history.specs.Call.{Call, answer_of, run}
use Rattle.image.specs.Report.{report_of_call}
use Rattle.plan.specs.Relocatable.{relocatable_of, relocatable_by, relocatable_at, no_module}
use Rattle.rebase.specs.Rebase.{recorded_plan}
use Rattle.written.specs.Written.{written}
use Rattle.written.specs.Shared.{is_shared}
use Rattle.written.specs.Write.{shared_check, output_room, rewrite_check, written_at}
use Rattle.written.specs.Changed.{Changed}
use Rattle.rewritten.proofs.Reports.{reports-alike}
use Rattle.rewritten.proofs.Theorem.{Writable, written-opens-again, written-runs, written-answers, written-recorded, written-length, written_byte, written-again, relocatable-is}
use Rattle.rewritten.proofs.Own.{written-own}
use Rattle.std.specs.Prelude.{Err, Ok, Result}
use Rattle.refusal.specs.declared.Refusal.{Refusal}

first-accepted : (m : Relocatable) (p : Plan) → plan_check m p ≡ Ok tt → m.verdict ≡ Ok tt
unfolding plan_check
first-accepted m p e = accepted-first m.verdict _ e

as-found : (file : List ℕ) (p : Plan) {l : Loadable} → loadable_at file ≡ Ok l → written_at file p ≡ written file l p
unfolding written_at
as-found file p q = rw q refl

-- the module of a file that is accepted
pub record Rewritten (file : List ℕ) (p : Plan) : Type 0 where
  pub layout : Loadable
  pub writable : Writable file layout p
  pub is : written_at file p ≡ written file layout p

module _ (file : List ℕ) (p : Plan) (n : ℕ) where
  by_answer : (a : Result Loadable Refusal) → loadable_at file ≡ a → (plan_check (relocatable_by file a) p or_else shared_check file a or_else output_room (length file) n) ≡ Ok tt → Rewritten file p
  by_answer (Ok l) q e =
      let rest = accepted-rest (plan_check (relocatable_by file (Ok l)) p) _ e in
      record {
        layout = l;
        writable = record {
          loads = q;
          plan = unfold relocatable_at in rw q (accepted-first (plan_check (relocatable_by file (Ok l)) p) _ e);
          apart = accepted-test (is_shared file (open_of file).summary l) refusal.Shared (accepted-first (refuse_if (is_shared file (open_of file).summary l) refusal.Shared) _ rest);
        };
        is = unfold written_at in rw q refl;
      }
  by_answer (Err x) q e = not-accepted (refused (accepted-first (plan_check (relocatable_by file (Err x)) p) _ e))
    where
      refused : plan_check (relocatable_by file (Err x)) p ≡ Ok tt → ◌≡◌ {A = Verdict} (Err x) (Ok tt)
      refused k = unfold plan_check relocatable_by no_module in k

  pub rewritten : rewrite_check file p n ≡ Ok tt → Rewritten file p
  unfolding rewrite_check relocatable_at
  rewritten e = by_answer (loadable_at file) refl e

module _ (file : List ℕ) (p : Plan) (n : ℕ) (e : rewrite_check file p n ≡ Ok tt) where
  abbrev r : Rewritten file p
  r = rewritten file p n e

  -- the written file is an accepted module
  pub rewritten-accepted : (relocatable_at (written_at file p)).verdict ≡ Ok tt
  rewritten-accepted = rw r.is (opened (written-opens-again file r.layout p r.writable))
    where
      opened : {l : Loadable} → loadable_at (written file r.layout p) ≡ Ok l → (relocatable_at (written file r.layout p)).verdict ≡ Ok tt
      opened q = unfold relocatable_at relocatable_by relocatable_of in rw q refl

  -- "Opened again, its recorded addresses are the plan's, ignored list places aside"
  pub rewritten-recorded : SamePlan (relocatable_at file) (recorded_plan (relocatable_at (written_at file p))) p
  rewritten-recorded = rw r.is (written-recorded file r.layout p r.writable)

  -- "building it for any plan gives what the first file gives": every list of builds and moves, in both buffers
  pub rewritten-runs : (cs : List Call) (x : Images) → run (relocatable_at (written_at file p)) cs x ≡ run (relocatable_at file) cs x
  rewritten-runs cs x = rw r.is (written-runs file r.layout p r.writable cs x)

  -- and what each call answers: its refusal, or the entry and TOC addresses
  pub rewritten-answers : (tl dl : ℕ) (c : Call) → answer_of (relocatable_at (written_at file p)) tl dl c ≡ answer_of (relocatable_at file) tl dl c
  rewritten-answers tl dl c = rw r.is (written-answers file r.layout p r.writable tl dl c)

  -- and what is reported: number, item, offset, entry and TOC
  pub rewritten-reports : (tl dl : ℕ) (c : Call) → report_of_call (written_at file p) (answer_of (relocatable_at (written_at file p)) tl dl c) ≡ report_of_call file (answer_of (relocatable_at file) tl dl c)
  rewritten-reports tl dl c =
      ap (report_of_call (written_at file p)) (rewritten-answers tl dl c)
      ∙ reports-alike (relocatable_at file) (first-accepted (relocatable_at file) p r.writable.plan) (written_at file p) file tl dl c

  -- "The length and every other byte stay"
  pub rewritten-length : length (written_at file p) ≡ length file
  rewritten-length = rw r.is (written-length file r.layout p r.writable)

  pub rewritten-byte : (k : ℕ) → (Changed file (open_of file).summary r.layout k → ⊥) → get_or (written_at file p) k 0 ≡ get_or file k 0
  rewritten-byte k h = rw r.is (written_byte file r.layout p r.writable k h)

  -- a module written for p and then for q is the one written for q
  pub rewritten-again : (q : Plan) → written_at (written_at file p) q ≡ written_at file q
  rewritten-again q =
      let l = r.layout in
      ap (λ (ws : List ℕ). written_at ws q) r.is ∙ as-found (written file l p) q (written-opens-again file l p r.writable) ∙ written-again file l p r.writable q ∙ sym (as-found file q r.writable.loads)

-- a module written for its own recorded plan is the file itself, byte for byte; the elements of a file are bytes
pub rewritten-own : (file : List ℕ) → Bytes file → written_at file (recorded_plan (relocatable_at file)) ≡ file
rewritten-own file b = by-answer' (loadable_at file) refl
  where
    by-answer' : (a : Result Loadable Refusal) → loadable_at file ≡ a → written_at file (recorded_plan (relocatable_at file)) ≡ file
    by-answer' (Ok l) q =
        ap (λ (m : Relocatable). written_at file (recorded_plan m)) (relocatable-is file l q) ∙ as-found file (recorded_plan (relocatable_of file l)) q ∙ written-own file l q b
    by-answer' (Err x) q = unfold written_at in rw q refl
