-- What the refusals of writing a module name is there: nothing in the file beyond the module's. Assumes nothing.
use Prim.Native.Nat.{ℕ}
use mathlib.Core.Path.{refl}
use mathlib.Core.Bool.{not}
use mathlib.Core.List.{List}
use lib.Dec.{eqb}
use lib.ListN.{length}
use Rattle.refusal.specs.declared.Refusal.{Refusal}
use Rattle.refusal.specs.declared.Refusal.TheVariants.{Room, Shared}
use Rattle.refusal.specs.declared.RoomItem.TheVariants.{FileBuffer}
use Rattle.refusal.proofs.Causes.{Causes, cause-if, cause-then}
use Rattle.offset.specs.Named.{Named}
use Rattle.offset.proofs.Named.{plain-named}
use Rattle.header.specs.Open.{open_of}
use Rattle.loadable.specs.Loadable.{loadable_at}
use Rattle.history.specs.Plan.{Plan, plan_check}
use Rattle.plan.specs.Relocatable.{relocatable_at}
use Rattle.plan.proofs.Named.{plan-named}
use Rattle.written.specs.Shared.{is_shared}
use Rattle.written.specs.Write.{shared_check, output_room, rewrite_check}
use Rattle.std.specs.Prelude.{Err, Ok, Result}
use Rattle.loadable.specs.declared.Loadable.{Loadable}

module _ (file : List ℕ) where
  abbrev P : Refusal → Type 0
  P = Named file

  shared-named : (a : Result Loadable Refusal) → Causes P (shared_check file a)
  shared-named (Ok l) = cause-if P (is_shared file (open_of file).summary l) Shared (λ _. plain-named file Shared (λ s. refl) (λ _ e. e))
  shared-named (Err x) = tt

  room-named : (len n : ℕ) → Causes P (output_room len n)
  unfolding output_room
  room-named len n = cause-if P (not (eqb n len)) (Room FileBuffer) (λ _. plain-named file (Room FileBuffer) (λ s. refl) (λ _ e. e))

  -- request 4: of writing a module
  pub rewrite-named : (p : Plan) (n : ℕ) → Causes P (rewrite_check file p n)
  unfolding rewrite_check
  rewrite-named p n =
      cause-then P (plan_check (relocatable_at file) p) _ (plan-named file p)
      (λ _. cause-then P (shared_check file (loadable_at file)) _ (shared-named (loadable_at file)) (λ _. room-named (length file) n))
