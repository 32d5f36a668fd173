-- Serves internal contracts only: a file that is the module l and opens to y, and the refusals that are left then.
use Rattle.std.specs.Prelude.{◌≡◌, List, ℕ, length, Ok}
use Rattle.refusal.specs.declared.Refusal.TheVariants as refusal
use Rattle.refusal.specs.Order.{◌or_else◌, refuse_if}
use Rattle.header.specs.declared.Summary.{Summary}
use Rattle.header.specs.Open.{open_of}
use Rattle.loadable.specs.declared.Loadable.{Loadable}
use Rattle.loadable.specs.Loadable.{loadable_at}
use Rattle.history.specs.Plan.{Plan, plan_check}
use Rattle.plan.specs.Relocatable.{relocatable_of}
use Rattle.written.specs.Shared.{is_shared}
use Rattle.written.specs.Write.{output_room}
use Rattle.refusal.specs.Verdict.{Verdict}

pub record Ready (file : List ℕ) (y : Summary) (l : Loadable) : Type 0 where
  pub opens : y ≡ (open_of file).summary
  pub loads : loadable_at file ≡ Ok l

-- ROOM 2, PLAN, SHARED, ROOM 0
unfoldable pub check_of : List ℕ → Summary → Loadable → Plan → ℕ → Verdict
check_of file y l p n = plan_check (relocatable_of file l) p or_else refuse_if (is_shared file y l) refusal.Shared or_else output_room (length file) n
