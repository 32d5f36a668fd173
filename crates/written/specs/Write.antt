-- What writing a module back answers, and what it leaves in the output.
use Rattle.std.specs.Prelude.{not, List, ℕ, eqb, length, Err, Ok, Result}
use Rattle.refusal.specs.declared.RoomItem.TheVariants.{FileBuffer}
use Rattle.refusal.specs.declared.Refusal.TheVariants as refusal
use Rattle.refusal.specs.Order.{◌or_else◌, refuse_if, if_accepted}
use Rattle.header.specs.Open.{open_of}
use Rattle.loadable.specs.Loadable.{loadable_at}
use Rattle.history.specs.Plan.{Plan, plan_check}
use Rattle.plan.specs.Relocatable.{relocatable_at}
use Rattle.written.specs.Written.{written}
use Rattle.written.specs.Shared.{is_shared}
use Rattle.refusal.specs.declared.Refusal.{Refusal}
use Rattle.loadable.specs.declared.Loadable.{Loadable}
use Rattle.refusal.specs.Verdict.{Verdict}

-- SHARED; a file that is no module is refused before
abbrev pub shared_check : List ℕ → Result Loadable Refusal → Verdict
shared_check file (Ok l) = refuse_if (is_shared file (open_of file).summary l) refusal.Shared
shared_check file (Err x) = Ok tt

-- ROOM 0: an output of exactly the file's length
unfoldable pub output_room : ℕ → ℕ → Verdict
output_room len n = refuse_if (not (eqb n len)) (refusal.Room FileBuffer)

-- the module's refusals, ROOM 2, PLAN, SHARED, ROOM 0
unfoldable pub rewrite_check : List ℕ → Plan → ℕ → Verdict
rewrite_check file p n = plan_check (relocatable_at file) p or_else shared_check file (loadable_at file) or_else output_room (length file) n

abbrev pub written_by : List ℕ → Plan → Result Loadable Refusal → List ℕ
written_by file p (Ok l) = written file l p
written_by file p (Err x) = file

-- the file written for a plan; where there is no module it is the file
unfoldable pub written_at : List ℕ → Plan → List ℕ
written_at file p = written_by file p (loadable_at file)

-- what the output holds afterwards: a refusal changes nothing
unfoldable pub output_after : List ℕ → Plan → List ℕ → List ℕ
output_after file p out = if_accepted (rewrite_check file p (length out)) (written_at file p) out
