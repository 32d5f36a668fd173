use Prim.Native.Nat.{◌-◌}
use lib.ListN.{length}
use native.Mathlib.Omega.{arith}
use Rattle.refusal.proofs.Order.{told-accepted}
use Rattle.object.proofs.Sections.{ready-format}
use Rattle.object_plan.proofs.Ready.{sections-few, part-good}
use Rattle.object_table.specs.Table.{entry_rows, part_of}
use Rattle.object_table.proofs.Answers.{as_before}
use Rattle.object_table.proofs.Parts.{held-known, held-refused, held-listed, rows-there}
use Rattle.object_table.proofs.entries_in.Goals as goal
use Rattle.refusal.proofs.Order.{handed}
use mathlib.Core.Path.{refl}
use Rattle.std.specs.Prelude.{Err}

pub check_held-requires : goal.check_held-requires
check_held-requires c = let a = c.args in sections-few a.file.now a.y a.t c.requires

pub returns-in_err-check_held-clause-answer : goal.returns-in_err-check_held-clause-answer
returns-in_err-check_held-clause-answer c = rw (handed c.from_residual.ensures) (let a = c.args in held-refused a.file.now a.y a.n c.in_err-check_held.ensures (length a.out.now) refl)

pub returns-in_err-check_held-clause-rows : goal.returns-in_err-check_held-clause-rows
returns-in_err-check_held-clause-rows c = rw (handed c.from_residual.ensures) (let a = c.args in as_before (entry_rows a.file.now a.y.format (part_of (length a.file.now) a.y a.n)) a.out.now (Err c.in_err-check_held.field-0.0) refl)

pub overflow_sub-n : goal.overflow_sub-n
overflow_sub-n c = let a = c.args in (held-known a.y a.n (told-accepted c.in_ok-check_held.ensures refl refl)).0

pub part_at-s-requires : goal.part_at-s-requires
part_at-s-requires c = let a = c.args in (c.requires.sections, omega (arith, held-known a.y a.n (told-accepted c.in_ok-check_held.ensures refl refl)))

pub list_entries-requires : goal.list_entries-requires
list_entries-requires c = let a = c.args in part-good a.file.now a.y a.t c.requires (a.n.0 - 1) (omega (arith, held-known a.y a.n (told-accepted c.in_ok-check_held.ensures refl refl))) c.part_at-s.ensures

pub returns-clause-answer : goal.returns-clause-answer
returns-clause-answer c = let a = c.args in let f = ready-format a.file.now a.y a.t c.requires.sections.opened in held-listed a.file.now a.y a.n c.in_ok-check_held.ensures (length a.out.now) refl c.part_at-s.ensures c.list_entries.ensures.answer

pub returns-clause-rows : goal.returns-clause-rows
returns-clause-rows c = let a = c.args in let f = ready-format a.file.now a.y a.t c.requires.sections.opened in rows-there a.file.now a.out.now a.y a.t a.n c.list_entries.result f c.part_at-s.ensures c.list_entries.ensures.rows
