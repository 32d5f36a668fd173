use mathlib.Core.Path.{ap}
use borrow.Author.Tests.{le-ltb, lt-ltb}
use native.Mathlib.Omega.{arith}
use Rattle.loadable.proofs.Accepted.{loadable-valid}
use Rattle.import_id.proofs.Strings.{strings-few, strings-there}
use Rattle.import_id.specs.Import.{id_check, import_at, import_in}
use Rattle.word.proofs.Test.{found}
use Rattle.offset.specs.Report.{report_of_range}
use Rattle.import_id.proofs.import_range.Goals as goal
use Rattle.refusal.proofs.Order.{handed}
use mathlib.Core.Path.{refl}

pub overflow_mul-n : goal.overflow_mul-n
overflow_mul-n c = let h = loadable-valid c.args.file.now _ (found c.in_ok-l.ensures.cause refl) in omega (arith, strings-there _ _ c.args.n 0 h c.if-n-t.true (omega arith), strings-few _ _ h)

pub overflow_add-n : goal.overflow_add-n
overflow_add-n c = let h = loadable-valid c.args.file.now _ (found c.in_ok-l.ensures.cause refl) in omega (arith, strings-there _ _ c.args.n _ h c.if-n-t.true c.place_of.ensures.bound, strings-few _ _ h)

pub string_of-requires : goal.string_of-requires
string_of-requires c = let h = loadable-valid c.args.file.now _ (found c.in_ok-l.ensures.cause refl) in (h.loader.tables.ids, strings-there _ _ c.args.n _ h c.if-n-t.true c.place_of.ensures.bound, h.sections.small)

pub returns-then-n-t-clause-cause : goal.returns-then-n-t-clause-cause
unfolding import_at import_in id_check
returns-then-n-t-clause-cause c = rw (found c.in_ok-l.ensures.cause refl, lt-ltb _ _ c.if-n-t.true, c.string_of.ensures, c.place_of.ensures.value)

pub returns-then-n-t-clause-report : goal.returns-then-n-t-clause-report
unfolding import_at import_in id_check
returns-then-n-t-clause-report c = ap (report_of_range _) (returns-then-n-t-clause-cause c)

pub returns-in_err-l-clause-cause : goal.returns-in_err-l-clause-cause
unfolding import_at import_in
returns-in_err-l-clause-cause c = rw (handed c.from_residual.ensures) (rw (found c.in_err-l.ensures.cause refl))

pub returns-in_err-l-clause-report : goal.returns-in_err-l-clause-report
unfolding import_at import_in
returns-in_err-l-clause-report c = ap (report_of_range _) (returns-in_err-l-clause-cause c)

pub returns-clause-cause : goal.returns-clause-cause
unfolding import_at import_in id_check
returns-clause-cause c = rw (found c.in_ok-l.ensures.cause refl, le-ltb _ _ c.if-n-t.false)

pub returns-clause-report : goal.returns-clause-report
unfolding import_at import_in id_check
returns-clause-report c = ap (report_of_range _) (returns-clause-cause c)
