use mathlib.Core.Path.{ap}
use mathlib.Core.Path.{◌≡◌}
use native.Mathlib.Omega.{arith}
use Rattle.offset.specs.Report.{report_of_range}
use Rattle.word.proofs.Test.{found}
use Rattle.section_lookup.proofs.Lookup.{looked-up, known, inside, name-whole, name-refused, name-found}
use Rattle.file_header.specs.Header.{section_start}
use Rattle.section_lookup.specs.Lookup.{lookup_check, name_of}
use Rattle.section_lookup.proofs.section_name_range.Goals as goal
use Rattle.std.specs.Prelude.{Ok}
use Rattle.refusal.proofs.Order.{handed}
use mathlib.Core.Path.{refl}

pub overflow_sub-n : goal.overflow_sub-n
overflow_sub-n c = let k = known _ _ ((let fact : lookup_check c.args.file.now c.args.n ≡ (Ok tt) = let a = c.args in found (looked-up a.file.now a.n c.open-o.ensures.cause c.in_ok-check_number.ensures) refl in fact)) in omega arith

pub section_start-base-requires : goal.section_start-base-requires
unfolding section_start
section_start-base-requires c = let k = known _ _ ((let fact : lookup_check c.args.file.now c.args.n ≡ (Ok tt) = let a = c.args in found (looked-up a.file.now a.n c.open-o.ensures.cause c.in_ok-check_number.ensures) refl in fact)) in let i = inside _ _ ((let fact : lookup_check c.args.file.now c.args.n ≡ (Ok tt) = let a = c.args in found (looked-up a.file.now a.n c.open-o.ensures.cause c.in_ok-check_number.ensures) refl in fact)) in rw c.open-o.ensures.cause (omega (arith, i.small, i.headers), omega (arith, i.few))

pub text_in-requires : goal.text_in-requires
text_in-requires c = let k = known _ _ ((let fact : lookup_check c.args.file.now c.args.n ≡ (Ok tt) = let a = c.args in found (looked-up a.file.now a.n c.open-o.ensures.cause c.in_ok-check_number.ensures) refl in fact)) in name-whole _ _ ((let fact : lookup_check c.args.file.now c.args.n ≡ (Ok tt) = let a = c.args in found (looked-up a.file.now a.n c.open-o.ensures.cause c.in_ok-check_number.ensures) refl in fact)) _ (omega arith) c.open-o.ensures.cause c.section_layout-l.ensures c.section_start-base.ensures

pub returns-in_err-check_number-clause-cause : goal.returns-in_err-check_number-clause-cause
returns-in_err-check_number-clause-cause c = rw (handed c.from_residual.ensures) (let a = c.args in let v = looked-up a.file.now a.n c.open-o.ensures.cause c.in_err-check_number.ensures in name-refused a.file.now a.n _ v refl)

pub returns-in_err-check_number-clause-report : goal.returns-in_err-check_number-clause-report
returns-in_err-check_number-clause-report c = ap (report_of_range _) (returns-in_err-check_number-clause-cause c)

pub returns-clause-cause : goal.returns-clause-cause
unfolding name_of
returns-clause-cause c = let a = c.args in let o = c.open-o.ensures.cause in let v = looked-up a.file.now a.n o c.in_ok-check_number.ensures in name-found a.file.now a.n v refl (rw (← o, c.text_in.ensures, c.section_start-base.ensures, c.section_layout-l.ensures))

pub returns-clause-report : goal.returns-clause-report
unfolding name_of
returns-clause-report c = ap (report_of_range _) (returns-clause-cause c)
