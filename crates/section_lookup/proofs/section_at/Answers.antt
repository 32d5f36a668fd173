use Rattle.std.proofs.Common.{rules}
use mathlib.Core.Path.{ap}
use mathlib.Core.Path.{◌≡◌}
use native.Mathlib.Omega.{arith}
use Rattle.word.proofs.Test.{found}
use Rattle.section_lookup.proofs.Lookup.{looked-up, same_count, known, inside, section-refused, section-found}
use Rattle.section_lookup.specs.Lookup.{lookup_check, report_of_section}
use Rattle.section_lookup.proofs.section_at.Goals as goal
use Rattle.std.specs.Prelude.{Ok}
use Rattle.refusal.proofs.Order.{handed}
use mathlib.Core.Path.{refl}

pub overflow_sub-i : goal.overflow_sub-i
overflow_sub-i c = let k = known _ _ ((let fact : lookup_check c.args.file.now c.args.n ≡ (Ok tt) = let a = c.args in found (looked-up a.file.now a.n c.open-o.ensures.cause c.in_ok-check_number.ensures) refl in fact)) in let s = same_count c.open-o.ensures.cause in omega arith

pub offset_bounds-s-i : goal.offset_bounds-s-i
offset_bounds-s-i c = let k = known _ _ ((let fact : lookup_check c.args.file.now c.args.n ≡ (Ok tt) = let a = c.args in found (looked-up a.file.now a.n c.open-o.ensures.cause c.in_ok-check_number.ensures) refl in fact)) in let few = (inside _ _ ((let fact : lookup_check c.args.file.now c.args.n ≡ (Ok tt) = let a = c.args in found (looked-up a.file.now a.n c.open-o.ensures.cause c.in_ok-check_number.ensures) refl in fact))).few in let s = same_count c.open-o.ensures.cause in omega arith

pub bounds-s-i : goal.bounds-s-i
bounds-s-i c = let k = known _ _ ((let fact : lookup_check c.args.file.now c.args.n ≡ (Ok tt) = let a = c.args in found (looked-up a.file.now a.n c.open-o.ensures.cause c.in_ok-check_number.ensures) refl in fact)) in let few = (inside _ _ ((let fact : lookup_check c.args.file.now c.args.n ≡ (Ok tt) = let a = c.args in found (looked-up a.file.now a.n c.open-o.ensures.cause c.in_ok-check_number.ensures) refl in fact))).few in let s = same_count c.open-o.ensures.cause in search rules

pub returns-in_err-check_number-clause-cause : goal.returns-in_err-check_number-clause-cause
returns-in_err-check_number-clause-cause c = rw (handed c.from_residual.ensures) (let a = c.args in let v = looked-up a.file.now a.n c.open-o.ensures.cause c.in_err-check_number.ensures in section-refused a.file.now a.n _ v refl)

pub returns-in_err-check_number-clause-report : goal.returns-in_err-check_number-clause-report
returns-in_err-check_number-clause-report c = ap (report_of_section _) (returns-in_err-check_number-clause-cause c)

pub returns-clause-cause : goal.returns-clause-cause
returns-clause-cause c = let a = c.args in let o = c.open-o.ensures.cause in let v = looked-up a.file.now a.n o c.in_ok-check_number.ensures in section-found a.file.now a.n o v refl

pub returns-clause-report : goal.returns-clause-report
returns-clause-report c = ap (report_of_section _) (returns-clause-cause c)
