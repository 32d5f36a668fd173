use mathlib.Core.Path.{◌≡◌, ◌∙◌, ap}
use Rattle.sheet.proofs.Answers.{by-known, by-none}
use Rattle.sheet.specs.Sheet.{head_answer, head_in, report_of_sheet}
use Rattle.refusal.specs.declared.Refusal.TheVariants as refusal
use Rattle.refusal.proofs.Order.{handed}
use Rattle.plan_sheet.proofs.sheet_head.Goals as goal

pub returns-clause-cause : goal.returns-clause-cause
unfolding head_answer
returns-clause-cause c = let s = c.args.sheet.now in c.head_in.ensures ∙ by-known (head_in s) _ c.form_of.ensures c.in_ok-f.ensures.ok_part

pub returns-clause-report : goal.returns-clause-report
returns-clause-report c = ap report_of_sheet (returns-clause-cause c)

pub returns-in_err-f-clause-cause : goal.returns-in_err-f-clause-cause
unfolding head_answer
returns-in_err-f-clause-cause c = let s = c.args.sheet.now in let none = c.in_err-f.ensures.ok_part in let cause : c.in_err-f.field-0.0 ≡ refusal.Sheet = cc (rw none at c.in_err-f.ensures.value) in rw (handed c.from_residual.ensures, cause) (by-none (head_in s) _ c.form_of.ensures none)

pub returns-in_err-f-clause-report : goal.returns-in_err-f-clause-report
returns-in_err-f-clause-report c = ap report_of_sheet (returns-in_err-f-clause-cause c)
