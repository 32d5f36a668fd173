use Rattle.sheet.proofs.Answers.{read_known, read_none}
use Rattle.refusal.specs.declared.Refusal.TheVariants as refusal
use Rattle.refusal.proofs.Order.{handed}
use mathlib.Core.Path.{◌≡◌}
use Rattle.plan_sheet.proofs.read_sheet.Goals as goal

pub returns : goal.returns
returns c = let a = c.args in let told = read_known a.sheet.now a.list.now c.form_of.ensures c.in_ok-f.ensures.ok_part (c.read_in.ensures.answer, c.read_in.ensures.list) in record { cause = told.0; report = told.1.0; list = told.1.1 }

pub returns-in_err-f : goal.returns-in_err-f
returns-in_err-f c = let a = c.args in let none = c.in_err-f.ensures.ok_part in let told = read_none a.sheet.now a.list.now c.form_of.ensures none in let cause : c.in_err-f.field-0.0 ≡ refusal.Sheet = cc (rw none at c.in_err-f.ensures.value) in rw (handed c.from_residual.ensures, cause) (record { cause = told.0; report = told.1.0; list = told.1.1 })
