use native.Mathlib.Omega.{arith}
use Rattle.sheet.proofs.Answers.{head-found, head-refused, whole_length}
use Rattle.word.proofs.Test.{found}
use Rattle.plan_sheet.proofs.head_in.Goals as goal
use Rattle.refusal.proofs.Order.{handed}
use mathlib.Core.Path.{refl}

pub read_head-requires : goal.read_head-requires
read_head-requires c = let a = c.args in omega (arith, whole_length a.f a.sheet.now (found c.in_ok-check_sheet.ensures refl))

pub returns : goal.returns
returns c = let a = c.args in head-found a.f a.sheet.now c.in_ok-check_sheet.ensures refl c.read_head.ensures

pub returns-in_err-check_sheet : goal.returns-in_err-check_sheet
returns-in_err-check_sheet c = rw (handed c.from_residual.ensures) (let a = c.args in head-refused a.f a.sheet.now c.in_err-check_sheet.ensures refl)
