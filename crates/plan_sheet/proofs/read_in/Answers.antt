use native.Mathlib.Omega.{arith}
use Rattle.sheet.proofs.Answers.{read_by, read-refused, whole_length}
use Rattle.word.proofs.Test.{found}
use Rattle.plan_sheet.proofs.read_in.Goals as goal
use Rattle.refusal.proofs.Order.{handed}
use mathlib.Core.Path.{refl}

pub read_head-head-requires : goal.read_head-head-requires
read_head-head-requires c = let a = c.args in omega (arith, whole_length a.f a.sheet.now (found c.in_ok-check_sheet.ensures refl))

pub read_list-requires : goal.read_list-requires
read_list-requires c = let a = c.args in rw c.read_head-head.ensures (omega (arith, whole_length a.f a.sheet.now (found c.in_ok-check_sheet.ensures refl)))

pub returns : goal.returns
returns c = let a = c.args in let told = read_by a.f a.sheet.now c.in_ok-check_sheet.ensures a.list.now _ refl c.read_head-head.ensures c.read_list.ensures.answer c.read_list.ensures.list in record { answer = told.0; list = told.1 }

pub returns-in_err-check_sheet : goal.returns-in_err-check_sheet
returns-in_err-check_sheet c = rw (handed c.from_residual.ensures) (let a = c.args in let told = read-refused a.f a.sheet.now c.in_err-check_sheet.ensures a.list.now refl in record { answer = told.0; list = told.1 })
