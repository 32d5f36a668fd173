use native.Mathlib.Omega.{arith}
use Rattle.displacement.specs.Reach.{plan_of}
use Rattle.srecord.proofs.Checks.{length-refused, length_found, size_small}
use Rattle.srecord.proofs.length_valid.Goals as goal
use Rattle.refusal.proofs.Order.{handed}
use mathlib.Core.Path.{refl}

pub text_length-n-requires : goal.text_length-n-requires
text_length-n-requires c = let a = c.args in let r = size_small a.file.now a.l (plan_of a.at a.imports.now) c.requires c.in_ok-check_records.ensures refl in (omega (arith, r.0), omega (arith, r.1))

pub returns-in_err-check_records : goal.returns-in_err-check_records
returns-in_err-check_records c = rw (handed c.from_residual.ensures) (length-refused _ _ _ c.in_err-check_records.ensures refl)

pub returns : goal.returns
returns c = let a = c.args in length_found a.file.now a.l (plan_of a.at a.imports.now) _ c.requires c.in_ok-check_records.ensures refl (c.text_length-n.ensures _ _ _)
