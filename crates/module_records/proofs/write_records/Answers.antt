use Rattle.srecord.proofs.Checks.{reported, found-valid, file-unwritten, file-written}
use Rattle.module_records.proofs.write_records.Goals as goal
use Rattle.refusal.proofs.Order.{handed}
use mathlib.Core.Path.{refl}

pub write_valid-requires : goal.write_valid-requires
write_valid-requires c = found-valid _ c.in_ok-l.ensures.cause _ refl

pub returns-in_err-l : goal.returns-in_err-l
returns-in_err-l c = rw (handed c.from_residual.ensures) (let a = c.args in let told = reported _ (file-unwritten _ c.in_err-l.ensures.cause _ a.text.now a.«data».now a.out.now _ refl) in record { cause = told.0; report = told.1.0; records = told.1.1 })

pub returns : goal.returns
returns c = let a = c.args in let told = reported _ (file-written _ c.in_ok-l.ensures.cause _ a.text.now a.«data».now a.out.now _ _ _ refl (c.write_valid.ensures.cause, c.write_valid.ensures.records)) in record { cause = told.0; report = told.1.0; records = told.1.1 }
