use Rattle.srecord.proofs.Checks.{reported, found-valid, file-unread, file-read}
use Rattle.module_records.proofs.read_records.Goals as goal
use Rattle.refusal.proofs.Order.{handed}
use mathlib.Core.Path.{refl}

pub read_valid-requires : goal.read_valid-requires
read_valid-requires c = found-valid _ c.in_ok-l.ensures.cause _ refl

pub returns-in_err-l : goal.returns-in_err-l
returns-in_err-l c = rw (handed c.from_residual.ensures) (let a = c.args in let told = reported _ (file-unread _ c.in_err-l.ensures.cause _ a.records.now a.text.now a.«data».now _ refl) in record { cause = told.0; report = told.1.0; text = told.1.1.0; «data» = told.1.1.1 })

pub returns : goal.returns
returns c = let a = c.args in let told = reported _ (file-read _ c.in_ok-l.ensures.cause _ a.records.now a.text.now a.«data».now _ _ _ _ refl (c.read_valid.ensures.cause, (c.read_valid.ensures.text, c.read_valid.ensures.«data»))) in record { cause = told.0; report = told.1.0; text = told.1.1.0; «data» = told.1.1.1 }
