use Rattle.srecord.proofs.Checks.{length-reported, found-valid, file-no-length, file-length}
use Rattle.module_records.proofs.records_length.Goals as goal
use Rattle.refusal.proofs.Order.{handed}
use mathlib.Core.Path.{refl}

pub length_valid-requires : goal.length_valid-requires
length_valid-requires c = found-valid _ c.in_ok-l.ensures.cause _ refl

pub returns-in_err-l : goal.returns-in_err-l
returns-in_err-l c = rw (handed c.from_residual.ensures) (let told = length-reported _ (file-no-length _ c.in_err-l.ensures.cause _ _ refl) in record { cause = told.0; report = told.1 })

pub returns : goal.returns
returns c = let told = length-reported _ (file-length _ c.in_ok-l.ensures.cause _ _ _ refl c.length_valid.ensures) in record { cause = told.0; report = told.1 }
