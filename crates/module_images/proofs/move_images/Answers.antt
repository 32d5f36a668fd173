use Rattle.image.proofs.Calls.{file-accepted, file-refused, found-valid}
use Rattle.module_images.proofs.move_images.Goals as goal
use Rattle.refusal.proofs.Order.{handed}
use mathlib.Core.Path.{refl}

pub move_valid-requires : goal.move_valid-requires
move_valid-requires c = found-valid _ c.in_ok-l.ensures.cause _ refl

pub returns-in_err-l : goal.returns-in_err-l
returns-in_err-l c = rw (handed c.from_residual.ensures) (let told = file-refused _ c.in_err-l.ensures.cause _ _ _ refl in record { cause = told.0; report = told.1.0; images = told.1.1 })

pub returns : goal.returns
returns c = let told = file-accepted _ c.in_ok-l.ensures.cause _ _ _ _ _ refl (c.move_valid.ensures.cause, c.move_valid.ensures.images) in record { cause = told.0; report = told.1.0; images = told.1.1 }
