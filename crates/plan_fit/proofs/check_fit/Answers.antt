use Rattle.std.proofs.lemmas.Bool.{not_from_true, not_from_false}
use Rattle.plan.proofs.Fit.{data-refused, imports-decide, text-refused}
use Rattle.plan_fit.proofs.check_fit.Goals as goal

pub returns-then-not-fits_up_to : goal.returns-then-not-fits_up_to
returns-then-not-fits_up_to c = text-refused _ _ _ c.requires.0 c.last_address-last.ensures c.fits_up_to.ensures (not_from_false _ c.if-not-fits_up_to.true)

pub returns-then-not-fits_up_to-2 : goal.returns-then-not-fits_up_to-2
returns-then-not-fits_up_to-2 c = data-refused _ _ _ c.requires.0 c.last_address-last.ensures c.fits_up_to.ensures (not_from_true _ c.if-not-fits_up_to.false) c.fits_up_to-2.ensures (not_from_false _ c.if-not-fits_up_to-2.true)

pub returns : goal.returns
returns c = imports-decide _ _ _ c.requires.0 c.last_address-last.ensures c.fits_up_to.ensures (not_from_true _ c.if-not-fits_up_to.false) c.fits_up_to-2.ensures (not_from_true _ c.if-not-fits_up_to-2.false) c.check_imports.ensures
