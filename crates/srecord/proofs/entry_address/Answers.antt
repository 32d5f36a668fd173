use Rattle.history.specs.declared.Reached.{Reached}
use Rattle.displacement.specs.Reach.{address_of}
use mathlib.Core.Path.{◌∙◌, ap}
use Rattle.srecord.proofs.entry_address.Goals as goal

pub returns : goal.returns
returns c = λ file list. c.address_of.ensures ∙ ap (λ (x : Reached). address_of x.entry) (c.reach-r.ensures file list)
