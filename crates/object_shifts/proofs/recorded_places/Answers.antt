use mathlib.Core.Path.{◌∙◌, ap}
use lib.ListN.{get_or}
use native.Mathlib.Omega.{arith}
use Rattle.file_tables.specs.Tables.{blank_section}
use Rattle.object_shifts.specs.Places.{places_by, recorded_of}
use Rattle.object_shifts.proofs.Places.{places-start, places-turn}
use Rattle.object_shifts.proofs.recorded_places.Goals as goal

pub loop-k-init : goal.loop-k-init
loop-k-init c = let a = c.args in places-start a.y.sections (λ j. (get_or a.y.sections j blank_section).vaddr.0)

pub loop-k-preserved : goal.loop-k-preserved
loop-k-preserved c = let a = c.args in places-turn a.y.sections (λ j. (get_or a.y.sections j blank_section).vaddr.0) c.loop-k.k c.loop-k.invariant c.placed_address.ensures

pub returns : goal.returns
unfolding recorded_of
returns c = let a = c.args in c.loop-k.invariant ∙ ap (places_by a.y.sections (λ j. (get_or a.y.sections j blank_section).vaddr.0)) (omega arith)
