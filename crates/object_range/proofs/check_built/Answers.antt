use mathlib.Core.Path.{◌∙◌}
use Rattle.object_plan.specs.Shifts.{address_shifts}
use Rattle.object_range.proofs.Order.{file-covers, range-built}
use Rattle.object_range.proofs.check_built.Goals as goal

pub check_sections-requires : goal.check_sections-requires
check_sections-requires c = let a = c.args in (c.requires.0, file-covers a.file.now a.y a.t c.requires.0 (address_shifts a.to.now a.from.now), c.requires.1, c.requires.2)

pub returns : goal.returns
returns c = let a = c.args in c.check_sections.ensures ∙ range-built a.file.now a.y a.t c.requires.0 (address_shifts a.to.now a.from.now)
