use mathlib.Core.Path.{◌∙◌}
use Rattle.object_plan.specs.Shifts.{address_shifts}
use Rattle.object_range.proofs.Order.{buffer-covers, range_moved}
use Rattle.object_range.proofs.check_moved.Goals as goal

pub check_sections-requires : goal.check_sections-requires
check_sections-requires c = let a = c.args in (c.requires.0, buffer-covers a.file.now a.y a.t c.requires.0 (address_shifts a.to.now a.from.now) a.buffer.now c.requires.3, c.requires.1, c.requires.2)

pub returns : goal.returns
returns c = let a = c.args in c.check_sections.ensures ∙ range_moved a.file.now a.y a.t c.requires.0 (address_shifts a.to.now a.from.now) a.buffer.now
