use Rattle.debug_section.proofs.Sections.{debug-one, debug-not-one}
use Rattle.debug_section.proofs.find_debug.Goals as goal

pub returns-then-t-eq1 : goal.returns-then-t-eq1
returns-then-t-eq1 c = debug-one c.args.y c.tally_debug-t.ensures c.if-t-eq1.true

pub returns : goal.returns
returns c = debug-not-one c.args.y c.tally_debug-t.ensures c.if-t-eq1.false
