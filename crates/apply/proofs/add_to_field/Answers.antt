use Rattle.std.proofs.Common.{true, false, ap, arith}
use Rattle.relocation.specs.Relocation.{bytes_wide}
use Rattle.apply.proofs.Entries.{width-added}
use Rattle.apply.proofs.add_to_field.Goals as goal

pub add_to_wide-requires : goal.add_to_wide-requires
add_to_wide-requires c = omega (arith, ap bytes_wide c.if-wide.true)

pub returns-then-wide : goal.returns-then-wide
returns-then-wide c = width-added true _ _ _ _ c.if-wide.true c.add_to_wide.ensures

pub add_to_narrow-requires : goal.add_to_narrow-requires
add_to_narrow-requires c = omega (arith, ap bytes_wide c.if-wide.false)

pub returns : goal.returns
returns c = width-added false _ _ _ _ c.if-wide.false c.add_to_narrow.ensures
