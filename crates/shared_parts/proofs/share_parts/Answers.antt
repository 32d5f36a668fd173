use native.Mathlib.Omega.{arith}
use Rattle.written.proofs.Found.{opthdr-small}
use Rattle.shared_parts.proofs.Lists.{parts_shared}
use Rattle.shared_parts.proofs.share_parts.Goals as goal

pub section_start-requires : goal.section_start-requires
section_start-requires c = (opthdr-small _ _ c.requires, c.requires.few)

pub overflow_mul-symbols : goal.overflow_mul-symbols
overflow_mul-symbols c = omega (arith, c.requires.symbols, c.requires.small)

pub returns : goal.returns
returns c = let q = c.args in parts_shared q.file.now q.y q.l.layout c.section_start.ensures c.strings_size.ensures c.part_range.ensures c.part_range-2.ensures c.part_range-3.ensures c.share_two.ensures
