use native.Mathlib.Omega.{arith}
use Rattle.import_id.proofs.Strings.{part-is, start-in, start_small, string-is}
use Rattle.format.proofs.Ranges.{length_part}
use Rattle.import_id.proofs.string_of.Goals as goal

pub string_start-at-requires : goal.string_start-at-requires
string_start-at-requires c = let a = c.args in rw (part-is a.file.now a.ids) (omega (arith, c.requires.1), omega (arith, length_part a.file.now a.ids c.requires.0, c.requires.0, c.requires.2))

pub overflow_add-result : goal.overflow_add-result
overflow_add-result c = let a = c.args in let k = start_small a.file.now a.ids a.j c.string_start-at.ensures c.requires.0 c.requires.1 in omega (arith, c.requires.0, c.requires.2)

pub slice_bounds-first_zero-count : goal.slice_bounds-first_zero-count
slice_bounds-first_zero-count c = let a = c.args in start-in a.file.now a.ids a.j c.string_start-at.ensures c.requires.1

pub slice_bounds-first_zero-start : goal.slice_bounds-first_zero-start
slice_bounds-first_zero-start c = let a = c.args in start-in a.file.now a.ids a.j c.string_start-at.ensures c.requires.1

pub returns : goal.returns
returns c = let a = c.args in string-is a.file.now a.ids a.j c.string_start-at.ensures c.first_zero.ensures
