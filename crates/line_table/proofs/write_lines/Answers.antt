use Rattle.std.proofs.Common.{rules}
use lib.ListN.{length}
use native.Mathlib.Omega.{arith}
use Rattle.line_table.proofs.Blocks.{listing_start, listing-next, listing-end, block-length, block_room, block_inside, rows_fit}
use Rattle.line_table.proofs.write_lines.Goals as goal

pub loop-i-init : goal.loop-i-init
loop-i-init c = let a = c.args in let t = a.t in listing_start a.file.now t.start.0 t.format t.count a.out.now

pub pass_block-b-requires : goal.pass_block-b-requires
pass_block-b-requires c = let a = c.args in let t = a.t in let l = c.loop-i in let e = c.block_length-m.ensures in (block_inside t.format t.start.0 t.count (length a.file.now) l.i c.block_length-m.result c.requires.0 (omega (arith, e.1.0, c.loop-i-test.true)) l.invariant.place, e.0)

pub overflow_mul-numbers : goal.overflow_mul-numbers
overflow_mul-numbers c = omega (arith, c.block_length-m.ensures.0)

pub slice_bounds-numbers-end : goal.slice_bounds-numbers-end
slice_bounds-numbers-end c = let h = c.block_length-m.ensures.0 in let z = block_room _ _ c.pass_block-b.ensures in search rules

pub slice_bounds-write_row-end : goal.slice_bounds-write_row-end
slice_bounds-write_row-end c = let a = c.args in let t = a.t in let l = c.loop-i in let e = c.block_length-m.ensures in let q = block-length a.file.now t.start.0 t.format t.count l.i c.block_length-m.result l.at l.invariant e.0 c.pass_block-b.ensures in search rules

pub overflow_mul-i : goal.overflow_mul-i
overflow_mul-i c = let a = c.args in let t = a.t in let fit = rows_fit t.format t.start.0 t.count (length a.file.now) c.requires.0 in let w = c.loop-i-test.true in search rules

pub write_row-requires : goal.write_row-requires
write_row-requires c = let a = c.args in let t = a.t in let l = c.loop-i in let e = c.block_length-m.ensures in let q = block-length a.file.now t.start.0 t.format t.count l.i c.block_length-m.result l.at l.invariant e.0 c.pass_block-b.ensures in omega (arith, q, e.1.0, c.loop-i-test.true, l.invariant.written.same, c.requires.1)

pub table_end-at-requires : goal.table_end-at-requires
table_end-at-requires c = let a = c.args in let t = a.t in let l = c.loop-i in let e = c.block_length-m.ensures in let h = block_inside t.format t.start.0 t.count (length a.file.now) l.i c.block_length-m.result c.requires.0 (omega (arith, e.1.0, c.loop-i-test.true)) l.invariant.place in search rules

pub overflow_add-i : goal.overflow_add-i
overflow_add-i c = let e = c.block_length-m.ensures in let w = c.loop-i-test.true in search rules

pub loop-i-smaller : goal.loop-i-smaller
loop-i-smaller c = let e = c.block_length-m.ensures in omega (arith, e.1.0, e.1.1 (omega (arith, c.loop-i-test.true)), c.loop-i-test.true)

pub loop-i-preserved : goal.loop-i-preserved
loop-i-preserved c = let a = c.args in let t = a.t in let l = c.loop-i in let e = c.block_length-m.ensures in listing-next a.file.now t.start.0 t.format t.count l.i c.block_length-m.result l.at l.invariant e.0 c.pass_block-b.ensures (omega (arith, e.1.0, c.loop-i-test.true)) c.write_row.ensures c.table_end-at.ensures

pub shape_of-out : goal.shape_of-out
shape_of-out c = c.loop-i.invariant.written.same

pub returns : goal.returns
returns c = let a = c.args in let t = a.t in let l = c.loop-i in listing-end a.file.now t.start.0 t.format t.count l.i l.at a.out.now c.loop-i-test.false c.requires.1 l.invariant
