use Rattle.std.proofs.Common.{rules}
use mathlib.Core.Path.{sym}
use lib.Seq.{length-take-le}
use native.Mathlib.Omega.{arith}
use Rattle.table_replay.proofs.Ends.{row_inside}
use Rattle.table_replay.proofs.Made.{cut_inside, made-read}
use Rattle.table_replay.proofs.call_row_at.Goals as goal

pub name_length-n-requires : goal.name_length-n-requires
name_length-n-requires c = omega (arith, row_inside c.args.s.now c.args.at c.requires.0 c.requires.1)

pub overflow_add-at : goal.overflow_add-at
overflow_add-at c = omega (arith, row_inside c.args.s.now c.args.at c.requires.0 c.requires.1)

pub read_name-bytes-requires : goal.read_name-bytes-requires
read_name-bytes-requires c = cut_inside c.args.s.now c.args.at _ _ (row_inside c.args.s.now c.args.at c.requires.0 c.requires.1) c.name_length-n.ensures c.cut_length-cut.ensures

pub slice_bounds-bytes-end : goal.slice_bounds-bytes-end
slice_bounds-bytes-end c = let h = cut_inside c.args.s.now c.args.at _ _ (row_inside c.args.s.now c.args.at c.requires.0 c.requires.1) c.name_length-n.ensures c.cut_length-cut.ensures in search rules

pub slice_bounds-name-end : goal.slice_bounds-name-end
slice_bounds-name-end c = let h = cut_inside c.args.s.now c.args.at _ _ (row_inside c.args.s.now c.args.at c.requires.0 c.requires.1) c.name_length-n.ensures c.cut_length-cut.ensures in sym (length-take-le c.cut_length-cut.result c.read_name-bytes.result (search rules))

pub overflow_add-at-2 : goal.overflow_add-at-2
overflow_add-at-2 c = omega (arith, row_inside c.args.s.now c.args.at c.requires.0 c.requires.1)

pub overflow_add-at-3 : goal.overflow_add-at-3
overflow_add-at-3 c = omega (arith, row_inside c.args.s.now c.args.at c.requires.0 c.requires.1)

pub overflow_add-at-4 : goal.overflow_add-at-4
overflow_add-at-4 c = omega (arith, row_inside c.args.s.now c.args.at c.requires.0 c.requires.1)

pub overflow_add-at-5 : goal.overflow_add-at-5
overflow_add-at-5 c = omega (arith, row_inside c.args.s.now c.args.at c.requires.0 c.requires.1, c.name_length-n.ensures)

pub returns : goal.returns
returns c = let told = made-read c.args.table.now c.args.s.now c.args.at _ _ _ _ _ _ _ (row_inside c.args.s.now c.args.at c.requires.0 c.requires.1) c.name_length-n.ensures c.cut_length-cut.ensures c.read_name-bytes.ensures c.number_at-kind.ensures c.number_at-bench.ensures c.number_at-file_id.ensures c.number_at-address.ensures (c.call_row.ensures.answer, c.call_row.ensures.table) in record { answer = told.0; table = told.1 }
