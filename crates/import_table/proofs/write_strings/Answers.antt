use mathlib.Core.Path.{refl}
use native.Mathlib.Omega.{arith}
use Rattle.import_id.specs.Import.{string_start}
use Rattle.rows.proofs.Laws.{writing-end, writing-next, writing_start}
use Rattle.import_table.specs.Imports.{string_row}
use Rattle.import_table.proofs.Imports.{end-inside, next_start, row_is, start-inside, string-even}
use Rattle.import_table.proofs.write_strings.Goals as goal

pub loop-j-init : goal.loop-j-init
unfolding string_start
loop-j-init c = let a = c.args in record { written = writing_start (string_row a.file.now a.ids) 2 (string-even a.file.now a.ids) a.out.now a.count; start = refl }

pub string_length-len-requires : goal.string_length-len-requires
string_length-len-requires c = (c.requires.0.inside, start-inside c.args.file.now c.args.ids c.args.count c.loop-j.j c.requires.0 c.loop-j.invariant.start c.loop-j-test.true)

pub overflow_add-row : goal.overflow_add-row
overflow_add-row c = omega (arith, end-inside c.args.file.now c.args.ids c.args.count c.loop-j.j c.requires.0 c.loop-j.invariant.start c.string_length-len.ensures c.loop-j-test.true)

pub overflow_add-at : goal.overflow_add-at
overflow_add-at c = omega (arith, end-inside c.args.file.now c.args.ids c.args.count c.loop-j.j c.requires.0 c.loop-j.invariant.start c.string_length-len.ensures c.loop-j-test.true)

pub overflow_add-at-in-loop-j : goal.overflow_add-at-in-loop-j
overflow_add-at-in-loop-j c = omega (arith, end-inside c.args.file.now c.args.ids c.args.count c.loop-j.j c.requires.0 c.loop-j.invariant.start c.string_length-len.ensures c.loop-j-test.true)

pub loop-j-preserved : goal.loop-j-preserved
loop-j-preserved c =
    let l = c.loop-j in
    let a = c.args in
    let e = c.string_length-len.ensures in
    record {
      written = writing-next (string_row a.file.now a.ids) 2 (string-even a.file.now a.ids) l.out a.count l.j c.loop-j-test.true (row_is a.file.now a.ids a.count l.j c.requires.0 l.invariant.start e) c.write_row.ensures l.invariant.written;
      start = next_start a.file.now a.ids a.count l.j c.requires.0 l.invariant.start e;
    }

pub returns : goal.returns
returns c = let l = c.loop-j in let a = c.args in writing-end (string_row a.file.now a.ids) 2 (string-even a.file.now a.ids) a.out.now a.count l.j c.loop-j-test.false c.requires.1 l.invariant.written
