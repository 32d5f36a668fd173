use native.Mathlib.Omega.{arith}
use Rattle.word.proofs.Test.{found}
use Rattle.symbol.proofs.Opened.{tables-inside}
use Rattle.walk.proofs.Steps.{visited-stop, visited-end}
use Rattle.symbol_table.proofs.Visits.{listing-end, listing-next, listing_start, next-inside, row_inside}
use Rattle.symbol_table.proofs.write_symbols.Goals as goal

pub loop-i-init : goal.loop-i-init
loop-i-init c = listing_start c.args.file.now c.args.t c.args.out.now c.requires.1

pub symbol_in-a-requires : goal.symbol_in-a-requires
symbol_in-a-requires c = c.requires.0

pub shape_of-out-in_default : goal.shape_of-out-in_default
shape_of-out-in_default c = c.loop-i.invariant.same

pub returns-in_default : goal.returns-in_default
returns-in_default c = let a = c.args in let l = c.loop-i in listing-end a.file.now a.t a.out.now l.visited l.i (visited-stop a.file.now a.t l.i l.visited l.invariant.few c.loop-i-test.true (found c.symbol_in-a.ensures c.in_default.is)) c.requires.1 l.invariant

pub symbol_row-row-requires : goal.symbol_row-row-requires
symbol_row-row-requires c = (c.requires.0, found c.symbol_in-a.ensures c.in-Ok.is)

pub overflow_mul-visited : goal.overflow_mul-visited
overflow_mul-visited c = let a = c.args in let l = c.loop-i in omega (arith, l.invariant.same, row_inside a.file.now a.t l.out l.visited l.i c.loop-i-test.true l.invariant (found c.symbol_in-a.ensures c.in-Ok.is))

pub write_row-requires : goal.write_row-requires
write_row-requires c = let a = c.args in let l = c.loop-i in omega (arith, row_inside a.file.now a.t l.out l.visited l.i c.loop-i-test.true l.invariant (found c.symbol_in-a.ensures c.in-Ok.is))

pub overflow_add-visited : goal.overflow_add-visited
overflow_add-visited c = omega (arith, c.loop-i.invariant.few, c.loop-i-test.true)

pub overflow_add-i : goal.overflow_add-i
overflow_add-i c = omega (arith, c.loop-i-test.true)

pub overflow_add-i-in-loop-i : goal.overflow_add-i-in-loop-i
overflow_add-i-in-loop-i c = let a = c.args in let l = c.loop-i in let t = tables-inside a.file.now a.t c.requires.0 in omega (arith, t.symbols, t.small, next-inside a.file.now a.t l.out l.visited l.i c.loop-i-test.true l.invariant (found c.symbol_in-a.ensures c.in-Ok.is))

pub loop-i-smaller : goal.loop-i-smaller
loop-i-smaller c = let a = c.args in let l = c.loop-i in omega (arith, next-inside a.file.now a.t l.out l.visited l.i c.loop-i-test.true l.invariant (found c.symbol_in-a.ensures c.in-Ok.is))

pub loop-i-preserved : goal.loop-i-preserved
loop-i-preserved c = let a = c.args in let l = c.loop-i in listing-next a.file.now a.t l.out l.visited l.i c.loop-i-test.true l.invariant (found c.symbol_in-a.ensures c.in-Ok.is) c.symbol_row-row.ensures c.write_row.ensures

pub shape_of-out : goal.shape_of-out
shape_of-out c = c.loop-i.invariant.same

pub returns : goal.returns
returns c = let a = c.args in let l = c.loop-i in listing-end a.file.now a.t a.out.now l.visited l.i (visited-end a.file.now a.t _ l.i c.loop-i-test.false) c.requires.1 l.invariant
