use Rattle.mend.proofs.Rows.{one-most, four-most, counted}
use native.Mathlib.Omega.{arith}
use Rattle.mend_report.proofs.count_refusals.Goals as goal

pub overflow_add-result : goal.overflow_add-result
overflow_add-result c = let r = c.args.r in let x = one-most r.aux in let y = one-most r.scnum in omega (arith, c.one_if-2.ensures, c.one_if.ensures)

pub overflow_add-result-2 : goal.overflow_add-result-2
overflow_add-result-2 c = let r = c.args.r in let x = one-most r.aux in let y = one-most r.scnum in let z = one-most r.name in omega (arith, c.one_if-3.ensures, c.one_if-2.ensures, c.one_if.ensures)

pub overflow_add-result-3 : goal.overflow_add-result-3
overflow_add-result-3 c = let r = c.args.r in let x = four-most r in let y = counted r c.one_if.ensures c.one_if-2.ensures c.one_if-3.ensures c.one_if-4.ensures in omega arith

pub returns-clause-value : goal.returns-clause-value
returns-clause-value c = let r = c.args.r in let y = counted r c.one_if.ensures c.one_if-2.ensures c.one_if-3.ensures c.one_if-4.ensures in y

pub returns-clause-bound : goal.returns-clause-bound
returns-clause-bound c = let r = c.args.r in let y = counted r c.one_if.ensures c.one_if-2.ensures c.one_if-3.ensures c.one_if-4.ensures in rw y (four-most r)
