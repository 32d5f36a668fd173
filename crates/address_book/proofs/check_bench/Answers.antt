use mathlib.Core.Path.{refl}
use Rattle.word.proofs.Test.{found}
use Rattle.address_book.specs.Call.{bench_check}
use Rattle.address_book.proofs.check_bench.Goals as goal

pub returns-then-is_bench : goal.returns-then-is_bench
unfolding bench_check
returns-then-is_bench c = rw (found c.is_bench.ensures c.if-is_bench.true) refl

pub returns : goal.returns
unfolding bench_check
returns c = rw (found c.is_bench.ensures c.if-is_bench.false) refl
