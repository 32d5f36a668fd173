use Rattle.refusal.proofs.Order.{told}
use Rattle.address_book.proofs.Checks.{no-bench, no_name, long-name, good-name}
use Rattle.address_book.specs.Book.{key}
use Rattle.address_book.proofs.check_key.Goals as goal
use Rattle.refusal.proofs.Order.{handed}
use mathlib.Core.Path.{refl}

pub returns-in_err-check_bench : goal.returns-in_err-check_bench
returns-in_err-check_bench c = rw (handed c.from_residual.ensures) (let a = c.args in no-bench (key a.bench a.file_id a.name.now) c.in_err-check_bench.ensures (told c.in_err-check_bench.ensures refl refl))

pub returns-then-name-eq0 : goal.returns-then-name-eq0
returns-then-name-eq0 c = let a = c.args in no_name (key a.bench a.file_id a.name.now) (told c.in_ok-check_bench.ensures refl refl) c.if-name-eq0.true

pub returns-then-name-gt32 : goal.returns-then-name-gt32
returns-then-name-gt32 c = let a = c.args in long-name (key a.bench a.file_id a.name.now) (told c.in_ok-check_bench.ensures refl refl) c.if-name-eq0.false c.if-name-gt32.true

pub returns : goal.returns
returns c = let a = c.args in good-name (key a.bench a.file_id a.name.now) (told c.in_ok-check_bench.ensures refl refl) c.if-name-eq0.false c.if-name-gt32.false
