use borrow.Author.Tests.{lt-ltb}
use native.Mathlib.Omega.{arith}
use Rattle.loader_header.proofs.Answer.{by-numbers, by-places}
use Rattle.loader_header.proofs.Places.{header-long}
use Rattle.refusal.proofs.Order.{test-refused}
use Rattle.loader_header.specs.Header.{header_check}
use Rattle.loader_header.proofs.check_header.Goals as goal
use Rattle.refusal.proofs.Order.{handed}
use mathlib.Core.Path.{refl}

pub returns-then-size-l : goal.returns-then-size-l
unfolding header_check
returns-then-size-l c = test-refused _ _ (lt-ltb _ _ (rw c.loader_layout-l.ensures at c.if-size-l.true))

pub read_header-h-requires : goal.read_header-h-requires
read_header-h-requires c = let h = rw c.loader_layout-l.ensures at c.if-size-l.false in let l = header-long c.args.f in let r = c.requires.inside (omega arith) in omega arith

pub returns-in_err-check_numbers : goal.returns-in_err-check_numbers
returns-in_err-check_numbers c = rw (handed c.from_residual.ensures) (by-numbers c.args.file.now c.args.f c.args.start c.args.size (rw c.loader_layout-l.ensures at c.if-size-l.false) c.read_header-h.ensures.value c.in_err-check_numbers.ensures refl)

pub check_places-requires : goal.check_places-requires
check_places-requires c = let h = rw c.loader_layout-l.ensures at c.if-size-l.false in let l = header-long c.args.f in (c.requires.inside (omega arith), c.read_header-h.ensures.bound)

pub returns : goal.returns
returns c = by-places c.args.file.now c.args.f c.args.start c.args.size (rw c.loader_layout-l.ensures at c.if-size-l.false) c.read_header-h.ensures.value c.in_ok-check_numbers.ensures refl c.check_places.ensures
