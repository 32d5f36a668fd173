use Rattle.visibility.specs.Visibility.{is_csect_class}
use Prim.Native.Nat.{◌%◌}
use mathlib.Core.Path.{◌≡◌}
use mathlib.Core.Bool.{true}
use lib.Dec.{ltb}
use borrow.Author.Tests.{lt-ltb}
use native.Mathlib.Omega.{arith}
use Rattle.csect.specs.Csect.{type_of, is_marked, typed_csect, csect_of}
use Rattle.word.proofs.Test.{found}
use Rattle.csect.proofs.judge_csect.Goals as goal
use Rattle.std.specs.Prelude.{Some}

pub returns-in_default : goal.returns-in_default
unfolding typed_csect
returns-in_default c = rw (found c.type_of-t.ensures c.in_default.is)

pub returns-then-not-is_csect_class : goal.returns-then-not-is_csect_class
unfolding typed_csect
returns-then-not-is_csect_class c = rw ((let fact : type_of (c.args.a.smtyp % 8) ≡ Some c.in-Some.k = found c.type_of-t.ensures c.in-Some.is in fact), found c.is_csect_class.ensures c.if-not-is_csect_class.true)

pub returns-then-s-eq0 : goal.returns-then-s-eq0
unfolding typed_csect
returns-then-s-eq0 c = rw ((let fact : type_of (c.args.a.smtyp % 8) ≡ Some c.in-Some.k = found c.type_of-t.ensures c.in-Some.is in fact), (let fact : is_csect_class c.args.s.sclass ≡ true = found c.is_csect_class.ensures c.if-not-is_csect_class.false in fact), c.if-s-eq0.true)

pub returns-then-not-is_marked : goal.returns-then-not-is_marked
unfolding typed_csect
returns-then-not-is_marked c = rw ((let fact : type_of (c.args.a.smtyp % 8) ≡ Some c.in-Some.k = found c.type_of-t.ensures c.in-Some.is in fact), (let fact : is_csect_class c.args.s.sclass ≡ true = found c.is_csect_class.ensures c.if-not-is_csect_class.false in fact), (let fact : ltb 0 c.args.s.numaux ≡ true = lt-ltb 0 c.args.s.numaux (omega arith) in fact), found c.is_marked.ensures c.if-not-is_marked.true)

pub returns-then-not-is_mapped : goal.returns-then-not-is_mapped
unfolding typed_csect
returns-then-not-is_mapped c = rw ((let fact : type_of (c.args.a.smtyp % 8) ≡ Some c.in-Some.k = found c.type_of-t.ensures c.in-Some.is in fact), (let fact : is_csect_class c.args.s.sclass ≡ true = found c.is_csect_class.ensures c.if-not-is_csect_class.false in fact), (let fact : ltb 0 c.args.s.numaux ≡ true = lt-ltb 0 c.args.s.numaux (omega arith) in fact), (let fact : is_marked c.args.f c.args.a ≡ true = found c.is_marked.ensures c.if-not-is_marked.false in fact), found c.is_mapped.ensures c.if-not-is_mapped.true)

pub returns : goal.returns
unfolding typed_csect csect_of
returns c = rw ((let fact : type_of (c.args.a.smtyp % 8) ≡ Some c.in-Some.k = found c.type_of-t.ensures c.in-Some.is in fact), (let fact : is_csect_class c.args.s.sclass ≡ true = found c.is_csect_class.ensures c.if-not-is_csect_class.false in fact), (let fact : ltb 0 c.args.s.numaux ≡ true = lt-ltb 0 c.args.s.numaux (omega arith) in fact), (let fact : is_marked c.args.f c.args.a ≡ true = found c.is_marked.ensures c.if-not-is_marked.false in fact), found c.is_mapped.ensures c.if-not-is_mapped.false)
