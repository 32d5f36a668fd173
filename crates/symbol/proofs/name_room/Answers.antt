use Rattle.word.specs.declared.Field.{Field}
use borrow.Author.Tests.{eq-eqb}
use mathlib.Core.Path.{refl, ap}
use native.Mathlib.Omega.{arith}
use Rattle.word.proofs.Test.{found}
use Rattle.symbol.specs.Name.{room_by}
use Rattle.symbol.specs.Symbol.{name_check}
use Rattle.symbol.proofs.Opened.{tables-inside, entry_whole}
use Rattle.symbol.proofs.Names.{debug-named, debug-room, offset-below, offset-room}
use Rattle.symbol.proofs.name_room.Goals as goal

pub overflow_mul-base : goal.overflow_mul-base
overflow_mul-base c = omega (arith, tables-inside c.args.file.now c.args.t c.requires.0)

pub overflow_add-base : goal.overflow_add-base
overflow_add-base c = omega (arith, tables-inside c.args.file.now c.args.t c.requires.0)

pub overflow_add-first : goal.overflow_add-first
overflow_add-first c = let a = c.args in omega (arith, tables-inside a.file.now a.t c.requires.0, entry_whole a.file.now a.t a.i.0 c.requires.0 c.requires.1, ap (λ (f : Field). f.offset) c.short_name-place.ensures)

pub returns-then-o-eq0 : goal.returns-then-o-eq0
unfolding room_by
returns-then-o-eq0 c = rw (c.in-Offset.is, eq-eqb _ 0 c.if-o-eq0.true) refl

pub string_range-requires : goal.string_range-requires
unfolding name_check
string_range-requires c = let a = c.args in let q = c.in-Offset.is in ((tables-inside a.file.now a.t c.requires.0).debug, debug-named a.file.now a.t a.i a.e.sclass _ (rw q at c.requires.2) c.if-o-eq0.false (found c.is_debug_class.ensures c.if-is_debug_class.true))

pub returns-then-is_debug_class : goal.returns-then-is_debug_class
unfolding name_check
returns-then-is_debug_class c = let a = c.args in let q = c.in-Offset.is in rw q (debug-room a.file.now a.t a.i a.e.sclass _ (rw q at c.requires.2) c.if-o-eq0.false (found c.is_debug_class.ensures c.if-is_debug_class.true) c.string_range.ensures)

pub string_room-requires : goal.string_room-requires
unfolding name_check
string_room-requires c = let a = c.args in let q = c.in-Offset.is in let h = tables-inside a.file.now a.t c.requires.0 in let k = offset-below a.file.now a.t a.i a.e.sclass _ (rw q at c.requires.2) c.if-o-eq0.false (found c.is_debug_class.ensures c.if-is_debug_class.false) in (omega (arith, k), omega (arith, h.small, h.strings))

pub returns-in-Short : goal.returns-in-Short
unfolding room_by
returns-in-Short c = rw (c.in-Short.is, c.bytes_in.ensures, c.short_name-place.ensures) refl

pub returns-else-is_debug_class : goal.returns-else-is_debug_class
unfolding name_check
returns-else-is_debug_class c = let a = c.args in let q = c.in-Offset.is in rw q (offset-room a.file.now a.t a.i a.e.sclass _ (rw q at c.requires.2) c.if-o-eq0.false (found c.is_debug_class.ensures c.if-is_debug_class.false) c.string_room.ensures)
