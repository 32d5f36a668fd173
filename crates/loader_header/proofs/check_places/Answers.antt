use borrow.Author.Tests.{lt-ltb, le-ltb}
use native.Mathlib.Omega.{arith}
use Rattle.word.proofs.Test.{found}
use Rattle.loader_header.proofs.Places.{entry-short}
use Rattle.loader_header.specs.Header.{places_check, tables_of}
use Rattle.loader_header.proofs.check_places.Goals as goal

pub returns-then-is_table_past : goal.returns-then-is_table_past
unfolding places_check
returns-then-is_table_past c = rw (found c.is_table_past.ensures c.if-is_table_past.true)

pub overflow_mul-h-2 : goal.overflow_mul-h-2
overflow_mul-h-2 c = rw c.relocation_layout-l.ensures (omega (arith, entry-short c.args.f c.args.h.nreloc c.requires.1.nreloc))

pub returns-then-is_table_past-2 : goal.returns-then-is_table_past-2
unfolding places_check
returns-then-is_table_past-2 c = rw (found c.is_table_past.ensures c.if-is_table_past.false, found (rw c.relocation_layout-l.ensures at c.is_table_past-2.ensures) c.if-is_table_past-2.true)

pub returns-then-is_table_past-3 : goal.returns-then-is_table_past-3
unfolding places_check
returns-then-is_table_past-3 c = rw (found c.is_table_past.ensures c.if-is_table_past.false, found (rw c.relocation_layout-l.ensures at c.is_table_past-2.ensures) c.if-is_table_past-2.false, found c.is_table_past-3.ensures c.if-is_table_past-3.true)

pub count_id_zeros-requires : goal.count_id_zeros-requires
count_id_zeros-requires c = (c.requires.0, found c.is_table_past-3.ensures c.if-is_table_past-3.false)

pub returns-then-count_id_zeros-h : goal.returns-then-count_id_zeros-h
unfolding places_check tables_of
returns-then-count_id_zeros-h c = rw (found c.is_table_past.ensures c.if-is_table_past.false, found (rw c.relocation_layout-l.ensures at c.is_table_past-2.ensures) c.if-is_table_past-2.false, found c.is_table_past-3.ensures c.if-is_table_past-3.false, lt-ltb _ _ (rw c.count_id_zeros.ensures at c.if-count_id_zeros-h.true))

pub returns-then-is_table_past-4 : goal.returns-then-is_table_past-4
unfolding places_check tables_of
returns-then-is_table_past-4 c = rw (found c.is_table_past.ensures c.if-is_table_past.false, found (rw c.relocation_layout-l.ensures at c.is_table_past-2.ensures) c.if-is_table_past-2.false, found c.is_table_past-3.ensures c.if-is_table_past-3.false, le-ltb _ _ (rw c.count_id_zeros.ensures at c.if-count_id_zeros-h.false), found c.is_table_past-4.ensures c.if-is_table_past-4.true)

pub returns : goal.returns
unfolding places_check tables_of
returns c = rw (found c.is_table_past.ensures c.if-is_table_past.false, found (rw c.relocation_layout-l.ensures at c.is_table_past-2.ensures) c.if-is_table_past-2.false, found c.is_table_past-3.ensures c.if-is_table_past-3.false, le-ltb _ _ (rw c.count_id_zeros.ensures at c.if-count_id_zeros-h.false), found c.is_table_past-4.ensures c.if-is_table_past-4.false)
