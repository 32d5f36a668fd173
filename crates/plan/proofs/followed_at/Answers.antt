use native.Mathlib.Omega.{arith}
use Rattle.plan.proofs.Symbols.{entry-field, entry-fields, follows-data, follows-import, follows_nothing, follows-text}
use Rattle.plan.proofs.followed_at.Goals as goal

pub read_field-smtype-requires : goal.read_field-smtype-requires
read_field-smtype-requires c = let a = c.args in entry-field a.file.now a.f a.start a.number a.k c.requires c.at.ensures (omega arith)

pub read_field-ifile-requires : goal.read_field-ifile-requires
read_field-ifile-requires c = let a = c.args in entry-field a.file.now a.f a.start a.number a.k c.requires c.at-then-smtype-eq1.ensures (omega arith)

pub returns-then-ifile-eq0 : goal.returns-then-ifile-eq0
returns-then-ifile-eq0 c = let a = c.args in follows_nothing a.file.now a.f a.start a.number a.k c.at.ensures c.read_field-smtype.ensures.value c.if-smtype-eq1.true c.at-then-smtype-eq1.ensures c.read_field-ifile.ensures.value c.if-ifile-eq0.true

pub read_field-requires : goal.read_field-requires
read_field-requires c = let a = c.args in (entry-fields a.file.now a.f a.start a.number a.k c.requires c.symbol_layout-fields.ensures).value

pub returns-then-smtype-eq1 : goal.returns-then-smtype-eq1
returns-then-smtype-eq1 c = let a = c.args in follows-import a.file.now a.f a.start a.number a.k c.at.ensures c.read_field-smtype.ensures.value c.if-smtype-eq1.true c.at-then-smtype-eq1.ensures c.read_field-ifile.ensures.value c.if-ifile-eq0.false c.symbol_layout-fields.ensures c.read_field.ensures.value

pub read_field-requires-2 : goal.read_field-requires-2
read_field-requires-2 c = let a = c.args in (entry-fields a.file.now a.f a.start a.number a.k c.requires c.symbol_layout-fields.ensures).scnum

pub returns-then-read_field-number : goal.returns-then-read_field-number
returns-then-read_field-number c = let a = c.args in follows-text a.file.now a.f a.start a.number a.k c.at.ensures c.read_field-smtype.ensures.value c.if-smtype-eq1.false c.symbol_layout-fields.ensures c.read_field-2.ensures.value c.if-read_field-number.true

pub returns : goal.returns
returns c = let a = c.args in follows-data a.file.now a.f a.start a.number a.k c.at.ensures c.read_field-smtype.ensures.value c.if-smtype-eq1.false c.symbol_layout-fields.ensures c.read_field-2.ensures.value c.if-read_field-number.false
