use native.Mathlib.Omega.{arith}
use Rattle.section_relocation.proofs.Entries.{held-field, field-some, field-none}
use Rattle.section_relocation.proofs.field_of.Goals as goal

pub overflow_sub-result : goal.overflow_sub-result
overflow_sub-result c = let a = c.args in (held-field a.f a.s a.e c.requires.0 c.effect_or-x.ensures c.has_bytes.ensures c.if-has_bytes.true).low

pub overflow_add-result : goal.overflow_add-result
overflow_add-result c = let a = c.args in let h = (held-field a.f a.s a.e c.requires.0 c.effect_or-x.ensures c.has_bytes.ensures c.if-has_bytes.true).high in let q = c.requires.1 in omega arith

pub returns-then-has_bytes : goal.returns-then-has_bytes
returns-then-has_bytes c = let a = c.args in field-some a.f a.s a.e c.effect_or-x.result c.effect_or-x.ensures c.has_bytes.ensures c.if-has_bytes.true

pub returns : goal.returns
returns c = let a = c.args in field-none a.f a.s a.e c.effect_or-x.result c.effect_or-x.ensures c.has_bytes.ensures c.if-has_bytes.false
