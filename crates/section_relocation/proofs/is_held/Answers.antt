use mathlib.Core.Path.{◌∙◌}
use Rattle.section_relocation.specs.Entry.{is_inside}
use Rattle.section_relocation.proofs.Entries.{held-unknown, held-known, bytes_inside, bytes-none}
use Rattle.section_relocation.proofs.is_held.Goals as goal

pub returns-then-has_bytes : goal.returns-then-has_bytes
returns-then-has_bytes c = let a = c.args in bytes_inside c.in-Some.x.kind c.has_bytes.ensures c.if-has_bytes.true c.is_inside.ensures ∙ held-known a.f a.s a.e c.in-Some.x c.effect_of-a.ensures c.in-Some.is

pub returns-in-None : goal.returns-in-None
returns-in-None c = let a = c.args in held-unknown a.f a.s a.e c.effect_of-a.ensures c.in-None.is

pub returns-else-has_bytes : goal.returns-else-has_bytes
returns-else-has_bytes c = let a = c.args in bytes-none c.in-Some.x.kind (is_inside a.s a.e.address.0 c.in-Some.x.kind) c.has_bytes.ensures c.if-has_bytes.false ∙ held-known a.f a.s a.e c.in-Some.x c.effect_of-a.ensures c.in-Some.is
