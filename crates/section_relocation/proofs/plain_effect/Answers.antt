use Rattle.section_relocation.proofs.Entries.{plain-four, plain-none, plain-narrow, plain-eight}
use Rattle.section_relocation.proofs.plain_effect.Goals as goal

pub returns-then-bits-eq32 : goal.returns-then-bits-eq32
returns-then-bits-eq32 c = let a = c.args in plain-four a.f a.bits a.amount c.if-bits-eq32.true

pub returns-then-bits-ne64 : goal.returns-then-bits-ne64
returns-then-bits-ne64 c = let a = c.args in plain-none a.f a.bits a.amount c.if-bits-eq32.false c.if-bits-ne64.true

pub returns-in-Xcoff32 : goal.returns-in-Xcoff32
returns-in-Xcoff32 c = let a = c.args in plain-narrow a.f a.bits a.amount c.in-Xcoff32.is c.if-bits-eq32.false

pub returns-in-Xcoff64 : goal.returns-in-Xcoff64
returns-in-Xcoff64 c = let a = c.args in plain-eight a.f a.bits a.amount c.in-Xcoff64.is c.if-bits-ne64.false
