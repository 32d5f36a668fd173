use Rattle.symbol.proofs.Sections.{section-positive, section-negative}
use Rattle.symbol.proofs.is_section.Goals as goal

pub returns-then-scnum-lt32768 : goal.returns-then-scnum-lt32768
returns-then-scnum-lt32768 c = section-positive _ _ c.if-scnum-lt32768.true

pub returns : goal.returns
returns c = section-negative _ _ c.if-scnum-lt32768.false
