use Rattle.symbol.proofs.Sections.{named_none, named-section, named-debug, named-absolute}
use Rattle.symbol.proofs.section_in.Goals as goal

pub returns-then-scnum-eq0 : goal.returns-then-scnum-eq0
returns-then-scnum-eq0 c = named_none _ c.if-scnum-eq0.true

pub returns-then-scnum-lt32768 : goal.returns-then-scnum-lt32768
returns-then-scnum-lt32768 c = named-section _ c.if-scnum-eq0.false c.if-scnum-lt32768.true

pub returns-then-scnum-lt65535 : goal.returns-then-scnum-lt65535
returns-then-scnum-lt65535 c = named-debug _ c.if-scnum-lt32768.false c.if-scnum-lt65535.true

pub returns : goal.returns
returns c = named-absolute _ c.if-scnum-lt65535.false
