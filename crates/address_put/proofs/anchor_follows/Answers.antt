use Rattle.address_put.proofs.New.{anchor-nothing, anchor-text, anchor-data}
use Rattle.address_put.proofs.anchor_follows.Goals as goal

pub returns-then-section-eq0 : goal.returns-then-section-eq0
returns-then-section-eq0 c = anchor-nothing _ _ c.if-section-eq0.true

pub returns-then-section-number : goal.returns-then-section-number
returns-then-section-number c = anchor-text _ _ c.if-section-eq0.false c.if-section-number.true

pub returns : goal.returns
returns c = anchor-data _ _ c.if-section-eq0.false c.if-section-number.false
