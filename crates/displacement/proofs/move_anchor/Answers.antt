use Rattle.displacement.proofs.Anchors.{anchor-data, anchor-nowhere, anchor-text}
use Rattle.displacement.proofs.move_anchor.Goals as goal

pub returns-then-section-eq0 : goal.returns-then-section-eq0
returns-then-section-eq0 c = anchor-nowhere _ _ _ c.if-section-eq0.true

pub returns-then-section-number : goal.returns-then-section-number
returns-then-section-number c = anchor-text _ _ _ _ _ c.if-section-eq0.false c.add_address.ensures c.if-section-number.true c.displacements-d.ensures.text

pub returns : goal.returns
returns c = anchor-data _ _ _ _ _ c.if-section-eq0.false c.add_address-2.ensures c.if-section-number.false c.displacements-d.ensures.dat
