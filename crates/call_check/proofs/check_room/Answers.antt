use Rattle.call_check.proofs.Checks.{both-room, data-room, text-room}
use Rattle.call_check.proofs.check_room.Goals as goal

pub returns-then-text-section : goal.returns-then-text-section
returns-then-text-section c = text-room _ _ _ _ c.if-text-section.true

pub returns-then-data-m : goal.returns-then-data-m
returns-then-data-m c = data-room _ _ _ _ c.if-text-section.false c.if-data-m.true

pub returns : goal.returns
returns c = both-room _ _ _ _ c.if-text-section.false c.if-data-m.false
