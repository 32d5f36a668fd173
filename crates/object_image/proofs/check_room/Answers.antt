use Rattle.object_image.proofs.Checks.{room-same, room-other}
use Rattle.object_image.proofs.check_room.Goals as goal

pub returns-then-size-m : goal.returns-then-size-m
returns-then-size-m c = let a = c.args in let r = c.requires in room-same a.file.now a.y a.t r a.size c.measure-m.ensures c.if-size-m.true

pub returns : goal.returns
returns c = let a = c.args in let r = c.requires in room-other a.file.now a.y a.t r a.size c.measure-m.ensures c.if-size-m.false
