use Rattle.record.proofs.Images.{shape-length, image-length}
use native.Mathlib.Omega.{arith}
use Rattle.record_text.proofs.text_length.Goals as goal

pub returns : goal.returns
returns c = λ ta da e. let a = c.args in omega (arith, c.image_length-2.ensures, c.image_length.ensures, shape-length ta a.text da a.«data» e, image-length ta a.text, image-length da a.«data»)
