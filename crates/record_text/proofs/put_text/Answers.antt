use lib.ListN.{length}
use Rattle.record.proofs.Images.{text-stored, shape-length}
use native.Mathlib.Omega.{arith}
use Rattle.record_text.proofs.put_text.Goals as goal

pub put_image-p-requires : goal.put_image-p-requires
put_image-p-requires c = let a = c.args in let k = c.requires in (omega (arith, k.0, shape-length a.text_address.0 (length a.text.now) a.data_address.0 (length a.«data».now) a.entry.0), omega (arith, k.1, k.2))

pub put_image-q-requires : goal.put_image-q-requires
put_image-q-requires c = let a = c.args in let k = c.requires in (omega (arith, k.0, c.put_image-p.ensures.next, shape-length a.text_address.0 (length a.text.now) a.data_address.0 (length a.«data».now) a.entry.0), omega (arith, k.1, k.2))

pub put_line-requires : goal.put_line-requires
put_line-requires c = let a = c.args in let k = c.requires in (omega (arith, k.0, c.put_image-p.ensures.next, c.put_image-q.ensures.next, shape-length a.text_address.0 (length a.text.now) a.data_address.0 (length a.«data».now) a.entry.0), omega arith, omega arith)

pub returns : goal.returns
returns c = let a = c.args in text-stored a.out.now _ _ _ a.text.now a.«data».now a.text_address.0 a.data_address.0 a.entry.0 _ _ c.requires.0 c.put_image-p.ensures.next c.put_image-p.ensures.text c.put_image-q.ensures.next c.put_image-q.ensures.text c.put_line.ensures
