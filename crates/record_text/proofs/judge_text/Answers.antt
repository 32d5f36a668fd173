use Prim.Native.Nat.{◌+◌, ◌*◌, ◌/◌}
use Rattle.record.specs.Record.{bad_from, image_slots}
use Rattle.record.proofs.Reading.{bad-text, text-room, data-room, bad-data, bad_last, bad_more, bad-none}
use mathlib.Core.Path.{◌≡◌, ◌∙◌, sym}
use native.Mathlib.Omega.{arith}
use Rattle.record_text.proofs.judge_text.Goals as goal

pub returns-then-bad-ne0 : goal.returns-then-bad-ne0
returns-then-bad-ne0 c = let a = c.args in bad-text a.t.now a.text_address.0 a.text a.data_address.0 a.«data» a.entry.0 _ c.judge_image-bad.ensures (omega arith)

pub judge_image-bad_data-requires : goal.judge_image-bad_data-requires
judge_image-bad_data-requires c = let a = c.args in let z : 0 ≡ bad_from 1 0 (image_slots a.text_address.0 a.text) a.t.now = (let w : 0 ≡ c.judge_image-bad.result = omega arith in w) ∙ c.judge_image-bad.ensures in let r = text-room a.t.now a.text_address.0 a.text a.data_address.0 a.«data» a.entry.0 z in (omega (arith, c.image_length-p.ensures), c.requires.1, omega (arith, c.image_length-p.ensures))

pub returns-then-bad_data-ne0 : goal.returns-then-bad_data-ne0
returns-then-bad_data-ne0 c = let a = c.args in let z : 0 ≡ bad_from 1 0 (image_slots a.text_address.0 a.text) a.t.now = (let w : 0 ≡ c.judge_image-bad.result = omega arith in w) ∙ c.judge_image-bad.ensures in bad-data a.t.now a.text_address.0 a.text a.data_address.0 a.«data» a.entry.0 _ z (rw c.image_length-p.ensures at c.judge_image-bad_data.ensures) (omega arith)

pub judge_line-requires : goal.judge_line-requires
judge_line-requires c = let a = c.args in let z : 0 ≡ bad_from 1 0 (image_slots a.text_address.0 a.text) a.t.now = (let w : 0 ≡ c.judge_image-bad.result = omega arith in w) ∙ c.judge_image-bad.ensures in let y : 0 ≡ bad_from ((a.text + 31) / 32 + 1) (15 * ((a.text + 31) / 32) + 2 * a.text) (image_slots a.data_address.0 a.«data») a.t.now = (let w : 0 ≡ c.judge_image-bad_data.result = omega arith in w) ∙ rw c.image_length-p.ensures at c.judge_image-bad_data.ensures in let r = data-room a.t.now a.text_address.0 a.text a.data_address.0 a.«data» a.entry.0 (text-room a.t.now a.text_address.0 a.text a.data_address.0 a.«data» a.entry.0 z) y in (omega (arith, c.image_length.ensures, c.image_length-p.ensures), omega arith)

pub returns-then-not-judge_line : goal.returns-then-not-judge_line
returns-then-not-judge_line c = let a = c.args in let z : 0 ≡ bad_from 1 0 (image_slots a.text_address.0 a.text) a.t.now = (let w : 0 ≡ c.judge_image-bad.result = omega arith in w) ∙ c.judge_image-bad.ensures in let y : 0 ≡ bad_from ((a.text + 31) / 32 + 1) (15 * ((a.text + 31) / 32) + 2 * a.text) (image_slots a.data_address.0 a.«data») a.t.now = (let w : 0 ≡ c.judge_image-bad_data.result = omega arith in w) ∙ rw c.image_length-p.ensures at c.judge_image-bad_data.ensures in bad_last a.t.now a.text_address.0 a.text a.data_address.0 a.«data» a.entry.0 z y (rw (c.image_length-p.ensures, c.image_length.ensures) at (sym c.judge_line.ensures ∙ c.if-not-judge_line.true))

pub returns-then-q-t : goal.returns-then-q-t
returns-then-q-t c = let a = c.args in let z : 0 ≡ bad_from 1 0 (image_slots a.text_address.0 a.text) a.t.now = (let w : 0 ≡ c.judge_image-bad.result = omega arith in w) ∙ c.judge_image-bad.ensures in let y : 0 ≡ bad_from ((a.text + 31) / 32 + 1) (15 * ((a.text + 31) / 32) + 2 * a.text) (image_slots a.data_address.0 a.«data») a.t.now = (let w : 0 ≡ c.judge_image-bad_data.result = omega arith in w) ∙ rw c.image_length-p.ensures at c.judge_image-bad_data.ensures in bad_more a.t.now a.text_address.0 a.text a.data_address.0 a.«data» a.entry.0 z y (rw (c.image_length-p.ensures, c.image_length.ensures) at (sym c.judge_line.ensures ∙ c.if-not-judge_line.false)) (omega (arith, c.image_length-p.ensures, c.image_length.ensures))

pub returns : goal.returns
returns c = let a = c.args in let z : 0 ≡ bad_from 1 0 (image_slots a.text_address.0 a.text) a.t.now = (let w : 0 ≡ c.judge_image-bad.result = omega arith in w) ∙ c.judge_image-bad.ensures in let y : 0 ≡ bad_from ((a.text + 31) / 32 + 1) (15 * ((a.text + 31) / 32) + 2 * a.text) (image_slots a.data_address.0 a.«data») a.t.now = (let w : 0 ≡ c.judge_image-bad_data.result = omega arith in w) ∙ rw c.image_length-p.ensures at c.judge_image-bad_data.ensures in bad-none a.t.now a.text_address.0 a.text a.data_address.0 a.«data» a.entry.0 z y (rw (c.image_length-p.ensures, c.image_length.ensures) at (sym c.judge_line.ensures ∙ c.if-not-judge_line.false)) (omega (arith, c.image_length-p.ensures, c.image_length.ensures))
