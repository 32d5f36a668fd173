use lib.ListN.{length}
use Rattle.record.specs.Record.{first_bad, shape}
use Rattle.record.proofs.Reading.{if-bad, if-good, text-fits, text-part, data-part}
use mathlib.Core.Path.{◌≡◌, ◌∙◌}
use native.Mathlib.Omega.{arith}
use Rattle.record_text.proofs.read_text.Goals as goal

pub returns-then-bad-ne0-clause-bad : goal.returns-then-bad-ne0-clause-bad
returns-then-bad-ne0-clause-bad c = let a = c.args in c.judge_text-bad.ensures

pub returns-then-bad-ne0-clause-text : goal.returns-then-bad-ne0-clause-text
returns-then-bad-ne0-clause-text c = let a = c.args in if-bad _ _ a.text.now (omega arith)

pub returns-then-bad-ne0-clause-data : goal.returns-then-bad-ne0-clause-data
returns-then-bad-ne0-clause-data c = let a = c.args in if-bad _ _ a.«data».now (omega arith)

pub fill_image-requires : goal.fill_image-requires
fill_image-requires c = let a = c.args in let z : 0 ≡ first_bad (shape a.text_address.0 (length a.text.now) a.data_address.0 (length a.«data».now) a.entry.0) a.t.now = (let w : 0 ≡ c.judge_text-bad.result = omega arith in w) ∙ c.judge_text-bad.ensures in let r = text-fits a.text_address.0 (length a.text.now) a.data_address.0 (length a.«data».now) a.entry.0 a.t.now z in (omega arith, omega (arith, c.requires.0))

pub fill_image-requires-2 : goal.fill_image-requires-2
fill_image-requires-2 c = let a = c.args in let z : 0 ≡ first_bad (shape a.text_address.0 (length a.text.now) a.data_address.0 (length a.«data».now) a.entry.0) a.t.now = (let w : 0 ≡ c.judge_text-bad.result = omega arith in w) ∙ c.judge_text-bad.ensures in let r = text-fits a.text_address.0 (length a.text.now) a.data_address.0 (length a.«data».now) a.entry.0 a.t.now z in (omega (arith, c.image_length-p.ensures), omega (arith, c.requires.1))

pub returns-clause-bad : goal.returns-clause-bad
returns-clause-bad c = let a = c.args in let z : 0 ≡ first_bad (shape a.text_address.0 (length a.text.now) a.data_address.0 (length a.«data».now) a.entry.0) a.t.now = (let w : 0 ≡ c.judge_text-bad.result = omega arith in w) ∙ c.judge_text-bad.ensures in z

pub returns-clause-text : goal.returns-clause-text
returns-clause-text c = let a = c.args in let z : 0 ≡ first_bad (shape a.text_address.0 (length a.text.now) a.data_address.0 (length a.«data».now) a.entry.0) a.t.now = (let w : 0 ≡ c.judge_text-bad.result = omega arith in w) ∙ c.judge_text-bad.ensures in c.fill_image.ensures a.text_address.0 ∙ text-part a.text_address.0 (length a.text.now) a.data_address.0 (length a.«data».now) a.entry.0 a.t.now ∙ if-good _ a.text.now

pub returns-clause-data : goal.returns-clause-data
returns-clause-data c = let a = c.args in let z : 0 ≡ first_bad (shape a.text_address.0 (length a.text.now) a.data_address.0 (length a.«data».now) a.entry.0) a.t.now = (let w : 0 ≡ c.judge_text-bad.result = omega arith in w) ∙ c.judge_text-bad.ensures in rw c.image_length-p.ensures at (c.fill_image-2.ensures a.data_address.0) ∙ data-part a.text_address.0 (length a.text.now) a.data_address.0 (length a.«data».now) a.entry.0 a.t.now ∙ if-good _ a.«data».now
