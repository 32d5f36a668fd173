-- The parts are written one after the other, as the definition joins them.
use Rattle.listing.specs.Listing.{blank, newline, refused_word, refusal_line}
use Rattle.text.proofs.Stores.{Wrote, wrote, ◌then◌}
use Rattle.text.specs.Text.{decimal}
use native.Mathlib.Omega.{arith}
use Rattle.listing.proofs.put_refusal_line.Goals as goal

pub returns-clause-next : goal.returns-clause-next
unfolding refusal_line
returns-clause-next c = let a = c.args in let line : Wrote a.out.now 0 (refusal_line a.h) c.put_byte.new.out c.put_byte.result = (wrote refused_word c.put_bytes-at.ensures.next c.put_bytes-at.ensures.text then wrote blank c.put_byte-at.ensures.next c.put_byte-at.ensures.text then wrote (decimal a.h.number) c.put_decimal-at.ensures.next c.put_decimal-at.ensures.text then wrote blank c.put_byte-at-2.ensures.next c.put_byte-at-2.ensures.text then wrote (decimal a.h.item) c.put_decimal-at-2.ensures.next c.put_decimal-at-2.ensures.text then wrote blank c.put_byte-at-3.ensures.next c.put_byte-at-3.ensures.text then wrote (decimal a.h.offset) c.put_decimal-at-3.ensures.next c.put_decimal-at-3.ensures.text then wrote newline c.put_byte.ensures.next c.put_byte.ensures.text) in omega arith

pub returns-clause-text : goal.returns-clause-text
unfolding refusal_line
returns-clause-text c = let a = c.args in let line : Wrote a.out.now 0 (refusal_line a.h) c.put_byte.new.out c.put_byte.result = (wrote refused_word c.put_bytes-at.ensures.next c.put_bytes-at.ensures.text then wrote blank c.put_byte-at.ensures.next c.put_byte-at.ensures.text then wrote (decimal a.h.number) c.put_decimal-at.ensures.next c.put_decimal-at.ensures.text then wrote blank c.put_byte-at-2.ensures.next c.put_byte-at-2.ensures.text then wrote (decimal a.h.item) c.put_decimal-at-2.ensures.next c.put_decimal-at-2.ensures.text then wrote blank c.put_byte-at-3.ensures.next c.put_byte-at-3.ensures.text then wrote (decimal a.h.offset) c.put_decimal-at-3.ensures.next c.put_decimal-at-3.ensures.text then wrote newline c.put_byte.ensures.next c.put_byte.ensures.text) in line.text
