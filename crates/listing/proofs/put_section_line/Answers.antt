-- The parts are written one after the other, as the definition joins them. A number below 100 has two digits.
use Rattle.section_kind.specs.Kind.{kind_word}
use Rattle.listing.specs.Listing.{blank, newline, address_digits, section_line}
use Rattle.text.proofs.Stores.{Wrote, wrote, ◌then◌}
use Rattle.text.proofs.Number.{decimal-bound}
use Rattle.text.specs.Text.{decimal, hex}
use native.Mathlib.Omega.{arith}
use Rattle.listing.proofs.put_section_line.Goals as goal

pub put_decimal-at-requires-2 : goal.put_decimal-at-requires-2
put_decimal-at-requires-2 c = omega (arith, decimal-bound 1 c.args.n (omega arith))

pub put_byte-requires : goal.put_byte-requires
put_byte-requires c = omega (arith, decimal-bound 1 c.args.n (omega arith))

pub returns-clause-next : goal.returns-clause-next
unfolding section_line
returns-clause-next c = let a = c.args in let line : Wrote a.out.now a.at (section_line a.f a.n a.s) c.put_byte.new.out c.put_byte.result = wrote (decimal a.n) c.put_decimal-at.ensures.next c.put_decimal-at.ensures.text then wrote blank c.put_byte-at.ensures.next c.put_byte-at.ensures.text then wrote (kind_word a.s.kind) c.put_word-at.ensures.next c.put_word-at.ensures.text then wrote blank c.put_byte-at-2.ensures.next c.put_byte-at-2.ensures.text then wrote (hex (address_digits a.f) a.s.paddr.0) c.put_address-at.ensures.next c.put_address-at.ensures.text then wrote blank c.put_byte-at-3.ensures.next c.put_byte-at-3.ensures.text then wrote (decimal a.s.size) c.put_decimal-at-2.ensures.next c.put_decimal-at-2.ensures.text then wrote newline c.put_byte.ensures.next c.put_byte.ensures.text in line.place

pub returns-clause-text : goal.returns-clause-text
unfolding section_line
returns-clause-text c = let a = c.args in let line : Wrote a.out.now a.at (section_line a.f a.n a.s) c.put_byte.new.out c.put_byte.result = wrote (decimal a.n) c.put_decimal-at.ensures.next c.put_decimal-at.ensures.text then wrote blank c.put_byte-at.ensures.next c.put_byte-at.ensures.text then wrote (kind_word a.s.kind) c.put_word-at.ensures.next c.put_word-at.ensures.text then wrote blank c.put_byte-at-2.ensures.next c.put_byte-at-2.ensures.text then wrote (hex (address_digits a.f) a.s.paddr.0) c.put_address-at.ensures.next c.put_address-at.ensures.text then wrote blank c.put_byte-at-3.ensures.next c.put_byte-at-3.ensures.text then wrote (decimal a.s.size) c.put_decimal-at-2.ensures.next c.put_decimal-at-2.ensures.text then wrote newline c.put_byte.ensures.next c.put_byte.ensures.text in line.text

pub returns-clause-short : goal.returns-clause-short
unfolding section_line
returns-clause-short c = let a = c.args in let line : Wrote a.out.now a.at (section_line a.f a.n a.s) c.put_byte.new.out c.put_byte.result = wrote (decimal a.n) c.put_decimal-at.ensures.next c.put_decimal-at.ensures.text then wrote blank c.put_byte-at.ensures.next c.put_byte-at.ensures.text then wrote (kind_word a.s.kind) c.put_word-at.ensures.next c.put_word-at.ensures.text then wrote blank c.put_byte-at-2.ensures.next c.put_byte-at-2.ensures.text then wrote (hex (address_digits a.f) a.s.paddr.0) c.put_address-at.ensures.next c.put_address-at.ensures.text then wrote blank c.put_byte-at-3.ensures.next c.put_byte-at-3.ensures.text then wrote (decimal a.s.size) c.put_decimal-at-2.ensures.next c.put_decimal-at-2.ensures.text then wrote newline c.put_byte.ensures.next c.put_byte.ensures.text in omega (arith, decimal-bound 1 a.n (omega arith))
