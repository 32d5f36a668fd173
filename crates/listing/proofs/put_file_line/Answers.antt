-- The parts are written one after the other, as the definition joins them.
use Rattle.listing.specs.Listing.{blank, newline, format_word, file_line}
use Rattle.text.proofs.Stores.{Wrote, wrote, wrote-first, ◌then◌}
use Rattle.text.specs.Text.{decimal}
use native.Mathlib.Omega.{arith}
use Rattle.listing.proofs.put_file_line.Goals as goal

pub returns-clause-next : goal.returns-clause-next
unfolding file_line
returns-clause-next c = let a = c.args in let line : Wrote a.out.now 0 (file_line a.f a.sections a.symbols) c.put_byte.new.out c.put_byte.result = wrote-first (format_word a.f) c.put_format-at.ensures.next c.put_format-at.ensures.text then wrote blank c.put_byte-at.ensures.next c.put_byte-at.ensures.text then wrote (decimal a.sections) c.put_decimal-at.ensures.next c.put_decimal-at.ensures.text then wrote blank c.put_byte-at-2.ensures.next c.put_byte-at-2.ensures.text then wrote (decimal a.symbols) c.put_decimal-at-2.ensures.next c.put_decimal-at-2.ensures.text then wrote newline c.put_byte.ensures.next c.put_byte.ensures.text in omega arith

pub returns-clause-text : goal.returns-clause-text
unfolding file_line
returns-clause-text c = let a = c.args in let line : Wrote a.out.now 0 (file_line a.f a.sections a.symbols) c.put_byte.new.out c.put_byte.result = wrote-first (format_word a.f) c.put_format-at.ensures.next c.put_format-at.ensures.text then wrote blank c.put_byte-at.ensures.next c.put_byte-at.ensures.text then wrote (decimal a.sections) c.put_decimal-at.ensures.next c.put_decimal-at.ensures.text then wrote blank c.put_byte-at-2.ensures.next c.put_byte-at-2.ensures.text then wrote (decimal a.symbols) c.put_decimal-at-2.ensures.next c.put_decimal-at-2.ensures.text then wrote newline c.put_byte.ensures.next c.put_byte.ensures.text in line.text
