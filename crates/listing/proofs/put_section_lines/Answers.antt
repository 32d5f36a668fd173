-- The lines of the first i sections stand in the buffer, each at most 49 bytes long.
use Rattle.std.proofs.Common.{rules, take}
use Rattle.file_tables.specs.Tables.{blank_section}
use lib.ListN.{get_or}
use Rattle.listing.proofs.Lines.{lines_next}
use Rattle.listing.specs.Listing.{section_line, section_lines}
use Rattle.text.proofs.Stores.{wrote, ◌then◌}
use Prim.Native.Nat.{◌+◌}
use mathlib.Core.Path.{refl}
use native.Mathlib.Omega.{arith}
use Rattle.listing.proofs.put_section_lines.Goals as goal

pub loop-i-init : goal.loop-i-init
unfolding section_lines
loop-i-init c = (search rules, record { place = search rules; text = refl })

pub loop-i-preserved : goal.loop-i-preserved
loop-i-preserved c =
    let a = c.args in
    let l = c.loop-i in
    let t = take a.count a.sections in
    let line = c.put_section_line-next.ensures in (
      omega (arith, line.short),
      rw (lines_next a.f l.i t blank_section c.loop-i-test.true) (l.invariant.1 then wrote (section_line a.f (l.i + 1) (get_or t l.i blank_section)) line.next line.text),
    )
