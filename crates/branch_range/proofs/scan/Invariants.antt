use Rattle.branch_range.specs.Cells.{OutBy}
use Rattle.branch_range.specs.Range.{word_from}
use Rattle.section_relocation.specs.Entry.{field_in}
use Prim.Native.Nat.{ℕ, ◌<◌}
use Rattle.branch_range.proofs.scan.Given as goal

abbrev pub invariant-loop-i : goal.invariant-loop-i
invariant-loop-i l = (j : ℕ) → j < l.i → OutBy (word_from l.bytes l.origin l.s) l.base l.low l.high (field_in l.file l.f l.s j) → ⊥
