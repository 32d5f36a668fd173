use Rattle.std.proofs.Common.{◌≡◌, ◌+◌, ◌*◌, ◌≤◌, ◌-◌}
use Rattle.line.specs.Line.{line_length, entry_of}
use Rattle.line.specs.Search.{seen_to}
use Rattle.line_reader.proofs.pass.Given as goal

-- the search has seen the entries before the reader's place, one by one
abbrev pub invariant-loop-r : goal.invariant-loop-r
invariant-loop-r l = record {
  same : l.r.file.now ≡ l.file;
  inside : l.s.seen ≤ l.count;
  place : l.r.at ≡ l.at + l.s.seen * line_length l.f;
  last : l.end ≡ l.at + l.count * line_length l.f;
  so_far : l.s ≡ seen_to (entry_of l.file l.at l.f) l.address l.s.seen;
}

abbrev pub decreases-loop-r : goal.decreases-loop-r
decreases-loop-r l = l.count - l.s.seen
