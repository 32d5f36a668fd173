use Rattle.std.proofs.Common.{◌≡◌, ◌+◌, ◌*◌, ◌≤◌, ◌-◌}
use Rattle.line.specs.Line.{line_length, entry_of}
use Rattle.line.specs.Block.{block_to}
use Rattle.line_reader.proofs.pass_block.Given as goal

-- the block has the entries before the reader's place, one by one
abbrev pub invariant-loop-r : goal.invariant-loop-r
invariant-loop-r l = record {
  same : l.r.file.now ≡ l.file;
  inside : l.b.rows ≤ l.count;
  place : l.r.at ≡ l.at + l.b.rows * line_length l.f;
  last : l.end ≡ l.at + l.count * line_length l.f;
  so_far : l.b ≡ block_to (entry_of l.file l.at l.f) l.b.rows;
}

abbrev pub decreases-loop-r : goal.decreases-loop-r
decreases-loop-r l = l.count - l.b.rows
