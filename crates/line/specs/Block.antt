-- Rows of entries, a block of up to 8 at a time, as they are listed.
use Rattle.std.specs.Prelude.{ℕ, zero, suc, ◌*◌, replicate}
use Rattle.std.proofs.lemmas.List.Edits.{sets}
use Rattle.line.specs.declared.LineBlock.{LineBlock}
use Rattle.line.specs.declared.LineEntry.{LineEntry}
use Rattle.line.specs.Line.{line_row}
use Rattle.line.specs.Search.{Entries}

abbrev pub block_rows : ℕ
block_rows = 8

abbrev pub empty_block : LineBlock
empty_block = record { numbers = replicate 24 0; rows = 0 }

-- one entry more
unfoldable pub added : LineBlock → LineEntry → LineBlock
added b x = record { numbers = sets b.numbers (3 * b.rows) (line_row x); rows = suc b.rows }

-- the first n entries
unfoldable pub block_to : Entries → ℕ → LineBlock
block_to e zero = empty_block
block_to e (suc n) = added (block_to e n) (e n)
