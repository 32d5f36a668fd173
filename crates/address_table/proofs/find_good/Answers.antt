use Rattle.address_book.specs.Book.{key}
use Rattle.address_row.proofs.Good.{key_fits}
use Rattle.address_table.proofs.Calls as calls
use Rattle.address_table.proofs.find_good.Goals as goal

pub key_words-requires : goal.key_words-requires
key_words-requires c = key_fits (key c.args.bench c.args.file_id c.args.name.now) c.requires

pub returns-then-p-n : goal.returns-then-p-n
returns-then-p-n c = let a = c.args in calls.found-there (key a.bench a.file_id a.name.now) c.requires (λ j. (c.shared_slice_known-1.given j).fits) a.table.now c.key_words.ensures c.taken-n.ensures.count c.place_of-p.ensures c.if-p-n.true

pub returns : goal.returns
returns c = let a = c.args in calls.found_none (key a.bench a.file_id a.name.now) c.requires (λ j. (c.shared_slice_known-1.given j).fits) a.table.now c.key_words.ensures c.taken-n.ensures.count c.place_of-p.ensures c.if-p-n.false
