use Rattle.address_book.specs.Book.{key}
use Rattle.address_row.proofs.Good.{key_fits}
use Rattle.address_table.proofs.Calls as calls
use Rattle.address_table.proofs.remove_good.Goals as goal

pub key_words-words-requires : goal.key_words-words-requires
key_words-words-requires c = key_fits (key c.args.bench c.args.file_id c.args.name.now) c.requires

pub returns-then-p-n : goal.returns-then-p-n
returns-then-p-n c = let a = c.args in let told = calls.remove-there (key a.bench a.file_id a.name.now) c.requires (λ j. (c.shared_slice_known-1.given j).fits) a.table.now c.key_words-words.ensures c.taken-n.ensures.count c.place_of-p.ensures c.if-p-n.true c.remove_at.ensures in record { answer = told.0; table = told.1 }

pub returns : goal.returns
returns c = let a = c.args in let told = calls.remove-none (key a.bench a.file_id a.name.now) c.requires (λ j. (c.shared_slice_known-1.given j).fits) a.table.now c.key_words-words.ensures c.taken-n.ensures.count c.place_of-p.ensures c.if-p-n.false in record { answer = told.0; table = told.1 }
