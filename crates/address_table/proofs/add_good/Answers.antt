use Rattle.address_book.specs.Book.{key}
use Rattle.address_row.proofs.Good.{key_fits}
use Rattle.address_table.proofs.Calls as calls
use Rattle.address_table.proofs.add_good.Goals as goal

pub key_words-words-requires : goal.key_words-words-requires
key_words-words-requires c = key_fits (key c.args.bench c.args.file_id c.args.name.now) c.requires

pub returns-then-place-n : goal.returns-then-place-n
returns-then-place-n c = let a = c.args in let told = calls.add-there (key a.bench a.file_id a.name.now) c.requires (λ j. (c.shared_slice_known-1.given j).fits) a.table.now c.key_words-words.ensures c.taken-n.ensures.count c.place_of-place.ensures a.address c.if-place-n.true c.put_number.ensures in record { answer = told.0; table = told.1 }

pub returns-then-n-eq-ROW_LIMIT : goal.returns-then-n-eq-ROW_LIMIT
returns-then-n-eq-ROW_LIMIT c = let a = c.args in let told = calls.add-full (key a.bench a.file_id a.name.now) c.requires (λ j. (c.shared_slice_known-1.given j).fits) a.table.now c.key_words-words.ensures c.taken-n.ensures.count c.place_of-place.ensures a.address c.if-place-n.false c.if-n-eq-ROW_LIMIT.true in record { answer = told.0; table = told.1 }

pub returns : goal.returns
returns c = let a = c.args in let told = calls.add-new (key a.bench a.file_id a.name.now) c.requires (λ j. (c.shared_slice_known-1.given j).fits) a.table.now c.key_words-words.ensures c.taken-n.ensures.count c.place_of-place.ensures a.address c.if-place-n.false c.if-n-eq-ROW_LIMIT.false c.write_new.ensures in record { answer = told.0; table = told.1 }
