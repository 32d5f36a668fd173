use Rattle.address_book.specs.Book.{key}
use Rattle.address_row.proofs.Words.{words-made}
use Rattle.address_row.proofs.key_words.Goals as goal

pub returns : goal.returns
returns c = let a = c.args in words-made (key a.bench a.file_id a.name.now) c.pad-p.ensures c.get64-a.ensures c.get64-b.ensures c.get64-c.ensures c.get64-d.ensures c.wrapping_add_u64.ensures.value c.wrapping_add_u64-2.ensures.value c.wrapping_add_u64-s.ensures.value c.wrapping_add_u64-3.ensures.value c.wrapping_add_u64-mark.ensures.value
