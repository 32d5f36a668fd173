-- Lists of calls on the table's memory, each on the contents that the last one left.
use Rattle.std.specs.Prelude.{List, [], ◌∷◌, ℕ}
use Rattle.update.specs.Update.{Bytes}
use Rattle.address_book.specs.Call.{Call, add, remove, look, fill, count, list, Answer, answer_of}
use Rattle.address_table.specs.Table.{book_of, contents_after}

-- the contents after a list of calls
unfoldable pub contents_run : List Call → List ℕ → List ℕ
contents_run [] m = m
contents_run (c ∷ cs) m = contents_run cs (contents_after m c)

-- what each of them answers, as the contract of each call says
unfoldable pub contents_answers : List Call → List ℕ → List Answer
contents_answers [] m = []
contents_answers (c ∷ cs) m = answer_of (book_of m) c ∷ contents_answers cs (contents_after m c)

-- a name is a list of bytes
abbrev pub ByteName : Call → Type 0
ByteName (add k a) = Bytes k.name
ByteName (remove k) = Bytes k.name
ByteName (look k) = Unit {0}
ByteName (fill n p given) = Unit {0}
ByteName (count n) = Unit {0}
ByteName (list n given) = Unit {0}

abbrev pub ByteNames : List Call → Type 0
ByteNames [] = Unit {0}
ByteNames (c ∷ cs) = ByteName c × ByteNames cs
