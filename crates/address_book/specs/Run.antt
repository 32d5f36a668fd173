-- Lists of calls, each on the book that the last one left.
use Rattle.std.specs.Prelude.{cond, List, [], ◌∷◌, ℕ, ◌<◌, eqb, length}
use Rattle.address_book.specs.Book.{Book}
use Rattle.address_book.specs.Call.{Call, add, remove, look, fill, count, list, Answer, row_limit, bench_of, answer_in, after_in, answer_of, after}

-- the book after a list of calls
unfoldable pub run : List Call → Book → Book
run [] b = b
run (c ∷ cs) b = run cs (after b c)

-- what each of them answers
unfoldable pub answers : List Call → Book → List Answer
answers [] b = []
answers (c ∷ cs) b = answer_of b c ∷ answers cs (after b c)

-- ---- a bench's part

-- of the answers to a list of calls, those to bench n's
unfoldable pub pick : ℕ → List Call → List Answer → List Answer
pick n [] l = []
pick n (c ∷ cs) [] = []
pick n (c ∷ cs) (a ∷ l) = cond (eqb (bench_of c) n) (a ∷ pick n cs l) (pick n cs l)

-- bench n's calls of a list
unfoldable pub calls_by : ℕ → List Call → List Call
calls_by n [] = []
calls_by n (c ∷ cs) = cond (eqb (bench_of c) n) (c ∷ calls_by n cs) (calls_by n cs)

-- how many rows are taken, as far as a call may depend on it: an addition may, and for any other call it is 0
unfoldable pub seen : ℕ → Call → ℕ
seen taken (add k a) = taken
seen taken (remove k) = 0
seen taken (look k) = 0
seen taken (fill n m given) = 0
seen taken (count n) = 0
seen taken (list n given) = 0

-- a call with that number
pub record Seen : Type 0 where
  pub call : Call
  pub taken : ℕ

-- bench n's calls of a list, each addition with how many rows are taken there
unfoldable pub seen_by : ℕ → List Call → Book → List Seen
seen_by n [] b = []
seen_by n (c ∷ cs) b =
    cond (eqb (bench_of c) n)
    (record { call = c; taken = seen (length b) c } ∷ seen_by n cs (after b c))
    (seen_by n cs (after b c))

-- calls of a bench answered from its own rows, an addition further from how many rows were taken
unfoldable pub own_answers : List Seen → Book → List Answer
own_answers [] b = []
own_answers (s ∷ ss) b = answer_in s.taken b s.call ∷ own_answers ss (after_in s.taken b s.call)

unfoldable pub own_run : List Seen → Book → Book
own_run [] b = b
own_run (s ∷ ss) b = own_run ss (after_in s.taken b s.call)

-- no addition among a bench's calls finds all 512 rows taken
abbrev pub NeverFull : List Seen → Type 0
NeverFull [] = Unit {0}
NeverFull (s ∷ ss) = (s.taken < row_limit) × NeverFull ss
