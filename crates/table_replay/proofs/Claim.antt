-- Request 6's claim for a script: what it answers and leaves from the empty table. Assumes nothing.
use mathlib.Core.Path.{◌≡◌, refl, ◌∙◌, ap}
use mathlib.Core.List.{List, [], ◌∷◌, ◌++◌}
use Prim.Native.Nat.{ℕ}
use lib.ListN.{length}
use Rattle.address_book.specs.Book.{Book}
use Rattle.address_book.specs.Call.{Call, number_of, answer_in, after}
use Rattle.address_book.specs.Run.{run, answers}
use Rattle.address_table.specs.Table.{book_of, empty_table}
use Rattle.address_table.specs.Run.{contents_run}
use Rattle.address_table.proofs.Runs.{empty-book, table-rows}
use Rattle.address_fill.specs.Fill.{places_at}
use Rattle.table_replay.specs.Script.{script_calls, encode, AllAsked}
use Rattle.table_replay.specs.Answer.{last_told, table_replay_answer, list_run}
use Rattle.table_replay.proofs.Calls.{byte-script}
use Rattle.table_replay.proofs.Encode.{encode-decode}
use Rattle.std.specs.Prelude.{Ok, Result}
use Rattle.refusal.specs.declared.Refusal.{Refusal}

-- ---- any script

-- a table of zeros is answered for as the plain book without rows
pub empty-answer : (file lent s : List ℕ) → table_replay_answer (script_calls file lent s) (book_of empty_table) ≡ table_replay_answer (script_calls file lent s) []
empty-answer file lent s = ap (table_replay_answer (script_calls file lent s)) empty-book

-- the rows that are left are the plain book's
pub empty-rows : (file lent s : List ℕ) → book_of (contents_run (script_calls file lent s) empty_table) ≡ run (script_calls file lent s) []
empty-rows file lent s = table-rows (script_calls file lent s) (byte-script (places_at file) (length lent) s)

-- and so is the list
pub empty-list : (file lent s : List ℕ) → list_run (script_calls file lent s) (book_of empty_table) lent ≡ list_run (script_calls file lent s) [] lent
empty-list file lent s = ap (λ (b : Book). list_run (script_calls file lent s) b lent) empty-book

-- ---- any list of the request's calls

module _ (file lent : List ℕ) (cs : List Call) (b : AllAsked (places_at file) (length lent) cs) where
  encoded : script_calls file lent (encode cs) ≡ cs
  encoded = encode-decode (places_at file) (length lent) cs b

  pub claim-answer : table_replay_answer (script_calls file lent (encode cs)) (book_of empty_table) ≡ table_replay_answer cs []
  claim-answer = empty-answer file lent (encode cs) ∙ ap (λ (l : List Call). table_replay_answer l []) encoded

  pub claim-rows : book_of (contents_run (script_calls file lent (encode cs)) empty_table) ≡ run cs []
  claim-rows = empty-rows file lent (encode cs) ∙ ap (λ (l : List Call). run l []) encoded

  pub claim-list : list_run (script_calls file lent (encode cs)) (book_of empty_table) lent ≡ list_run cs [] lent
  claim-list = empty-list file lent (encode cs) ∙ ap (λ (l : List Call). list_run l [] lent) encoded

-- ---- each call

last-told : (t : Result ℕ Refusal) (cs : List Call) (c : Call) (b : Book) → last_told t (answers (cs ++ (c ∷ [])) b) ≡ number_of (run cs b) c
unfolding last_told answers run answer_in
last-told t [] c b = refl
last-told t (d ∷ cs) c b = last-told (number_of b d) cs c (after b d)

-- a list that ends with a call tells that call's answer on the book that the calls before it left
pub last-answer : (cs : List Call) (c : Call) (b : Book) → (table_replay_answer (cs ++ (c ∷ [])) b).last ≡ number_of (run cs b) c
unfolding table_replay_answer
last-answer cs c b = last-told (Ok 0) cs c b
