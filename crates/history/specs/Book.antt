-- Document 01's book of a module, an instance of the general one.
use Rattle.std.specs.Prelude.{◌≡◌, List, [], ◌∷◌, ℕ, Err, Ok}
use Rattle.refusal.specs.declared.Refusal.{Refusal}
use Rattle.book.specs.Book as book
use Rattle.history.specs.Images.{Images}
use Rattle.history.specs.Plan.{Relocatable, Plan, SamePlan}
use Rattle.history.specs.Call.{Call, move, call_check, machine_of}

abbrev pub Book : Type 0
Book = book.Book Images

-- the book after a list of calls, from what the buffers hold before the first
unfoldable pub book_after : Relocatable → List Call → Images → Book
book_after m cs x = book.book_after (machine_of m) cs x

-- the base, from the first accepted call on with each entry applied in order by its symbol's shift
unfoldable pub book_images : Relocatable → Book → Images
book_images m b = book.book_images (machine_of m) b

-- `Chain m tl dl p cs r`: from the plan p that was reached, no build of cs is accepted, and each accepted move goes from the plan that the
-- accepted call before it reached; r is the last plan so reached
pub data Chain (m : Relocatable) (tl dl : ℕ) : Plan → List Call → Plan → Type 0 where
  ended : {p : Plan} → Chain m tl dl p [] p
  moved : {p o q r : Plan} {cs : List Call} → call_check m tl dl (move o q) ≡ Ok tt → SamePlan m o p → Chain m tl dl q cs r → Chain m tl dl p (move o q ∷ cs) r
  passed : {p r : Plan} {c : Call} {cs : List Call} (x : Refusal) → call_check m tl dl c ≡ Err x → Chain m tl dl p cs r → Chain m tl dl p (c ∷ cs) r
