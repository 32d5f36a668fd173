-- The search for an address: one pass over entries, each by its number. What its answer is in terms of the table is `proofs/Search`.
use Rattle.std.specs.Prelude.{ℕ, zero, suc, Bool, true, false, cond, eqb, leb, ltb, None, Option, Some, Err, Ok, Result}
use Rattle.refusal.specs.declared.Refusal.{Refusal}
use Rattle.refusal.specs.declared.Refusal.TheVariants as refusal
use Rattle.line.specs.declared.LineEntry.{LineEntry}
use Rattle.line.specs.declared.LineEntry.TheVariants.{Function, Line}
use Rattle.line.specs.declared.LineFound.{LineFound}
use Rattle.line.specs.declared.LineSearch.{LineSearch}
use Rattle.line.specs.declared.LineError.{LineError}
use Rattle.line.specs.declared.LineError.TheVariants.{Group, NoLine}

-- the entries of a table, by their numbers
abbrev pub Entries : Type 0
Entries = ℕ → LineEntry

-- nothing was found, or what was found is below the address
unfoldable pub is_below : Option LineFound → ℕ → Bool
is_below None x = true
is_below (Some b) x = ltb b.mark.address.0 x

-- the nearer one of what was found and a line entry with its number and the symbol of its group: the earlier where two are as near
unfoldable pub better : ℕ → Option LineFound → LineFound → Option LineFound
better a b m = cond (leb m.mark.address.0 a) (cond (is_below b m.mark.address.0) (Some m) b) b

abbrev pub begun : LineSearch
begun = record { seen = 0; ungrouped = false; symbol = record { 0 = 0 }; best = None }

-- one entry more
unfoldable pub seen : ℕ → LineSearch → LineEntry → LineSearch
seen a s (Function k) = record { seen = suc s.seen; ungrouped = s.ungrouped; symbol = k; best = s.best }
seen a s (Line m) =
    record {
      seen = suc s.seen;
      ungrouped = cond (eqb s.seen 0) true s.ungrouped;
      symbol = s.symbol;
      best = better a s.best (record { number = s.seen; mark = m; symbol = s.symbol });
    }

-- the first n entries
unfoldable pub seen_to : Entries → ℕ → ℕ → LineSearch
seen_to e a zero = begun
seen_to e a (suc n) = seen a (seen_to e a n) (e n)

unfoldable pub best_answer : Option LineFound → Result LineFound LineError
best_answer None = Err NoLine
best_answer (Some b) = Ok b

unfoldable pub answer_of : LineSearch → Result LineFound LineError
answer_of s = cond s.ungrouped (Err Group) (best_answer s.best)

-- the answer for an address over a table of n entries
abbrev pub answer_in : Entries → ℕ → ℕ → Result LineFound LineError
answer_in e a n = answer_of (seen_to e a n)

-- document 02's refusals where there is no entry
abbrev pub refusal_of : LineError → Refusal
refusal_of Group = refusal.Group
refusal_of NoLine = refusal.NoLine
