-- What the answer for an address says, for every file. Assumes nothing.
use Prim.Native.Nat.{ℕ}
use mathlib.Core.Path.{◌≡◌, refl, ap, ◌∙◌}
use mathlib.Core.List.{List}
use Rattle.format.specs.declared.SectionNumber.{SectionNumber}
use Rattle.line.specs.Search.{answer_in}
use Rattle.line.proofs.Search.{answered, only-answer}
use Rattle.line_lookup.specs.Lookup.{entries_in, lookup_of, find_in, line_table_at, line_at}
use Rattle.line_lookup.specs.Meaning.{SaysBy, Says}
use Rattle.std.specs.Prelude.{Err, Ok, Result}
use Rattle.refusal.specs.declared.Refusal.{Refusal}
use Rattle.line_lookup.specs.declared.LineTable.{LineTable}
use Rattle.line.specs.declared.LineFound.{LineFound}

module _ (file : List ℕ) (address : ℕ) where
  says-by : (a : Result LineTable Refusal) → SaysBy file address a (find_in file address a)
  says-by (Ok t) = record { answer = answer_in (entries_in file t) address t.count; same = refl; holds = answered (entries_in file t) address t.count }
  says-by (Err x) = refl

  only-by : (a : Result LineTable Refusal) (r : Result LineFound Refusal) → SaysBy file address a r → r ≡ find_in file address a
  only-by (Ok t) r h = h.same ∙ ap lookup_of (only-answer (entries_in file t) address t.count h.answer h.holds)
  only-by (Err x) r h = h

  -- REQUEST 7: the answer says what is true of the section's table, or it is the refusal for which there is no table
  pub line-answered : (n : SectionNumber) → Says file n address (line_at file n address)
  unfolding line_at
  line-answered n = says-by (line_table_at file n)

  -- and no other answer does, so each is given exactly there
  pub line-only : (n : SectionNumber) (r : Result LineFound Refusal) → Says file n address r → r ≡ line_at file n address
  unfolding line_at
  line-only n r h = only-by (line_table_at file n) r h
