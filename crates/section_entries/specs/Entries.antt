-- Every relocation entry of a section's own table, in order: LREL, OVERLAP.
use Rattle.std.specs.Prelude.{ℕ, ◌≤◌, ◌<◌, ◌≡◌, true, false, cond, ltb, List, Ok}
use Rattle.refusal.specs.declared.Refusal.TheVariants.{SectionOverlap}
use Rattle.refusal.specs.Refusal.{is_refused}
use Rattle.refusal.specs.Order.{◌or_else◌, refuse_if, first_of}
use Rattle.symbol.specs.declared.Tables.{Tables}
use Rattle.symbol.specs.Entry.{OpenTables}
use Rattle.section_relocation.specs.declared.ObjectSection.{ObjectSection}
use Rattle.section_relocation.specs.Entry.{field_in, name_of, TableReady}
use Rattle.section_overlap.specs.Overlap.{meets}
use Rattle.object_entry.specs.Entry.{own_at}
use Rattle.refusal.specs.Verdict.{Verdict}

-- entry i: LREL, then OVERLAP where its field meets an earlier entry's that isn't the same, kind included
unfoldable pub entry_check : List ℕ → Tables → ObjectSection → ℕ → Verdict
entry_check file t s i = own_at file t s i or_else refuse_if (meets (field_in file t.format s) i) (SectionOverlap (name_of s i))

-- the first refusal of an entry
unfoldable pub entries_check : List ℕ → Tables → ObjectSection → Verdict
entries_check file t s = first_of (entry_check file t s) 0 s.count

-- ---- for the contracts of the search

-- k is the first of n checks that refuses, or n
pub record FirstRefused (check : ℕ → Verdict) (n k : ℕ) : Type 0 where
  pub within : k ≤ n
  pub before : (i : ℕ) → i < k → is_refused (check i) ≡ false
  pub here : k < n → is_refused (check k) ≡ true

-- what check k of n says; there is none from n on
abbrev pub verdict_at : (ℕ → Verdict) → ℕ → ℕ → Verdict
verdict_at check n k = cond (ltb k n) (check k) (Ok tt)

-- what the checks before these leave known
pub record EntriesReady (file : List ℕ) (t : Tables) (s : ObjectSection) : Type 0 where
  pub tables : OpenTables file t
  pub ready : TableReady file t.format s
