-- An object file as builds and moves see it, and plans.
use Rattle.std.specs.Prelude.{◌≡◌, Bool, not, cond, true, false, ◌&&◌, List, ℕ, zero, suc, ◌+◌, eqb, ltb, leb, length, get_or, ℤ, pos, ◌-ℤ◌}
use Rattle.refusal.specs.declared.RoomItem.TheVariants.{AddressList}
use Rattle.refusal.specs.declared.PlanItem.TheVariants.{SectionAddress}
use Rattle.refusal.specs.declared.Refusal.TheVariants as refusal
use Rattle.refusal.specs.Order.{refuse_if, first_of}
use Rattle.book.specs.Machine.{Shifts, difference}
use Rattle.book.specs.Entries.{All, Pairwise}
use Rattle.object_history.specs.declared.ObjectEntry.{ObjectEntry}
use Rattle.object_history.specs.Entry.{apply_all, Inside, Compatible}
use Rattle.refusal.specs.Verdict.{Verdict}

-- a section: whether it is text, data or bss, which have a place in a plan, its recorded address and its size
pub record Placed : Type 0 where
  pub placed : Bool
  pub address : ℕ
  pub size : ℕ

abbrev pub unplaced : Placed
unplaced = record { placed = false; address = 0; size = 0 }

-- what builds and moves need of a file: its verdict, and what it holds if that accepts; the end of its address space is the limit
pub record Object : Type 0 where
  pub verdict : Verdict
  pub limit : ℕ
  pub sections : List Placed
  pub raw : List ℕ
  pub entries : List ObjectEntry

-- one address for each section, ignored but for text, data and bss
abbrev pub Plan : Type 0
Plan = List ℕ

-- the section with place k in the table
abbrev pub section_of : Object → ℕ → Placed
section_of o k = get_or o.sections k unplaced

-- a section's move: its new address minus the recorded one; a section without a place in a plan moves by 0
unfoldable pub move_of : Placed → ℕ → ℤ
move_of s a = cond s.placed (pos a -ℤ pos s.address) (pos 0)

-- by its number, from 1; every other number, as that of a symbol that is in none, moves by 0
unfoldable pub displacements : Object → Plan → Shifts
displacements o p zero = pos 0
displacements o p (suc k) = move_of (section_of o k) (get_or p k 0)

-- what the displacements of q are more than those of p
unfoldable pub differences : Object → Plan → Plan → Shifts
differences o p q = difference (displacements o p) (displacements o q)

-- plans that give each section with a place in them the same address: all others are ignored
pub record SamePlan (o : Object) (p q : Plan) : Type 0 where
  pub addresses : (k : ℕ) → (section_of o k).placed ≡ true → get_or p k 0 ≡ get_or q k 0

-- the raw bytes with each entry applied in order
unfoldable pub built_image : Object → Plan → List ℕ
built_image o p = apply_all o.entries (displacements o p) o.raw

-- ---- which plans are accepted

-- ROOM 2
unfoldable pub list_check : Object → Plan → Verdict
list_check o p = refuse_if (not (eqb (length p) (length o.sections))) (refusal.Room AddressList)

-- PLAN of section number n at an address: one that has a place in a plan starts below the limit, and its end is at or below it
unfoldable pub address_check : ℕ → Placed → ℕ → ℕ → Verdict
address_check limit s n a = refuse_if (s.placed && not (ltb a limit && leb (a + s.size) limit)) (refusal.Plan (SectionAddress (record { 0 = n })))

-- of the section with place k in the table, which is number k + 1
unfoldable pub section_check : Object → Plan → ℕ → Verdict
section_check o p k = address_check o.limit (section_of o k) (k + 1) (get_or p k 0)

-- PLAN: the first section that does not fit
unfoldable pub fit_check : Object → Plan → Verdict
fit_check o p = first_of (section_check o p) 0 (length o.sections)

-- ---- what an accepted file guarantees, and a refused one too: it has no entries

pub record Sound (o : Object) : Type 0 where
  pub inside : All (Inside o.raw) o.entries
  pub pairwise : Pairwise Compatible o.entries
