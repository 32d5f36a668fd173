-- OVERLAP: the first relocation entry whose field shares a byte with an earlier entry's field and is not the same field, over pairs.
use Rattle.std.specs.Prelude.{◌≡◌, Bool, true, false, not, cond, ◌&&◌, List, ℕ, zero, suc, ◌+◌, ◌≤◌, ◌<◌, ltb, eqb, Ok}
use Rattle.format.specs.declared.Format.{Format}
use Rattle.format.specs.Limit.{file_limit}
use Rattle.parts.specs.declared.Parts.{Parts}
use Rattle.loader_header.specs.declared.LoaderTables.{LoaderTables}
use Rattle.relocation.specs.declared.FieldPlace.{FieldPlace}
use Rattle.relocation.specs.Relocation.{bytes_wide, own_at, place_at, EntriesInside, PlaceInside}

abbrev pub same_bool : Bool → Bool → Bool
same_bool true b = b
same_bool false b = not b

-- ---- the rule, to be computed

abbrev pub same_field : FieldPlace → FieldPlace → Bool
same_field a b = eqb a.offset b.offset && same_bool a.wide b.wide

-- fields of one section that share a byte and are not the same field
unfoldable pub overlaps : FieldPlace → FieldPlace → Bool
overlaps a b =
    same_bool a.text b.text
    && (ltb a.offset (b.offset + bytes_wide b.wide) && (ltb b.offset (a.offset + bytes_wide a.wide) && not (same_field a b)))

-- field e overlaps with one of the first n entries
unfoldable pub meets_one : (ℕ → FieldPlace) → FieldPlace → ℕ → Bool
meets_one r e zero = false
meets_one r e (suc n) = cond (overlaps (r n) e) true (meets_one r e n)

-- entry i overlaps with an earlier one
unfoldable pub meets : (ℕ → FieldPlace) → ℕ → Bool
meets r i = meets_one r (r i) i

-- ---- the same as a statement

-- two fields of one section that share a byte and are not the same field
pub record Overlapping (a b : FieldPlace) : Type 0 where
  pub section : a.text ≡ b.text
  pub byte : ℕ
  pub in_a : (a.offset ≤ byte) × (byte < a.offset + bytes_wide a.wide)
  pub in_b : (b.offset ≤ byte) × (byte < b.offset + bytes_wide b.wide)
  pub differ : (a.offset ≡ b.offset) × (a.wide ≡ b.wide) → ⊥

-- entry i overlaps with an earlier one
pub record Meets (r : ℕ → FieldPlace) (i : ℕ) : Type 0 where
  pub other : ℕ
  pub earlier : other < i
  pub overlap : Overlapping (r other) (r i)

-- x is the first of n entries that overlaps with an earlier one, or n
pub record First (r : ℕ → FieldPlace) (n x : ℕ) : Type 0 where
  pub within : x ≤ n
  pub before : (i : ℕ) → i < x → Meets r i → ⊥
  pub here : x < n → Meets r x

-- ---- for the contracts of the searches and the crates above

-- two fields of different sections, or the same field, or fields that share no byte
pub data Compatible (a b : FieldPlace) : Type 0 where
  other_section : (a.text ≡ b.text → ⊥) → Compatible a b
  same : a ≡ b → Compatible a b
  before : a.text ≡ b.text → a.offset + bytes_wide a.wide ≤ b.offset → Compatible a b
  after : a.text ≡ b.text → b.offset + bytes_wide b.wide ≤ a.offset → Compatible a b

-- what the checks of the first n entries, each by itself, leave known
pub record Readable (file : List ℕ) (f : Format) (p : Parts) (t : LoaderTables) (n : ℕ) : Type 0 where
  pub entries : EntriesInside file f t
  pub few : n ≤ t.nreloc
  pub accepted : (i : ℕ) → i < n → own_at file f p t i ≡ Ok tt
  pub inside : (i : ℕ) → i < n → PlaceInside p (place_at file f p t i)
  pub text_size : p.text.size ≤ file_limit
  pub data_size : p.«data».size ≤ file_limit
