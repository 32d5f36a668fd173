-- Worked figures of branches, and what RANGE does not say. Numbers are hex as the listing has them.
use mathlib.Core.Path.{◌≡◌, refl}
use mathlib.Core.Bool.{true, false}
use mathlib.Core.List.{List, [], ◌∷◌}
use Prim.Native.Nat.{ℕ}
use lib.IntN.{pos, negsuc}
use Rattle.word.specs.Number.{value_of, field_at}
use Rattle.update.specs.Update.{remainder}
use Rattle.refusal.specs.declared.Refusal.TheVariants as refusal
use Rattle.refusal.specs.declared.SectionRelocation.{SectionRelocation}
use Rattle.refusal.specs.Order.{first_of}
use Rattle.field_kind.specs.declared.FieldKind.TheVariants.{Branch}
use Rattle.object_history.specs.declared.AmountKind.{AmountKind}
use Rattle.object_history.specs.declared.AmountKind.TheVariants.{Plus, Minus}
use Rattle.object_history.specs.declared.ObjectEntry.{ObjectEntry}
use Rattle.field_kind.specs.Field.{add_low}
use Rattle.branch.specs.Branch.{branch_value, in_range}
use Rattle.object_history.specs.Range.{amounts_on, branch_sum, out_of_range, range_from}
use Rattle.object_history.specs.Object.{Object, move_of, displacements, differences, list_check, address_check, section_check, fit_check}
use Rattle.object_history.specs.Call.{build, move, room_check, range_check, call_check}
use Rattle.std.specs.Prelude.{Err, Ok}

-- a branch word gets a sum; its high six bits and, by steps of 4, its bottom two stay
pub branch-figures : (add_low (pos 0x100) 0x48000001 ≡ 0x48000101) × (add_low (negsuc 3) 0x48000001 ≡ 0x4BFFFFFD) × (branch_value 0x4BFFFFFD ≡ negsuc 3)
    × (branch_value 0x49FFFFFC ≡ pos 33554428) × (branch_value 0x4A000003 ≡ negsuc 33554431)
unfolding add_low branch_value remainder
branch-figures = (refl, refl, refl, refl, refl)

pub range-figures : (in_range (pos 33554428) ≡ true) × (in_range (pos 33554432) ≡ false) × (in_range (negsuc 33554431) ≡ true) × (in_range (negsuc 33554432) ≡ false)
    × (in_range (negsuc 33554435) ≡ false) × (in_range (pos 2) ≡ false)
unfolding in_range
range-figures = (refl, refl, refl, refl, refl, refl)

abbrev first : SectionRelocation
first = record { section = record { 0 = 1 }; index = 0; number = 0 }

abbrev entry : AmountKind → ℕ → ObjectEntry
entry k symbol = record { field = record { offset = 0; kind = Branch }; amount = k; symbol = symbol; name = first }

-- one word, and two sections with a place in a plan
abbrev sample : List ℕ → List ObjectEntry → Object
sample word es =
    record {
      verdict = Ok tt;
      limit = 0x10000000000000000;
      sections = record { placed = true; address = 0; size = 4 } ∷ record { placed = true; address = 0; size = 0 } ∷ [];
      raw = word;
      entries = es;
    }

abbrev plan : ℕ → ℕ → List ℕ
plan a b = a ∷ b ∷ []

-- the farthest branch, and one that goes nowhere
abbrev farthest : List ℕ
farthest = 0x49 ∷ 0xFF ∷ 0xFF ∷ 0xFC ∷ []

abbrev here : List ℕ
here = 0x48 ∷ 0 ∷ 0 ∷ 0 ∷ []
    -- huge amounts that cancel are accepted, and one alone is not

pub huge-figures : (call_check (sample here (entry Plus 1 ∷ entry Minus 2 ∷ [])) 4 [] (build (plan 0x8000000000000000 0x8000000000000000)) ≡ Ok tt)
    × (call_check (sample here (entry Plus 1 ∷ [])) 4 [] (build (plan 0x8000000000000000 0x8000000000000000)) ≡ Err (refusal.Range first))
unfolding call_check list_check fit_check section_check address_check move_of room_check range_check range_from out_of_range branch_sum branch_value in_range amounts_on displacements first_of field_at value_of
huge-figures = (refl, refl)

-- a move is judged by what the buffer holds: on other bytes than a build's it may be accepted where the build for its plan is refused, and refused where that is accepted
pub move-figures : (call_check (sample farthest (entry Plus 1 ∷ [])) 4 here (move (plan 0 0) (plan 4 0)) ≡ Ok tt)
    × (call_check (sample farthest (entry Plus 1 ∷ [])) 4 here (build (plan 4 0)) ≡ Err (refusal.Range first))
    × (call_check (sample here (entry Plus 1 ∷ [])) 4 farthest (move (plan 0 0) (plan 4 0)) ≡ Err (refusal.Range first))
    × (call_check (sample here (entry Plus 1 ∷ [])) 4 farthest (build (plan 4 0)) ≡ Ok tt)
unfolding call_check list_check fit_check section_check address_check move_of room_check range_check range_from out_of_range branch_sum branch_value in_range amounts_on displacements differences first_of field_at value_of
move-figures = (refl, refl, refl, refl)

-- a refused move does not make the move back refused: there and back restores the bytes only where the first is accepted
pub back-figures : (call_check (sample here (entry Plus 1 ∷ [])) 4 farthest (move (plan 0 0) (plan 4 0)) ≡ Err (refusal.Range first))
    × (call_check (sample here (entry Plus 1 ∷ [])) 4 farthest (move (plan 4 0) (plan 0 0)) ≡ Ok tt)
unfolding call_check list_check fit_check section_check address_check move_of room_check range_check range_from out_of_range branch_sum branch_value in_range amounts_on displacements differences first_of field_at value_of
back-figures = (refl, refl)

-- a chain through a refused plan is none: the build for 0 is accepted, the move on to 33,554,432 refused, the move from there to 33,554,436 accepted, a build for that refused
pub middle-figures : (call_check (sample here (entry Plus 1 ∷ [])) 4 here (build (plan 0 0)) ≡ Ok tt)
    × (call_check (sample here (entry Plus 1 ∷ [])) 4 here (move (plan 0 0) (plan 33554432 0)) ≡ Err (refusal.Range first))
    × (call_check (sample here (entry Plus 1 ∷ [])) 4 here (move (plan 33554432 0) (plan 33554436 0)) ≡ Ok tt)
    × (call_check (sample here (entry Plus 1 ∷ [])) 4 here (build (plan 33554436 0)) ≡ Err (refusal.Range first))
unfolding call_check list_check fit_check section_check address_check move_of room_check range_check range_from out_of_range branch_sum branch_value in_range amounts_on displacements differences first_of field_at value_of
middle-figures = (refl, refl, refl, refl)
