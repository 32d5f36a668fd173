-- The addresses of an object file's sections by section number. Their differences are the shifts.
use Rattle.std.specs.Prelude.{ℕ, zero, suc, cond, List, [], get_or, set, replicate, Ok}
use Rattle.section_kind.specs.Kind.{is_placed_kind}
use Rattle.format.specs.Layout.{address_limit}
use Rattle.section.specs.declared.Section.{Section}
use Rattle.file_tables.specs.Tables.{blank_section}
use Rattle.header.specs.declared.Summary.{Summary}
use Rattle.object_history.specs.Object.{Object, Plan}
use Rattle.object_plan.specs.Object.{placed_in}
use Rattle.object_plan.specs.Shifts.{numbers}

-- a section's address where it has a place in a plan, else 0
abbrev pub placed_address : Section → ℕ → ℕ
placed_address s a = cond (is_placed_kind s.kind) a 0

-- of a table of sections: 0 for every number, and for each of the first n its address; that with place k has number k + 1
unfoldable pub places_by : List Section → (ℕ → ℕ) → ℕ → List ℕ
places_by t a zero = replicate numbers 0
places_by t a (suc k) = set (places_by t a k) (suc k) (placed_address (get_or t k blank_section) (a k))

-- by a plan, and as the section headers record them
unfoldable pub places_of : Summary → Plan → List ℕ
places_of y p = places_by y.sections (λ k. get_or p k 0) y.count

unfoldable pub recorded_of : Summary → List ℕ
recorded_of y = places_by y.sections (λ k. (get_or y.sections k blank_section).vaddr.0) y.count

-- what plans are judged by: the sections, and the end of the address space
abbrev pub planned_by : Summary → Object
planned_by y = record { verdict = Ok tt; limit = address_limit y.format; sections = placed_in y 0 y.count; raw = []; entries = [] }
