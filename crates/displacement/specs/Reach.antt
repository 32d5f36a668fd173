-- The entry and TOC addresses in a plan, which depend on the file by the module's layout alone, and not on the plan's list.
use Rattle.std.specs.Prelude.{◌≡◌, ℕ, List, None, Option, Some}
use Rattle.module.specs.declared.Anchor.{Anchor}
use Rattle.loadable.specs.declared.Loadable.{Loadable}
use Rattle.history.specs.declared.Reached.{Reached}
use Rattle.history.specs.Plan.{Plan, moved_address, reached_by}
use Rattle.plan.specs.Relocatable.{anchored, relocatable_of}
use Rattle.displacement.specs.declared.Addresses.{Addresses}
use Rattle.format.specs.declared.VirtualAddress.{VirtualAddress}

-- a plan by its two addresses and its list
abbrev pub plan_of : Addresses → List ℕ → Plan
plan_of a list = record { text = a.text.0; dat = a.«data».0; list = list }

-- 1 and the address, or 0 and 0 where there is none
abbrev pub present : Option VirtualAddress → ℕ
present None = 0
present (Some a) = 1

abbrev pub address_of : Option VirtualAddress → ℕ
address_of None = 0
address_of (Some a) = a.0

-- r is the address of the entry point or the TOC anchor a
abbrev pub IsMoved : Loadable → Anchor → Addresses → Option VirtualAddress → Type 0
IsMoved l a at r =
    (file list : List ℕ) → r ≡ moved_address (relocatable_of file l) (plan_of at list) (anchored l.layout.parts a)

-- r has both
abbrev pub IsReached : Loadable → Addresses → Reached → Type 0
IsReached l at r = (file list : List ℕ) → r ≡ reached_by (relocatable_of file l) (plan_of at list)
