-- Which section of a file is which.
use Rattle.std.specs.Prelude.{ℕ, zero, suc, ◌+◌, ◌-◌, Bool, cond, ◌&&◌, ◌||◌, List, eqb, get_or}
use Rattle.section_kind.specs.Kind.{flags_of}
use Rattle.refusal.specs.declared.Refusal.TheVariants.{Thread}
use Rattle.refusal.specs.declared.ThreadItem.TheVariants.{ThreadSection}
use Rattle.refusal.specs.Order.{refuse_if, first_of}
use Rattle.section.specs.declared.Section.{Section}
use Rattle.header.specs.declared.Summary.{Summary}
use Rattle.file_tables.specs.Tables.{blank_section}
use Rattle.parts.specs.declared.Tally.{Tally}
use Rattle.parts.specs.declared.Tallies.{Tallies}
use Rattle.parts.specs.declared.Part.{Part}
use Rattle.parts.specs.declared.Parts.{Parts}
use Rattle.section_kind.specs.declared.SectionKind.TheVariants.{Text, Data, Bss, Loader, Tdata, Tbss}
use Rattle.refusal.specs.Verdict.{Verdict}

-- the flag of the kind of the section with index i
abbrev pub flag_at : List Section → ℕ → ℕ
flag_at sections i = flags_of (get_or sections i blank_section).kind

-- how many of the first n sections are of a kind, and the number of the last of them
unfoldable pub tally : List Section → ℕ → ℕ → Tally
tally sections flag zero = record { count = 0; last = 0 }
tally sections flag (suc i) =
    cond (eqb (flag_at sections i) flag) (record { count = (tally sections flag i).count + 1; last = i + 1 }) (tally sections flag i)

abbrev pub tally_of : Summary → ℕ → Tally
tally_of y flag = tally y.sections flag y.count

-- of each kind that a module has one of
unfoldable pub tallies_of : Summary → Tallies
tallies_of y = record { text = tally_of y (flags_of Text); «data» = tally_of y (flags_of Data); bss = tally_of y (flags_of Bss); loader = tally_of y (flags_of Loader) }

-- exactly one each of text, data, bss and loader
unfoldable pub one_each : Tallies → Bool
one_each t = eqb t.text.count 1 && eqb t.«data».count 1 && eqb t.bss.count 1 && eqb t.loader.count 1

-- what a module needs of the section with number n
unfoldable pub part_at : List Section → ℕ → Part
part_at sections n =
    let s = get_or sections (n - 1) blank_section in
    record { number = record { 0 = n }; address = s.vaddr; size = s.size; start = s.scnptr; raw = s.raw }

-- the sections of a module, by kind
unfoldable pub parts_of : Summary → Parts
parts_of y =
    record {
      text = part_at y.sections (tally_of y (flags_of Text)).last;
      «data» = part_at y.sections (tally_of y (flags_of Data)).last;
      bss = part_at y.sections (tally_of y (flags_of Bss)).last;
      loader = part_at y.sections (tally_of y (flags_of Loader)).last;
    }

-- THREAD: a tdata or tbss section
unfoldable pub thread_at : List Section → ℕ → Verdict
thread_at sections i =
    refuse_if (eqb (flag_at sections i) (flags_of Tdata) || eqb (flag_at sections i) (flags_of Tbss)) (Thread (ThreadSection (record { 0 = i + 1 })))

-- the lowest-numbered one
unfoldable pub thread_check : Summary → Verdict
thread_check y = first_of (thread_at y.sections) 0 y.count
