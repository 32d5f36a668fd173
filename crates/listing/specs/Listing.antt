-- The text that the header lister writes, in bytes.
use Rattle.std.specs.Prelude.{ℕ, suc, ◌≤◌, ◌≡◌, List, [], ◌∷◌, ◌++◌, length, take}
use Rattle.format.specs.declared.Format.{Format}
use Rattle.format.specs.declared.Format.TheVariants.{Xcoff32, Xcoff64}
use Rattle.section_kind.specs.Kind.{kind_word}
use Rattle.refusal.specs.declared.Head.{Head}
use Rattle.offset.specs.Report.{refusal_head}
use Rattle.section.specs.declared.Section.{Section}
use Rattle.header.specs.declared.Summary.{Summary}
use Rattle.header.specs.Open.{open_of}
use Rattle.text.specs.Text.{decimal, hex}
use Rattle.refusal.specs.Order.{by_verdict}

abbrev pub blank : List ℕ
blank = 32 ∷ []

abbrev pub newline : List ℕ
newline = 10 ∷ []

-- XCOFF32 and XCOFF64
abbrev pub format_word : Format → List ℕ
format_word Xcoff32 = 88 ∷ 67 ∷ 79 ∷ 70 ∷ 70 ∷ 51 ∷ 50 ∷ []
format_word Xcoff64 = 88 ∷ 67 ∷ 79 ∷ 70 ∷ 70 ∷ 54 ∷ 52 ∷ []

-- the digits of an address
abbrev pub address_digits : Format → ℕ
address_digits Xcoff32 = 8
address_digits Xcoff64 = 16

-- refused
abbrev pub refused_word : List ℕ
refused_word = 114 ∷ 101 ∷ 102 ∷ 117 ∷ 115 ∷ 101 ∷ 100 ∷ []

-- format, sections, symbol entries
unfoldable pub file_line : Format → ℕ → ℕ → List ℕ
file_line f sections symbols = format_word f ++ blank ++ decimal sections ++ blank ++ decimal symbols ++ newline

-- number, kind, `s_paddr`, size
unfoldable pub section_line : Format → ℕ → Section → List ℕ
section_line f n s =
    decimal n ++ blank
    ++ kind_word s.kind ++ blank
    ++ hex (address_digits f) s.paddr.0 ++ blank
    ++ decimal s.size ++ newline

-- a line for each section, from number n on
unfoldable pub section_lines : Format → ℕ → List Section → List ℕ
section_lines f n [] = []
section_lines f n (s ∷ t) = section_line f n s ++ section_lines f (suc n) t

-- number, item and offset
unfoldable pub refusal_line : Head → List ℕ
refusal_line h = refused_word ++ blank ++ decimal h.number ++ blank ++ decimal h.item ++ blank ++ decimal h.offset ++ newline

unfoldable pub summary_text : Summary → List ℕ
summary_text y = file_line y.format y.count y.symbols.count ++ section_lines y.format 1 (take y.count y.sections)

-- the text for a file
unfoldable pub listing : List ℕ → List ℕ
listing file = by_verdict (open_of file).verdict (summary_text (open_of file).summary) (λ x. refusal_line (refusal_head file x))

-- n counts bytes at the start of bs: the two forms in which lending them asks it
abbrev pub Counts : ℕ → List ℕ → Type 0
Counts n bs = (n ≤ length bs) × (n ≡ length (take n bs))
