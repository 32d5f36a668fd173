-- The worked example of document 01, "Header lister", computed. Assumes nothing.
use mathlib.Core.Path.{◌≡◌, refl}
use mathlib.Core.List.{List, [], ◌∷◌, ◌++◌}
use Prim.Native.Nat.{ℕ}
use lib.ListN.{replicate}
use Rattle.word.specs.Number.{value_of, field_at}
use Rattle.word.specs.Test.{past}
use Rattle.section_kind.specs.Kind.{listed_kind, kind_of}
use Rattle.format.specs.Layout.{format_of}
use Rattle.refusal.specs.Order.{first_of}
use Rattle.section.specs.Section.{section_header_at, has_raw_data, raw_data_past, misplaced, section_of, judge_kind, judge_section}
use Rattle.file_header.specs.Header.{header_at, section_start, header_check}
use Rattle.file_tables.specs.Tables.{blank_sections, judged_at, sections_check, sections_of, symbols_check, symbol_table}
use Rattle.header.specs.Open.{summary_with, format_check, open_check, summary_as, open_of}
use Rattle.text.specs.Text.{digit_of, digits, places_in, places, decimal, hex}
use Rattle.listing.specs.Listing.{file_line, section_line, section_lines, summary_text, listing}

-- 64 bytes, the last four of them any
abbrev pub example_file : ℕ → ℕ → ℕ → ℕ → List ℕ
example_file a b c d =
    (0x01 ∷ 0xDF ∷ 0x00 ∷ 0x01 ∷ []) ++ replicate 16 0
    ++ (0x2E ∷ 0x74 ∷ 0x65 ∷ 0x78 ∷ 0x74 ∷ 0 ∷ 0 ∷ 0 ∷ [])
    ++ (0x10 ∷ 0 ∷ 0 ∷ 0 ∷ 0x10 ∷ 0 ∷ 0 ∷ 0 ∷ [])
    ++ (0 ∷ 0 ∷ 0 ∷ 4 ∷ 0 ∷ 0 ∷ 0 ∷ 60 ∷ []) ++ replicate 12 0
    ++ (0 ∷ 0 ∷ 0 ∷ 0x20 ∷ a ∷ b ∷ c ∷ d ∷ [])

-- `XCOFF32 1 0` and `1 text 10000000 4`, each with a newline
abbrev pub example_text : List ℕ
example_text =
    (88 ∷ 67 ∷ 79 ∷ 70 ∷ 70 ∷ 51 ∷ 50 ∷ 32 ∷ 49 ∷ 32 ∷ 48 ∷ 10 ∷ [])
    ++ (49 ∷ 32 ∷ 116 ∷ 101 ∷ 120 ∷ 116 ∷ 32 ∷ 49 ∷ 48 ∷ 48 ∷ 48 ∷ 48 ∷ 48 ∷ 48 ∷ 48 ∷ 32 ∷ 52 ∷ 10 ∷ [])

pub example-listed : (a b c d : ℕ) → listing (example_file a b c d) ≡ example_text
unfolding value_of field_at past listed_kind kind_of format_of first_of section_header_at has_raw_data raw_data_past misplaced section_of judge_kind judge_section header_at section_start header_check blank_sections judged_at sections_check sections_of symbols_check symbol_table summary_with format_check open_check summary_as open_of digit_of digits places_in places decimal hex file_line section_line section_lines summary_text listing
example-listed a b c d = refl
