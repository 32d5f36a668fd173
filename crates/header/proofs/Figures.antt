-- The worked example of document 01's "Header lister", computed from the definitions. Assumes nothing.
use mathlib.Core.Path.{◌≡◌, refl}
use mathlib.Core.Bool.{true}
use mathlib.Core.List.{List, [], ◌∷◌, ◌++◌}
use Prim.Native.Nat.{ℕ}
use lib.ListN.{set, replicate}
use Rattle.word.specs.Number.{value_of, field_at}
use Rattle.word.specs.Test.{past}
use Rattle.format.specs.declared.Format.TheVariants.{Xcoff32}
use Rattle.section_kind.specs.declared.SectionKind.TheVariants.{Text}
use Rattle.section_kind.specs.Kind.{listed_kind, kind_of}
use Rattle.format.specs.Layout.{format_of}
use Rattle.refusal.specs.Order.{first_of}
use Rattle.section.specs.Section.{section_header_at, has_raw_data, raw_data_past, misplaced, section_of, judge_kind, judge_section}
use Rattle.file_header.specs.Header.{header_at, section_start, header_check}
use Rattle.file_tables.specs.Tables.{blank_sections, judged_at, sections_check, sections_of, symbols_check, table_at, symbol_table}
use Rattle.header.specs.Open.{summary_with, format_check, open_check, summary_as, open_of}
use Rattle.std.specs.Prelude.{Ok}

-- 64 bytes: the magic number, one section, zeros to byte 20; `.text` padded to 8, 10000000 twice, size 4, pointer 60, zeros, flags 20; four bytes
unfoldable pub example : List ℕ
example =
    (0x01 ∷ 0xDF ∷ 0 ∷ 1 ∷ [])
    ++ replicate 16 0
    ++ (0x2E ∷ 0x74 ∷ 0x65 ∷ 0x78 ∷ 0x74 ∷ 0 ∷ 0 ∷ 0 ∷ [])
    ++ (0x10 ∷ 0 ∷ 0 ∷ 0 ∷ 0x10 ∷ 0 ∷ 0 ∷ 0 ∷ [])
    ++ (0 ∷ 0 ∷ 0 ∷ 4 ∷ 0 ∷ 0 ∷ 0 ∷ 60 ∷ [])
    ++ replicate 12 0
    ++ (0 ∷ 0 ∷ 0 ∷ 0x20 ∷ [])
    ++ (1 ∷ 2 ∷ 3 ∷ 4 ∷ [])

pub example-opens : open_of example ≡ record {
  verdict = Ok tt;
  summary = record {
    format = Xcoff32;
    count = 1;
    sections = set blank_sections 0 (record {
      kind = Text;
      paddr = record { 0 = 0x10000000 };
      vaddr = record { 0 = 0x10000000 };
      size = 4;
      scnptr = record { 0 = 60 };
      relptr = record { 0 = 0 };
      lnnoptr = record { 0 = 0 };
      nreloc = 0;
      nlnno = 0;
      raw = true;
    });
    symbols = table_at 0 0 0 0;
    opthdr = 0;
    flags = 0;
  };
}
unfolding example value_of field_at past listed_kind kind_of format_of first_of section_header_at has_raw_data raw_data_past misplaced section_of judge_kind judge_section header_at section_start header_check blank_sections judged_at sections_check sections_of symbols_check symbol_table format_check summary_with open_check summary_as open_of
example-opens = refl
