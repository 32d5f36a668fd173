-- A file of 64 bytes with one symbol that four checks refuse: computed from the definitions, so the theorems are about something. Assumes nothing.
use mathlib.Core.Path.{◌≡◌, refl}
use mathlib.Core.List.{List, [], ◌∷◌, ◌++◌}
use Prim.Native.Nat.{ℕ}
use Rattle.mend.specs.Report.{report_bytes}
use Rattle.salvage.specs.Salvage.{changes, salvaged}
use Rattle.salvage.specs.Answer.{salvageable}
use Rattle.word.specs.Number as x0
use Rattle.word.specs.Zero as x1
use Rattle.word.specs.Test as x2
use Rattle.word.specs.Signed as x3
use Rattle.update.specs.Update as x4
use Rattle.section_kind.specs.Kind as x5
use Rattle.format.specs.Layout as x6
use Rattle.format.specs.Name as x7
use Rattle.format.specs.Range as x8
use Rattle.refusal.specs.Order as x9
use Rattle.section.specs.Section as x10
use Rattle.file_header.specs.Header as x11
use Rattle.file_tables.specs.Tables as x12
use Rattle.header.specs.Open as x13
use Rattle.debug_section.specs.Debug as x14
use Rattle.visibility.specs.Visibility as x15
use Rattle.symbol.specs.Entry as x16
use Rattle.symbol.specs.Name as x17
use Rattle.symbol.specs.Symbol as x18
use Rattle.shared_range.specs.Shared as x19
use Rattle.shared_symbols.specs.Shared as x20
use Rattle.mend.specs.Mend as x21
use Rattle.mend.specs.Report as x22
use Rattle.salvage.specs.Salvage as x23
use Rattle.salvage.specs.Answer as x24
use Rattle.std.specs.Prelude.{Ok}

unfoldable pub damaged : List ℕ
damaged =
    (1 ∷ 223 ∷ 0 ∷ 0 ∷ 0 ∷ 0 ∷ 0 ∷ 0 ∷ 0 ∷ 0 ∷ 0 ∷ 24 ∷ 0 ∷ 0 ∷ 0 ∷ 2 ∷ 0 ∷ 4 ∷ 0 ∷ 0 ∷ [])
    ++ (0 ∷ 0 ∷ 0 ∷ 2 ∷ [])
    ++ (0 ∷ 0 ∷ 0 ∷ 0 ∷ 0 ∷ 0 ∷ 0 ∷ 9 ∷ 0 ∷ 0 ∷ 0 ∷ 7 ∷ 0 ∷ 5 ∷ 209 ∷ 35 ∷ 2 ∷ 7 ∷ [])
    ++ (1 ∷ 2 ∷ 3 ∷ 4 ∷ 5 ∷ 6 ∷ 7 ∷ 8 ∷ 9 ∷ 10 ∷ 11 ∷ 12 ∷ 13 ∷ 14 ∷ 15 ∷ 16 ∷ 17 ∷ 18 ∷ [])
    ++ (0 ∷ 0 ∷ 0 ∷ 4 ∷ [])

-- name, section, visibility and auxiliaries are set; one auxiliary is left, and bit 8000 of the type stays
unfoldable pub restored : List ℕ
restored =
    (1 ∷ 223 ∷ 0 ∷ 0 ∷ 0 ∷ 0 ∷ 0 ∷ 0 ∷ 0 ∷ 0 ∷ 0 ∷ 24 ∷ 0 ∷ 0 ∷ 0 ∷ 2 ∷ 0 ∷ 4 ∷ 0 ∷ 0 ∷ [])
    ++ (0 ∷ 0 ∷ 0 ∷ 2 ∷ [])
    ++ (0 ∷ 0 ∷ 0 ∷ 0 ∷ 0 ∷ 0 ∷ 0 ∷ 0 ∷ 0 ∷ 0 ∷ 0 ∷ 7 ∷ 0 ∷ 0 ∷ 129 ∷ 35 ∷ 2 ∷ 1 ∷ [])
    ++ (1 ∷ 2 ∷ 3 ∷ 4 ∷ 5 ∷ 6 ∷ 7 ∷ 8 ∷ 9 ∷ 10 ∷ 11 ∷ 12 ∷ 13 ∷ 14 ∷ 15 ∷ 16 ∷ 17 ∷ 18 ∷ [])
    ++ (0 ∷ 0 ∷ 0 ∷ 4 ∷ [])

pub damaged-accepted : salvageable damaged ≡ Ok tt
unfolding damaged restored x0.value_of x0.field_at x1.first_zero x1.zeros_in x1.zero_end x2.past x3.signed16 x4.bytes_of_number x4.put_field x4.update x4.remainder x4.add_in x4.add_field x5.listed_kind x5.kind_of x6.format_of x7.name_field x8.text_in x9.first_of x10.section_header_at x10.has_raw_data x10.raw_data_past x10.misplaced x10.section_of x10.judge_kind x10.judge_section x11.header_at x11.section_start x11.header_check x12.blank_sections x12.judged_at x12.sections_check x12.sections_of x12.refused_scan x12.scan_of x12.symbols_end x12.strings_length x12.strings_check x12.symbols_check x12.symbol_table x13.blank_summary x13.summary_with x13.format_check x13.open_check x13.summary_as x13.open_of x14.is_debug x14.debug_ranges x14.debug_of x14.length_at x14.leaves x14.has_string x14.string_range x15.has_version2 x15.is_csect_class x15.is_claimed x15.is_unknown x15.visibility_of x16.entry_at x16.entry_of x17.string_room x17.debug_room x17.is_debug_class x17.room_by x17.has_name x18.section_in x18.is_section x18.index_check x18.aux_check x18.scnum_check x18.name_check x18.visibility_check x18.symbol_check x18.symbol_of x18.symbol_in x19.shares x19.shares_one x19.shares_two x20.is_shared x21.without_visibility x21.changes_by x21.changes_at x21.put x21.put_all x21.mended_entry x22.row_bytes x22.report_bytes x22.put_bytes x23.mended_from x23.changes_of x23.changes_in x23.salvaged x24.salvageable x24.room_check x24.salvage_check x24.count_answer x24.salvage_answer x24.copy_after x24.report_after
damaged-accepted = refl

pub damaged-restored : salvaged damaged ≡ restored
unfolding damaged restored x0.value_of x0.field_at x1.first_zero x1.zeros_in x1.zero_end x2.past x3.signed16 x4.bytes_of_number x4.put_field x4.update x4.remainder x4.add_in x4.add_field x5.listed_kind x5.kind_of x6.format_of x7.name_field x8.text_in x9.first_of x10.section_header_at x10.has_raw_data x10.raw_data_past x10.misplaced x10.section_of x10.judge_kind x10.judge_section x11.header_at x11.section_start x11.header_check x12.blank_sections x12.judged_at x12.sections_check x12.sections_of x12.refused_scan x12.scan_of x12.symbols_end x12.strings_length x12.strings_check x12.symbols_check x12.symbol_table x13.blank_summary x13.summary_with x13.format_check x13.open_check x13.summary_as x13.open_of x14.is_debug x14.debug_ranges x14.debug_of x14.length_at x14.leaves x14.has_string x14.string_range x15.has_version2 x15.is_csect_class x15.is_claimed x15.is_unknown x15.visibility_of x16.entry_at x16.entry_of x17.string_room x17.debug_room x17.is_debug_class x17.room_by x17.has_name x18.section_in x18.is_section x18.index_check x18.aux_check x18.scnum_check x18.name_check x18.visibility_check x18.symbol_check x18.symbol_of x18.symbol_in x19.shares x19.shares_one x19.shares_two x20.is_shared x21.without_visibility x21.changes_by x21.changes_at x21.put x21.put_all x21.mended_entry x22.row_bytes x22.report_bytes x22.put_bytes x23.mended_from x23.changes_of x23.changes_in x23.salvaged x24.salvageable x24.room_check x24.salvage_check x24.count_answer x24.salvage_answer x24.copy_after x24.report_after
damaged-restored = refl

pub damaged-reported : report_bytes (changes damaged) ≡ 0 ∷ 0 ∷ 0 ∷ 0 ∷ 0 ∷ 0 ∷ 0 ∷ 9 ∷ 0 ∷ 0 ∷ 0 ∷ 0 ∷ 0 ∷ 0 ∷ 0 ∷ 11 ∷ 0 ∷ 0 ∷ 0 ∷ 0 ∷ 0 ∷ 0 ∷ 0 ∷ 10 ∷ 0 ∷ 0 ∷ 0 ∷ 0 ∷ 0 ∷ 0 ∷ 0 ∷ 30 ∷ []
unfolding damaged restored x0.value_of x0.field_at x1.first_zero x1.zeros_in x1.zero_end x2.past x3.signed16 x4.bytes_of_number x4.put_field x4.update x4.remainder x4.add_in x4.add_field x5.listed_kind x5.kind_of x6.format_of x7.name_field x8.text_in x9.first_of x10.section_header_at x10.has_raw_data x10.raw_data_past x10.misplaced x10.section_of x10.judge_kind x10.judge_section x11.header_at x11.section_start x11.header_check x12.blank_sections x12.judged_at x12.sections_check x12.sections_of x12.refused_scan x12.scan_of x12.symbols_end x12.strings_length x12.strings_check x12.symbols_check x12.symbol_table x13.blank_summary x13.summary_with x13.format_check x13.open_check x13.summary_as x13.open_of x14.is_debug x14.debug_ranges x14.debug_of x14.length_at x14.leaves x14.has_string x14.string_range x15.has_version2 x15.is_csect_class x15.is_claimed x15.is_unknown x15.visibility_of x16.entry_at x16.entry_of x17.string_room x17.debug_room x17.is_debug_class x17.room_by x17.has_name x18.section_in x18.is_section x18.index_check x18.aux_check x18.scnum_check x18.name_check x18.visibility_check x18.symbol_check x18.symbol_of x18.symbol_in x19.shares x19.shares_one x19.shares_two x20.is_shared x21.without_visibility x21.changes_by x21.changes_at x21.put x21.put_all x21.mended_entry x22.row_bytes x22.report_bytes x22.put_bytes x23.mended_from x23.changes_of x23.changes_in x23.salvaged x24.salvageable x24.room_check x24.salvage_check x24.count_answer x24.salvage_answer x24.copy_after x24.report_after
damaged-reported = refl
