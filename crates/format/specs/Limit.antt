-- The limits of the documents: what is above one is refused.
use Rattle.std.specs.Prelude.{ℕ}

-- LIMIT 0: the file's bytes
abbrev pub file_limit : ℕ
file_limit = 16777216

-- LIMIT 1: sections
abbrev pub section_limit : ℕ
section_limit = 32

-- LIMIT 2: loader symbols
abbrev pub loader_symbol_limit : ℕ
loader_symbol_limit = 70000

-- LIMIT 2: addresses in a plan sheet's list
abbrev pub sheet_list_limit : ℕ
sheet_list_limit = 70000

-- LIMIT 2: the same, of a sheet in the old form
abbrev pub old_sheet_list_limit : ℕ
old_sheet_list_limit = 4096

-- LIMIT 3: relocation entries
abbrev pub relocation_limit : ℕ
relocation_limit = 100000

-- LIMIT 4: the data image's bytes
abbrev pub data_image_limit : ℕ
data_image_limit = 16777216
