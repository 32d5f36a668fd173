-- The two formats: their magic numbers, where their headers keep each number, and the end of their address spaces.
use Rattle.std.specs.Prelude.{ℕ, ◌^◌, cond, eqb, None, Option, Some}
use Rattle.word.specs.declared.Field.{Field}
use Rattle.word.specs.declared.Width.TheVariants.{One, Two, Four, Eight}
use Rattle.word.specs.Number.{field}
use Rattle.format.specs.declared.Format.{Format}
use Rattle.format.specs.declared.Format.TheVariants.{Xcoff32, Xcoff64}
use Rattle.format.specs.declared.HeaderLayout.{HeaderLayout}
use Rattle.format.specs.declared.SectionLayout.{SectionLayout}
use Rattle.format.specs.declared.AuxLayout.{AuxLayout}
use Rattle.format.specs.declared.AuxNumbers.{AuxNumbers}
use Rattle.format.specs.declared.SymbolLayout.{SymbolLayout}
use Rattle.format.specs.declared.LoaderLayout.{LoaderLayout}
use Rattle.format.specs.declared.RelocationLayout.{RelocationLayout}

-- the magic number stands at the same place in both formats
abbrev pub magic_field : Field
magic_field = field 0 Two

unfoldable pub format_of : ℕ → Option Format
format_of magic = cond (eqb magic 0x01DF) (Some Xcoff32) (cond (eqb magic 0x01F7) (Some Xcoff64) None)

-- the file header
abbrev pub header_layout : Format → HeaderLayout
header_layout Xcoff32 =
    record {
      nscns = field 2 Two;
      symptr = field 8 Four;
      nsyms = field 12 Four;
      opthdr = field 16 Two;
      flags = field 18 Two;
      length = 20;
    }
header_layout Xcoff64 =
    record {
      nscns = field 2 Two;
      symptr = field 8 Eight;
      nsyms = field 20 Four;
      opthdr = field 16 Two;
      flags = field 18 Two;
      length = 24;
    }

-- a section header
abbrev pub section_layout : Format → SectionLayout
section_layout Xcoff32 =
    record {
      name = field 0 Eight;
      paddr = field 8 Four;
      vaddr = field 12 Four;
      size = field 16 Four;
      scnptr = field 20 Four;
      relptr = field 24 Four;
      lnnoptr = field 28 Four;
      nreloc = field 32 Two;
      nlnno = field 34 Two;
      flags = field 36 Four;
      length = 40;
    }
section_layout Xcoff64 =
    record {
      name = field 0 Eight;
      paddr = field 8 Eight;
      vaddr = field 16 Eight;
      size = field 24 Eight;
      scnptr = field 32 Eight;
      relptr = field 40 Eight;
      lnnoptr = field 48 Eight;
      nreloc = field 56 Four;
      nlnno = field 60 Four;
      flags = field 64 Four;
      length = 72;
    }

-- the auxiliary header, which follows the file header: the fields that a module is judged by
abbrev pub aux_layout : Format → AuxLayout
aux_layout Xcoff32 =
    record {
      tsize = field 4 Four;
      dsize = field 8 Four;
      bsize = field 12 Four;
      entry = field 16 Four;
      tstart = field 20 Four;
      dstart = field 24 Four;
      toc = field 28 Four;
      length = 72;
    }
aux_layout Xcoff64 =
    record {
      tsize = field 56 Eight;
      dsize = field 64 Eight;
      bsize = field 72 Eight;
      entry = field 80 Eight;
      tstart = field 8 Eight;
      dstart = field 16 Eight;
      toc = field 24 Eight;
      length = 110;
    }

-- its section numbers, at the same places in both formats
abbrev pub aux_numbers : AuxNumbers
aux_numbers =
    record {
      snentry = field 32 Two;
      sntext = field 34 Two;
      sndata = field 36 Two;
      sntoc = field 38 Two;
      snloader = field 40 Two;
      snbss = field 42 Two;
    }

-- a symbol table entry
abbrev pub symbol_layout : Format → SymbolLayout
symbol_layout Xcoff32 =
    record {
      offset = field 4 Four;
      value = field 8 Four;
      scnum = field 12 Two;
      ntype = field 14 Two;
      sclass = field 16 One;
      numaux = field 17 One;
    }
symbol_layout Xcoff64 =
    record {
      offset = field 8 Four;
      value = field 0 Eight;
      scnum = field 12 Two;
      ntype = field 14 Two;
      sclass = field 16 One;
      numaux = field 17 One;
    }

-- in XCOFF32 alone its first 8 bytes are a short name, where their first word is not 0
abbrev pub short_name : Field
short_name = field 0 Eight

abbrev pub zeroes_field : Field
zeroes_field = field 0 Four

-- its length, in both formats
abbrev pub symbol_length : ℕ
symbol_length = 18

-- the loader header: where the two formats differ; its first five numbers stand at 0, 4, 8, 12 and 16, each 4 bytes
abbrev pub loader_layout : Format → LoaderLayout
loader_layout Xcoff32 = record { impoff = field 20 Four; stlen = field 24 Four; stoff = field 28 Four; length = 32 }
loader_layout Xcoff64 = record { impoff = field 24 Eight; stlen = field 20 Four; stoff = field 32 Eight; length = 56 }

-- a loader symbol's length, in both formats
abbrev pub loader_symbol_length : ℕ
loader_symbol_length = 24

-- a loader relocation entry; its type stands at 8 and its section at 10, each 2 bytes
abbrev pub relocation_layout : Format → RelocationLayout
relocation_layout Xcoff32 = record { address = field 0 Four; symbol = field 4 Four; length = 12 }
relocation_layout Xcoff64 = record { address = field 0 Eight; symbol = field 12 Four; length = 16 }

-- the end of the address space
abbrev pub address_limit : Format → ℕ
address_limit Xcoff32 = 2 ^ 32
address_limit Xcoff64 = 2 ^ 64

-- how many bits an address has
abbrev pub bits_of : Format → ℕ
bits_of Xcoff32 = 32
bits_of Xcoff64 = 64
