-- The file header, and the checks before any section is looked at.
use Rattle.std.specs.Prelude.{ℕ, ◌+◌, ◌*◌, ◌≤◌, ◌<◌, List, ltb, length}
use Rattle.word.specs.Number.{field_in}
use Rattle.format.specs.declared.Format.{Format}
use Rattle.format.specs.Layout.{header_layout, section_layout}
use Rattle.format.specs.Limit.{section_limit}
use Rattle.refusal.specs.declared.Refusal.TheVariants.{Short, Limit}
use Rattle.refusal.specs.declared.LimitItem.TheVariants.{Sections}
use Rattle.refusal.specs.Order.{◌or_else◌, refuse_if}
use Rattle.file_header.specs.declared.FileHeader.{FileHeader}
use Rattle.refusal.specs.Verdict.{Verdict}

-- the numbers of the file header
unfoldable pub header_at : Format → List ℕ → FileHeader
header_at f file =
    record {
      format = f;
      nscns = field_in (header_layout f).nscns 0 file;
      symptr = record { 0 = field_in (header_layout f).symptr 0 file };
      nsyms = field_in (header_layout f).nsyms 0 file;
      opthdr = field_in (header_layout f).opthdr 0 file;
      flags = field_in (header_layout f).flags 0 file;
    }

-- where the header of section i + 1 starts: after the file header, the auxiliary header and i section headers
unfoldable pub section_start : Format → ℕ → ℕ → ℕ
section_start f opthdr i = (header_layout f).length + opthdr + i * (section_layout f).length

-- SHORT, LIMIT 1, SHORT
unfoldable pub header_check : Format → List ℕ → Verdict
header_check f file =
    refuse_if (ltb (length file) (header_layout f).length) Short
    or_else refuse_if (ltb section_limit (header_at f file).nscns) (Limit Sections)
    or_else refuse_if (ltb (length file) (section_start f (header_at f file).opthdr (header_at f file).nscns)) Short

-- each number fits its field
pub record Bounded (h : FileHeader) : Type 0 where
  pub nscns : h.nscns < 65536
  pub opthdr : h.opthdr < 65536
  pub nsyms : h.nsyms < 4294967296

-- what is known once they are passed: the section headers, at most 32, are in the file
pub record HeaderComplete (file : List ℕ) (h : FileHeader) : Type 0 where
  pub few : h.nscns ≤ section_limit
  pub inside : section_start h.format h.opthdr h.nscns ≤ length file
