-- The answer of opening, by the checks that were made. Assumes nothing.
use mathlib.Core.Path.{◌≡◌, refl}
use mathlib.Core.Bool.{true, false}
use mathlib.Core.List.{List}
use Prim.Native.Nat.{ℕ, ◌<◌, ◌≤◌}
use lib.ListN.{length}
use borrow.Author.Tests.{lt-ltb, le-ltb}
use Rattle.word.specs.Number.{field_in}
use Rattle.format.specs.Layout.{magic_field, format_of}
use Rattle.format.specs.Limit.{file_limit}
use Rattle.refusal.specs.declared.Refusal.TheVariants.{Short, Magic, Limit}
use Rattle.refusal.specs.declared.LimitItem.TheVariants.{File}
use Rattle.format.specs.declared.Format.{Format}
use Rattle.refusal.specs.Refusal.{is_refused}
use Rattle.refusal.specs.Order.{by_verdict}
use Rattle.refusal.proofs.Order.{accepts, go_on, stop}
use Rattle.section.specs.declared.Section.{Section}
use Rattle.file_header.specs.declared.FileHeader.{FileHeader}
use Rattle.file_tables.specs.declared.Scan.{Scan}
use Rattle.header.specs.declared.Summary.{Summary}
use Rattle.file_header.specs.Header.{header_at, header_check}
use Rattle.file_tables.specs.Tables.{sections_check, sections_of, refused_scan, scan_of, symbols_check}
use Rattle.header.specs.Open.{blank_summary, summary_with, format_check, open_check, refused_by, accepted_with, summary_as, open_of}
use Rattle.std.specs.Prelude.{Err, None, Ok, Some}
use Rattle.refusal.specs.Verdict.{Verdict}

pub opened-refused : (v : Verdict) (y : Summary) → is_refused v ≡ true → record { verdict = v; summary = blank_summary } ≡ by_verdict v (accepted_with y) refused_by
opened-refused (Ok tt) y e = cc
opened-refused (Err x) y e = refl

pub opened-accepted : (v : Verdict) (y : Summary) → is_refused v ≡ false → accepted_with y ≡ by_verdict v (accepted_with y) refused_by
opened-accepted (Ok tt) y e = refl
opened-accepted (Err x) y e = cc

-- the two parts of a scan
scan-by : (v : Verdict) (t : List Section) → (by_verdict v (record { verdict = Ok tt; sections = t }) refused_scan).verdict ≡ v
unfolding refused_scan
scan-by (Ok tt) t = refl
scan-by (Err x) t = refl

scan-verdict : (file : List ℕ) (h : FileHeader) → (scan_of file h).verdict ≡ sections_check file h
unfolding scan_of
scan-verdict file h = scan-by (sections_check file h) (sections_of file h h.nscns)

scan-sections : (file : List ℕ) (h : FileHeader) → is_refused (sections_check file h) ≡ false → (scan_of file h).sections ≡ sections_of file h h.nscns
unfolding scan_of
scan-sections file h e = rw (accepts (sections_check file h) e) refl

-- the same of a scan that was made with a header that was read
module _ (f : Format) (file : List ℕ) {h : FileHeader} {r : Scan} (e : h ≡ header_at f file) (k : r ≡ scan_of file h) where
  pub scanned : r.verdict ≡ sections_check file (header_at f file)
  scanned = rw (k, e) (scan-verdict file (header_at f file))

  pub scanned-sections : is_refused (sections_check file (header_at f file)) ≡ false → r.sections ≡ sections_of file (header_at f file) (header_at f file).nscns
  scanned-sections n = rw (k, e) (scan-sections file (header_at f file) n)

-- the three checks in their order
module _ (f : Format) (file : List ℕ) where
  pub as-header : is_refused (header_check f file) ≡ true → record { verdict = header_check f file; summary = blank_summary } ≡ by_verdict (format_check f file) (accepted_with (summary_as f file)) refused_by
  unfolding format_check
  as-header e = rw (stop (header_check f file) _ e) (opened-refused (header_check f file) _ e)

  pub as-sections : is_refused (header_check f file) ≡ false → is_refused (sections_check file (header_at f file)) ≡ true → record { verdict = sections_check file (header_at f file); summary = blank_summary } ≡ by_verdict (format_check f file) (accepted_with (summary_as f file)) refused_by
  unfolding format_check
  as-sections e k =
      rw (go_on (header_check f file) _ e, stop (sections_check file (header_at f file)) _ k) (opened-refused (sections_check file (header_at f file)) _ k)

  pub as-symbols : is_refused (header_check f file) ≡ false → is_refused (sections_check file (header_at f file)) ≡ false → by_verdict (symbols_check file (header_at f file)) (accepted_with (summary_with file (header_at f file) (sections_of file (header_at f file) (header_at f file).nscns))) refused_by ≡ by_verdict (format_check f file) (accepted_with (summary_as f file)) refused_by
  unfolding format_check summary_as
  as-symbols e k = rw (go_on (header_check f file) _ e, go_on (sections_check file (header_at f file)) _ k)

-- the tests before the format is known
module _ (file : List ℕ) where
  pub open-large : file_limit < length file → refused_by (Limit File) ≡ open_of file
  unfolding open_of open_check
  open-large h = rw (lt-ltb file_limit (length file) h)

  module _ (h : length file ≤ file_limit) where
    pub open-short : length file < 2 → refused_by Short ≡ open_of file
    unfolding open_of open_check
    open-short k = rw (le-ltb file_limit (length file) h, lt-ltb (length file) 2 k)

    module _ (k : 2 ≤ length file) where
      pub open_unknown : format_of (field_in magic_field 0 file) ≡ None → refused_by Magic ≡ open_of file
      unfolding open_of open_check
      open_unknown e = rw (le-ltb file_limit (length file) h, le-ltb (length file) 2 k, e)

      pub open-known : (f : Format) → format_of (field_in magic_field 0 file) ≡ Some f → by_verdict (format_check f file) (accepted_with (summary_as f file)) refused_by ≡ open_of file
      unfolding open_of open_check
      open-known f e = rw (le-ltb file_limit (length file) h, le-ltb (length file) 2 k, e)
