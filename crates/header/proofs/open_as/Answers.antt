use mathlib.Core.Path.{◌∙◌, ap}
use Rattle.refusal.proofs.Order.{told, told-accepted}
use Rattle.header.specs.declared.Opened.{Opened}
use Rattle.header.specs.Open.{blank_summary}
use Rattle.file_header.proofs.Checked.{header-in, header-complete}
use Rattle.header.proofs.Answer.{as-header, as-sections, as-symbols, scanned, scanned-sections}
use Rattle.header.proofs.open_as.Goals as goal
use Rattle.refusal.specs.Verdict.{Verdict}

abbrev blank : Verdict → Opened
blank v = record { verdict = v; summary = blank_summary }

pub returns-then-is_err : goal.returns-then-is_err
returns-then-is_err c = let a = c.args in c.refuse.ensures ∙ ap blank c.check_header-v.ensures ∙ as-header a.f a.file.now (told c.check_header-v.ensures c.is_err.ensures.value c.if-is_err.true)

pub read_header-h-requires : goal.read_header-h-requires
read_header-h-requires c = let a = c.args in header-in a.f a.file.now (told-accepted c.check_header-v.ensures c.is_err.ensures.value c.if-is_err.false)

pub scan_sections-scan-requires : goal.scan_sections-scan-requires
scan_sections-scan-requires c = let a = c.args in (rw c.read_header-h.ensures.value (header-complete a.f a.file.now (told-accepted c.check_header-v.ensures c.is_err.ensures.value c.if-is_err.false)), c.read_header-h.ensures.bound)

pub returns-then-is_err-2 : goal.returns-then-is_err-2
returns-then-is_err-2 c = let a = c.args in let v = scanned a.f a.file.now c.read_header-h.ensures.value c.scan_sections-scan.ensures in c.refuse-then-is_err-2.ensures ∙ ap blank v ∙ as-sections a.f a.file.now (told c.check_header-v.ensures c.is_err.ensures.value c.if-is_err.false) (told v c.is_err-2.ensures.value c.if-is_err-2.true)

pub returns : goal.returns
returns c = let a = c.args in let h = c.read_header-h.ensures.value in let k = c.scan_sections-scan.ensures in let n = told (scanned a.f a.file.now h k) c.is_err-2.ensures.value c.if-is_err-2.false in c.open_symbols.ensures ∙ rw (scanned-sections a.f a.file.now h k n, h) (as-symbols a.f a.file.now (told c.check_header-v.ensures c.is_err.ensures.value c.if-is_err.false) n)
