-- Each arm writes the word that the definition gives its kind.
use native.Mathlib.Omega.{arith}
use Rattle.section_kind.proofs.SectionKind.put_word.Goals as goal

pub returns-in-Pad : goal.returns-in-Pad
returns-in-Pad c = let e = c.put_bytes.ensures in rw c.in-Pad.is record { next = e.next; text = e.text; short = omega arith }

pub returns-in-Dwarf : goal.returns-in-Dwarf
returns-in-Dwarf c = let e = c.put_bytes-in-Dwarf.ensures in rw c.in-Dwarf.is record { next = e.next; text = e.text; short = omega arith }

pub returns-in-Text : goal.returns-in-Text
returns-in-Text c = let e = c.put_bytes-in-Text.ensures in rw c.in-Text.is record { next = e.next; text = e.text; short = omega arith }

pub returns-in-Data : goal.returns-in-Data
returns-in-Data c = let e = c.put_bytes-in-Data.ensures in rw c.in-Data.is record { next = e.next; text = e.text; short = omega arith }

pub returns-in-Bss : goal.returns-in-Bss
returns-in-Bss c = let e = c.put_bytes-in-Bss.ensures in rw c.in-Bss.is record { next = e.next; text = e.text; short = omega arith }

pub returns-in-Except : goal.returns-in-Except
returns-in-Except c = let e = c.put_bytes-in-Except.ensures in rw c.in-Except.is record { next = e.next; text = e.text; short = omega arith }

pub returns-in-Info : goal.returns-in-Info
returns-in-Info c = let e = c.put_bytes-in-Info.ensures in rw c.in-Info.is record { next = e.next; text = e.text; short = omega arith }

pub returns-in-Tdata : goal.returns-in-Tdata
returns-in-Tdata c = let e = c.put_bytes-in-Tdata.ensures in rw c.in-Tdata.is record { next = e.next; text = e.text; short = omega arith }

pub returns-in-Tbss : goal.returns-in-Tbss
returns-in-Tbss c = let e = c.put_bytes-in-Tbss.ensures in rw c.in-Tbss.is record { next = e.next; text = e.text; short = omega arith }

pub returns-in-Loader : goal.returns-in-Loader
returns-in-Loader c = let e = c.put_bytes-in-Loader.ensures in rw c.in-Loader.is record { next = e.next; text = e.text; short = omega arith }

pub returns-in-Debug : goal.returns-in-Debug
returns-in-Debug c = let e = c.put_bytes-in-Debug.ensures in rw c.in-Debug.is record { next = e.next; text = e.text; short = omega arith }

pub returns-in-Typchk : goal.returns-in-Typchk
returns-in-Typchk c = let e = c.put_bytes-in-Typchk.ensures in rw c.in-Typchk.is record { next = e.next; text = e.text; short = omega arith }

pub returns-in-Ovrflo : goal.returns-in-Ovrflo
returns-in-Ovrflo c = let e = c.put_bytes-in-Ovrflo.ensures in rw c.in-Ovrflo.is record { next = e.next; text = e.text; short = omega arith }

pub returns-in-Deleted : goal.returns-in-Deleted
returns-in-Deleted c = let e = c.put_bytes-in-Deleted.ensures in rw c.in-Deleted.is record { next = e.next; text = e.text; short = omega arith }
