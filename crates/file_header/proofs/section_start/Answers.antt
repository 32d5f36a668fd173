use native.Mathlib.Omega.{arith}
use Rattle.format.proofs.Layouts.{header-short}
use Rattle.file_header.proofs.Fields.{headers-short}
use Rattle.file_header.specs.Header.{section_start}
use Rattle.file_header.proofs.section_start.Goals as goal

pub overflow_add-result : goal.overflow_add-result
overflow_add-result c = let a = c.args in rw c.header_layout-h.ensures (omega (arith, header-short a.f))

pub overflow_mul-result : goal.overflow_mul-result
overflow_mul-result c = let a = c.args in rw c.section_layout-s.ensures (omega (arith, headers-short a.f a.i c.requires.1))

pub overflow_add-result-2 : goal.overflow_add-result-2
overflow_add-result-2 c = let a = c.args in rw (c.header_layout-h.ensures, c.section_layout-s.ensures) (omega (arith, header-short a.f, headers-short a.f a.i c.requires.1))

pub returns : goal.returns
unfolding section_start
returns c = rw (c.header_layout-h.ensures, c.section_layout-s.ensures)
