use Rattle.word.proofs.Test.{found}
use Rattle.module.proofs.Extent.{aux-in}
use Rattle.module.specs.Module.{aux_of}
use Rattle.parts.specs.Sections.{thread_check}
use Rattle.module_layout.proofs.join_parts.Goals as goal
use Rattle.refusal.proofs.Order.{handed}
use mathlib.Core.Path.{refl}

pub returns-in_err-check_thread : goal.returns-in_err-check_thread
unfolding thread_check
returns-in_err-check_thread c = rw (handed c.from_residual.ensures) (rw (found c.in_err-check_thread.ensures refl))

pub read_aux-a-requires : goal.read_aux-a-requires
read_aux-a-requires c = rw c.header_layout-l.ensures (aux-in c.args.file.now c.args.y c.requires.0 c.requires.1)

pub module_with-requires : goal.module_with-requires
module_with-requires c = found c.in_ok-check_parts.ensures refl

pub returns-in_err-check_parts : goal.returns-in_err-check_parts
unfolding thread_check aux_of
returns-in_err-check_parts c = rw (handed c.from_residual-in_err-check_parts.ensures) (rw (found c.in_ok-check_thread.ensures refl, found (rw (c.find_parts-p.ensures, c.read_aux-a.ensures, c.header_layout-l.ensures) at c.in_err-check_parts.ensures) refl))

pub returns : goal.returns
unfolding thread_check aux_of
returns c = rw (found c.in_ok-check_thread.ensures refl, found (rw (c.find_parts-p.ensures, c.read_aux-a.ensures, c.header_layout-l.ensures) at c.in_ok-check_parts.ensures) refl, c.module_with.ensures, c.find_parts-p.ensures, c.read_aux-a.ensures, c.header_layout-l.ensures)
