use mathlib.Core.Path.{◌∙◌, sym}
use lib.ListN.{length}
use Rattle.refusal.proofs.Order.{stop, go_on, told, told-accepted}
use Rattle.object.specs.Check.{object_in, sections_check, tables_check}
use Rattle.object.proofs.Sections.{ready-inside}
use Rattle.object.proofs.check_object.Goals as goal
use Rattle.refusal.proofs.Order.{handed}
use mathlib.Core.Path.{refl}

pub check_sections-requires : goal.check_sections-requires
check_sections-requires c = let a = c.args in (ready-inside a.file.now a.y a.t c.requires).few

pub returns-in_err-check_sections : goal.returns-in_err-check_sections
unfolding object_in
returns-in_err-check_sections c = rw (handed c.from_residual.ensures) (let a = c.args in c.in_err-check_sections.ensures ∙ sym (stop _ (tables_check a.file.now a.y) (told c.in_err-check_sections.ensures refl refl)))

pub check_tables-requires : goal.check_tables-requires
check_tables-requires c = record { opened = c.requires; sections = told-accepted c.in_ok-check_sections.ensures refl refl }

pub returns : goal.returns
unfolding object_in
returns c = let a = c.args in c.check_tables.ensures ∙ sym (go_on (sections_check (length a.file.now) a.y) (tables_check a.file.now a.y) (told c.in_ok-check_sections.ensures refl refl))
