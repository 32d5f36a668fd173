use mathlib.Core.Path.{◌∙◌}
use native.Mathlib.Omega.{arith}
use Rattle.import_table.specs.Imports.{imports}
use Rattle.module_table.proofs.Tables.{listed, not_listed, room-known}
use Rattle.import_table.proofs.Imports.{ids-few, import-rows, strings-there}
use Rattle.import_table.proofs.list_imports.Goals as goal
use Rattle.refusal.proofs.Order.{handed}
use mathlib.Core.Path.{refl}

pub overflow_mul-t : goal.overflow_mul-t
overflow_mul-t c = omega (arith, ids-few c.args.file.now c.args.l c.requires)

pub returns-in_err-check_room : goal.returns-in_err-check_room
returns-in_err-check_room c = rw (handed c.from_residual.ensures) (let a = c.args in let told = not_listed imports a.file.now a.out.now a.l c.in_err-check_room.ensures refl in record { answer = told.0; rows = told.1 })

pub overflow_mul-t-2 : goal.overflow_mul-t-2
overflow_mul-t-2 c = omega (arith, ids-few c.args.file.now c.args.l c.requires)

pub write_strings-requires : goal.write_strings-requires
write_strings-requires c = let a = c.args in let room = room-known imports a.file.now a.out.now a.l c.in_ok-check_room.ensures refl in (strings-there a.file.now a.l c.requires, omega (arith, room))

pub returns : goal.returns
returns c = let a = c.args in let told = listed imports a.file.now a.out.now a.l c.in_ok-check_room.ensures refl (c.write_strings.ensures ∙ import-rows a.file.now a.l c.requires) in record { answer = told.0; rows = told.1 }
