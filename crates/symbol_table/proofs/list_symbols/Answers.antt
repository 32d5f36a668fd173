use mathlib.Core.Path.{ap, ◌∙◌}
use native.Mathlib.Omega.{arith}
use Rattle.symbol.proofs.Opened.{tables-inside}
use Rattle.walk.proofs.Steps.{visited-few, walk-visited}
use Rattle.symbol_table.proofs.Visits.{listed, not_listed, room-known}
use Rattle.symbol_table.proofs.list_symbols.Goals as goal
use Rattle.refusal.proofs.Order.{handed}
use mathlib.Core.Path.{refl}

pub walk_tables-w-requires : goal.walk_tables-w-requires
walk_tables-w-requires c = c.requires

pub overflow_mul-w : goal.overflow_mul-w
overflow_mul-w c = let a = c.args in let t = tables-inside a.file.now a.t c.requires in omega (arith, t.symbols, t.small, visited-few a.file.now a.t, ap (λ w. w.visited) c.walk_tables-w.ensures ∙ walk-visited a.file.now a.t)

pub write_symbols-requires : goal.write_symbols-requires
write_symbols-requires c = let a = c.args in (c.requires, room-known a.file.now a.t a.out.now c.walk_tables-w.ensures c.in_ok-check_room.ensures refl)

pub returns-in_err-check_room : goal.returns-in_err-check_room
returns-in_err-check_room c = rw (handed c.from_residual.ensures) (let a = c.args in let told = not_listed a.file.now a.t a.out.now c.walk_tables-w.ensures c.in_err-check_room.ensures refl in record { answer = told.0; rows = told.1 })

pub returns : goal.returns
returns c = let a = c.args in let told = listed a.file.now a.t a.out.now c.walk_tables-w.ensures c.in_ok-check_room.ensures refl c.write_symbols.ensures in record { answer = told.0; rows = told.1 }
