use Rattle.symbol.proofs.Names.{room-in-file}
use Rattle.symbol.proofs.Checks.{symbol-known, name-accepted}
use Rattle.word.proofs.Test.{found}
use Rattle.symbol_lookup.specs.Lookup.{name_behind}
use Rattle.symbol_lookup.proofs.Lookup.{found_within}
use Rattle.symbol_lookup.proofs.name_in.Goals as goal
use Rattle.refusal.proofs.Order.{handed}
use mathlib.Core.Path.{refl}

pub entry_in-e-requires : goal.entry_in-e-requires
entry_in-e-requires c = (c.requires, symbol-known c.args.file.now c.args.t c.args.i (found c.in_ok-symbol_in.ensures refl))

pub name_room-room-requires : goal.name_room-room-requires
name_room-room-requires c = let a = c.args in let k = found c.in_ok-symbol_in.ensures refl in (c.requires, symbol-known a.file.now a.t a.i k, rw c.entry_in-e.ensures (name-accepted a.file.now a.t a.i k))

pub text_of-requires : goal.text_of-requires
text_of-requires c = let a = c.args in let k = found c.in_ok-symbol_in.ensures refl in found_within c.name_room-room.ensures (room-in-file a.file.now a.t a.i _ _ c.requires (symbol-known a.file.now a.t a.i k))

pub returns-in_err-symbol_in : goal.returns-in_err-symbol_in
unfolding name_behind
returns-in_err-symbol_in c = rw (handed c.from_residual.ensures) (rw (← c.in_err-symbol_in.ensures))

pub returns : goal.returns
unfolding name_behind
returns c = rw (← c.in_ok-symbol_in.ensures, ← c.entry_in-e.ensures, ← c.name_room-room.ensures, c.text_of.ensures)
