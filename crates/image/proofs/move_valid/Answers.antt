use lib.ListN.{length}
use mathlib.Core.Path.{◌≡◌}
use Rattle.image.proofs.Calls.{call-done, call-refused, move-leaves}
use Rattle.call_check.proofs.Checks.{move-lengths}
use Rattle.word.proofs.Test.{found}
use Rattle.image.proofs.move_valid.Goals as goal
use Rattle.refusal.proofs.Order.{handed}
use mathlib.Core.Path.{refl}

pub apply_all-requires-clause-valid : goal.apply_all-requires-clause-valid
apply_all-requires-clause-valid c = let k = (let fact : let a = c.args in (length a.from_imports.now ≡ a.l.tables.nsyms) × (length a.to_imports.now ≡ a.l.tables.nsyms) × (length a.text.now ≡ a.l.layout.parts.text.size) × (length a.«data».now ≡ a.l.layout.image) = move-lengths _ _ c.requires _ _ _ _ (found c.in_ok-check_move.ensures refl) in fact) in c.requires

pub apply_all-requires-clause-from_len : goal.apply_all-requires-clause-from_len
apply_all-requires-clause-from_len c = let k = (let fact : let a = c.args in (length a.from_imports.now ≡ a.l.tables.nsyms) × (length a.to_imports.now ≡ a.l.tables.nsyms) × (length a.text.now ≡ a.l.layout.parts.text.size) × (length a.«data».now ≡ a.l.layout.image) = move-lengths _ _ c.requires _ _ _ _ (found c.in_ok-check_move.ensures refl) in fact) in (k.0, k.1)

pub apply_all-requires-clause-text_len : goal.apply_all-requires-clause-text_len
apply_all-requires-clause-text_len c = let k = (let fact : let a = c.args in (length a.from_imports.now ≡ a.l.tables.nsyms) × (length a.to_imports.now ≡ a.l.tables.nsyms) × (length a.text.now ≡ a.l.layout.parts.text.size) × (length a.«data».now ≡ a.l.layout.image) = move-lengths _ _ c.requires _ _ _ _ (found c.in_ok-check_move.ensures refl) in fact) in (k.2, k.3)

pub returns-in_err-check_move : goal.returns-in_err-check_move
returns-in_err-check_move c = rw (handed c.from_residual.ensures) (let told = call-refused _ _ _ _ (found c.in_err-check_move.ensures refl) in record { cause = told.0; images = told.1 })

pub returns : goal.returns
returns c = let told = call-done _ _ _ _ _ (found c.in_ok-check_move.ensures refl) (c.reach.ensures _ _) (move-leaves _ _ _ _ _ _ _ c.differences-d.ensures c.apply_all.ensures) in record { cause = told.0; images = told.1 }
