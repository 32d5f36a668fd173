use lib.ListN.{length}
use mathlib.Core.Path.{◌∙◌, ◌≡◌}
use Rattle.image.proofs.Calls.{build-leaves, call-done, call-refused}
use Rattle.call_check.proofs.Checks.{build-lengths}
use Rattle.word.proofs.Test.{found}
use Rattle.image.proofs.build_valid.Goals as goal
use Rattle.refusal.proofs.Order.{handed}
use mathlib.Core.Path.{refl}

pub fill_raw-requires-clause-text_len : goal.fill_raw-requires-clause-text_len
fill_raw-requires-clause-text_len c = let k = (let fact : let a = c.args in (length a.imports.now ≡ a.l.tables.nsyms) × (length a.text.now ≡ a.l.layout.parts.text.size) × (length a.«data».now ≡ a.l.layout.image) = build-lengths _ _ c.requires _ _ _ (found c.in_ok-check_build.ensures refl) in fact) in (k.1, k.2)

pub apply_all-requires-clause-from_len : goal.apply_all-requires-clause-from_len
apply_all-requires-clause-from_len c = let k = (let fact : let a = c.args in (length a.imports.now ≡ a.l.tables.nsyms) × (length a.text.now ≡ a.l.layout.parts.text.size) × (length a.«data».now ≡ a.l.layout.image) = build-lengths _ _ c.requires _ _ _ (found c.in_ok-check_build.ensures refl) in fact) in (k.0, k.0)

pub apply_all-requires-clause-text_len : goal.apply_all-requires-clause-text_len
apply_all-requires-clause-text_len c = let k = (let fact : let a = c.args in (length a.imports.now ≡ a.l.tables.nsyms) × (length a.text.now ≡ a.l.layout.parts.text.size) × (length a.«data».now ≡ a.l.layout.image) = build-lengths _ _ c.requires _ _ _ (found c.in_ok-check_build.ensures refl) in fact) in (c.fill_raw.auto.text ∙ k.1, c.fill_raw.auto.«data» ∙ k.2)

pub returns-in_err-check_build : goal.returns-in_err-check_build
returns-in_err-check_build c = rw (handed c.from_residual.ensures) (let told = call-refused _ _ _ _ (found c.in_err-check_build.ensures refl) in record { cause = told.0; images = told.1 })

pub returns : goal.returns
returns c = let told = call-done _ _ _ _ _ (found c.in_ok-check_build.ensures refl) (c.reach.ensures _ _) (build-leaves _ _ _ _ _ _ _ c.displacements-d.ensures c.fill_raw.ensures c.apply_all.ensures) in record { cause = told.0; images = told.1 }
