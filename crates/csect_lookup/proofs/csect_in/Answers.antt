use Prim.Native.Nat.{ℕ}
use mathlib.Core.Path.{◌≡◌, ◌∙◌, refl}
use mathlib.Core.Bool.{true}
use mathlib.Core.List.{List}
use Rattle.format.specs.declared.SymbolIndex.{SymbolIndex}
use Rattle.symbol.specs.declared.Tables.{Tables}
use Rattle.csect.specs.declared.Csect.{Csect}
use Rattle.csect.specs.declared.CsectType.{CsectType}
use Rattle.csect.specs.declared.CsectType.TheVariants.{Er, Sd, Ld, Cm}
use Rattle.csect_lookup.specs.Lookup.{is_contained, csect_in, csect_after, contained}
use Rattle.csect_lookup.proofs.Answers.{csect-by, csect-contained}
use Rattle.refusal.proofs.Order.{handed}
use Rattle.csect_lookup.proofs.csect_in.Goals as goal

-- only an LD has a container
not-label : (file : List ℕ) (t : Tables) (i : SymbolIndex) (c : Csect) (k : CsectType) → (k ≡ Ld → ⊥) → is_contained file t i c k ≡ true
unfolding is_contained
not-label file t i c Er h = refl
not-label file t i c Sd h = refl
not-label file t i c Ld h = absurd (h refl)
not-label file t i c Cm h = refl

pub returns-in_err-c : goal.returns-in_err-c
unfolding csect_in csect_after contained
returns-in_err-c c = rw (handed c.from_residual.ensures, ← c.in_err-c.ensures)

pub returns-in_default : goal.returns-in_default
returns-in_default c = csect-contained c.args.file.now c.args.t c.args.i c.in_ok-c.ensures refl refl (not-label _ _ _ _ _ c.in_default.not-Ld)

pub returns : goal.returns
returns c = c.judge_label.ensures ∙ csect-by c.args.file.now c.args.t c.args.i c.in_ok-c.ensures refl c.in-Ld.is
