use mathlib.Core.Path.{refl, sym, ◌∙◌, ap}
use Rattle.header.specs.declared.Opened.{Opened}
use Rattle.offset.specs.Report.{report_head}
use Rattle.refusal.proofs.Order.{told-accepted}
use Rattle.rewrite.proofs.Write.{check-found, check-refused, output-refused, output-written, accepted-known}
use Rattle.rewrite.proofs.write_module.Goals as goal
use Rattle.refusal.proofs.Order.{handed}

pub check_write-requires : goal.check_write-requires
check_write-requires c = record { opens = ap (λ (t : Opened). t.summary) c.open-o.ensures.cause; loads = sym c.in_ok-l.ensures.cause ∙ refl }

pub returns-in_err-check_write-clause-cause : goal.returns-in_err-check_write-clause-cause
returns-in_err-check_write-clause-cause c = rw (handed c.from_residual-in_err-check_write.ensures) (let e = check-found _ _ _ _ (sym c.in_ok-l.ensures.cause ∙ refl) (ap (λ (t : Opened). t.summary) c.open-o.ensures.cause) c.in_err-check_write.ensures in e)

pub returns-in_err-check_write-clause-report : goal.returns-in_err-check_write-clause-report
returns-in_err-check_write-clause-report c = rw (handed c.from_residual-in_err-check_write.ensures) (let e = check-found _ _ _ _ (sym c.in_ok-l.ensures.cause ∙ refl) (ap (λ (t : Opened). t.summary) c.open-o.ensures.cause) c.in_err-check_write.ensures in ap (report_head _) e)

pub returns-in_err-check_write-clause-output : goal.returns-in_err-check_write-clause-output
returns-in_err-check_write-clause-output c = let e = check-found _ _ _ _ (sym c.in_ok-l.ensures.cause ∙ refl) (ap (λ (t : Opened). t.summary) c.open-o.ensures.cause) c.in_err-check_write.ensures in output-refused _ _ _ e (refl)

pub write_valid-requires-clause-ready : goal.write_valid-requires-clause-ready
write_valid-requires-clause-ready c = let k = accepted-known _ _ _ _ _ (told-accepted c.in_ok-check_write.ensures refl refl) in (record { opens = ap (λ (t : Opened). t.summary) c.open-o.ensures.cause; loads = sym c.in_ok-l.ensures.cause ∙ refl }, k.0)

pub write_valid-requires-clause-imports_len : goal.write_valid-requires-clause-imports_len
write_valid-requires-clause-imports_len c = let k = accepted-known _ _ _ _ _ (told-accepted c.in_ok-check_write.ensures refl refl) in (k.1, k.2)

pub returns-in_err-l-clause-cause : goal.returns-in_err-l-clause-cause
returns-in_err-l-clause-cause c = rw (handed c.from_residual.ensures) (let e = check-refused _ _ _ _ (c.in_err-l.ensures.cause) in e)

pub returns-in_err-l-clause-report : goal.returns-in_err-l-clause-report
returns-in_err-l-clause-report c = rw (handed c.from_residual.ensures) (let e = check-refused _ _ _ _ (c.in_err-l.ensures.cause) in ap (report_head _) e)

pub returns-in_err-l-clause-output : goal.returns-in_err-l-clause-output
returns-in_err-l-clause-output c = let e = check-refused _ _ _ _ (c.in_err-l.ensures.cause) in output-refused _ _ _ e refl

pub returns-clause-cause : goal.returns-clause-cause
returns-clause-cause c = let e = check-found _ _ _ _ (sym c.in_ok-l.ensures.cause ∙ refl) (ap (λ (t : Opened). t.summary) c.open-o.ensures.cause) c.in_ok-check_write.ensures in let a = told-accepted c.in_ok-check_write.ensures refl refl in sym a ∙ sym c.in_ok-check_write.ensures ∙ e

pub returns-clause-report : goal.returns-clause-report
returns-clause-report c = let e = check-found _ _ _ _ (sym c.in_ok-l.ensures.cause ∙ refl) (ap (λ (t : Opened). t.summary) c.open-o.ensures.cause) c.in_ok-check_write.ensures in let a = told-accepted c.in_ok-check_write.ensures refl refl in ap (report_head _) (sym a ∙ sym c.in_ok-check_write.ensures ∙ e)

pub returns-clause-output : goal.returns-clause-output
returns-clause-output c = let e = check-found _ _ _ _ (sym c.in_ok-l.ensures.cause ∙ refl) (ap (λ (t : Opened). t.summary) c.open-o.ensures.cause) c.in_ok-check_write.ensures in let a = told-accepted c.in_ok-check_write.ensures refl refl in output-written _ _ _ _ _ (sym c.in_ok-l.ensures.cause ∙ refl) e (refl) c.write_valid.ensures
