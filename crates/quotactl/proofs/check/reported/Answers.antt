use Rattle.std.proofs.Common.{◌++◌, sym, ap, ◌∙◌, refl}
use Rattle.quotactl.specs.Checking.{values, fault, values_text, fault_text}
use Rattle.quotactl.proofs.check.reported.Goals as goal

pub returns-in_ok-push_values-in-Ok : goal.returns-in_ok-push_values-in-Ok
returns-in_ok-push_values-in-Ok c =
    values c.in-Ok.ledger c.in-Ok.ensures.readable (c.in_ok-push_values-in-Ok.ensures ∙ ap (λ l. l ++ values_text c.in-Ok.ledger) c.new-text.ensures.items) refl

pub returns-in_ok-push_fault-in-Err : goal.returns-in_ok-push_fault-in-Err
returns-in_ok-push_fault-in-Err c =
    fault c.in-Err.fault (sym c.in-Err.ensures.fault) (c.in_ok-push_fault-in-Err.ensures ∙ ap (λ l. l ++ fault_text c.in-Err.fault) c.new-text.ensures.items) refl
