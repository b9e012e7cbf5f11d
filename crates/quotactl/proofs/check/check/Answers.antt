use Rattle.std.proofs.Common.{rules, refl, subst}
use Rattle.quotactl.specs.Checking.{Reports, reported, cut_short}
use Rattle.quotactl.proofs.check.check.Goals as goal

pub returns-in-Ok-send-clause-checks : goal.returns-in-Ok-send-clause-checks
returns-in-Ok-send-clause-checks g c =
    reported c.in-Ok.bytes.items c.in-Ok-reported.text.items c.in-Ok.ensures.ok (subst (λ l. Reports l c.in-Ok-reported.text.items c.in-Ok-reported.status) c.deref.ensures.value c.in-Ok-reported.ensures) (search rules)

pub returns-clause-checks : goal.returns-clause-checks
returns-clause-checks g c =
    cut_short c.in-Ok.bytes.items c.in-Ok-reported.text.items c.in-Ok-reported.status c.in-Ok.ensures.ok (subst (λ l. Reports l c.in-Ok-reported.text.items c.in-Ok-reported.status) c.deref.ensures.value c.in-Ok-reported.ensures) (search rules) refl
