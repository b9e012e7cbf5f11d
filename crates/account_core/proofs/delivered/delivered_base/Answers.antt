use Rattle.std.proofs.Common.{◌≡◌, ◌∙◌, ◌≤◌, length, subst, IfOk}
use Rattle.account_core.specs.Delivering.{delivered_base}
use Rattle.account_core.proofs.DeliveredLemmas.{base_is, base_fits}
use Rattle.account_core.proofs.delivered.delivered_base.Goals as goal

-- the base is never too long for a name
pub of_short-requires : goal.of_short-requires
of_short-requires c =
    let same : c.as_bytes.result.now ≡ delivered_base c.args.epoch c.args.number =
    c.as_bytes.ensures.value ∙ c.in_ok-text.ensures.ok ∙ base_is c.args.epoch c.args.number in
    rw same (base_fits c.args.epoch c.args.number c.ranges.epoch.fits c.ranges.number.fits)

pub returns : goal.returns
returns c =
    let same : c.as_bytes.result.now ≡ delivered_base c.args.epoch c.args.number =
    c.as_bytes.ensures.value ∙ c.in_ok-text.ensures.ok ∙ base_is c.args.epoch c.args.number in
    subst (λ bytes. IfOk c.of_short.result (λ name. name ≡ bytes)) same c.of_short.ensures
