use Rattle.std.proofs.Common.{◌≡◌, ◌∙◌, ◌<◌, length, take, ap, sym, subst, rules}
use Rattle.std.specs.List.{All}
use denote.Param.{param}
use Rattle.quota_units.specs.Limiting.{AreLimits}
use Rattle.quota_roots.specs.RootSets.{has_root}
use Rattle.admission.specs.Fitting.{first_over}
use Rattle.account_ledger.specs.Lives.{Live, Shows, store_of}
use Rattle.account_ledger.specs.Rows.{totals_of}
use Rattle.account_ledger.specs.Settling.{AreSettled}
use Rattle.account_ledger.specs.contracts.live.LiveAccount.{the_view}
use Rattle.account_ledger.proofs.Inside.{verdict_inside}
use Rattle.account_ledger.proofs.Judging.{has_below, over_is}
use Rattle.account_ledger.proofs.Replying.{first_over_cut, verdict_is}
use Rattle.account_ledger.proofs.live.LiveAccount.verdict.Goals as goal

pub returns-clause-verdict : goal.returns-clause-verdict
returns-clause-verdict g c = λ account shows.
    let s = c.self.inside in
    let l = the_view (param 0 g.row.K) g.K.Keeper s in
    let shown : Shows l account = subst (λ (v : Live). Shows v account) (sym c.self.view_is) shows in
    let settled = subst (λ (v : Live). AreSettled (has_root c.args.set) (store_of v)) (sym c.self.view_is) c.requires.settled in
    let below = subst (λ (v : Live). All (λ root. root < length v.roots) c.args.set) (sym c.self.view_is) c.requires.inside in
    let same = over_is l account shown c.args.set (has_below c.args.set (length s.roots) below) settled c.args.octets in
    let all : All AreLimits s.ledgers.limits = rw c.limits.ensures at c.show_limits.ensures in
    let made : take (length s.ledgers.books) c.totals_of-totals.result ≡ totals_of s.ledgers.books = rw c.books.ensures at c.totals_of-totals.ensures.value in
    rw (← c.self.view_is) (verdict_is _ c.admit.result c.admit.ensures.none_over c.admit.ensures.over _
    (rw (c.limits-2.ensures, c.books-count.ensures, made)
    (ap (λ o. first_over s.ledgers.limits (totals_of s.ledgers.books) c.args.set o) (search rules) ∙ first_over_cut s.ledgers.limits (totals_of s.ledgers.books) c.args.set c.args.octets all ∙ same)))

pub returns-clause-inside : goal.returns-clause-inside
returns-clause-inside g c =
    let s = c.self.inside in
    let below = subst (λ (v : Live). All (λ root. root < length v.roots) c.args.set) (sym c.self.view_is) c.requires.inside in
    rw (← c.self.view_is) (verdict_inside _ _ _ _ (length s.roots) below c.admit.result c.admit.ensures.over)
