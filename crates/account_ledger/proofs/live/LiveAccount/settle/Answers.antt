use Rattle.std.proofs.Common.{◌<◌, length, subst, sym, ◌∙◌}
use denote.Param.{param}
use Rattle.quota_roots.specs.RootSets.{has_root}
use Rattle.keeper.specs.Calls.{Changes, OnFiles}
use Rattle.account_ledger.specs.contracts.live.LiveAccount.{the_view}
use Rattle.root_ledgers.specs.Settling.{Settling, kept_of}
use Rattle.account_ledger.specs.Lives.{Live}
use Rattle.account_ledger.proofs.Judging.{has_below}
use Rattle.account_ledger.proofs.Settled.{prepares_said, prepares_settled, said_failed, said_on_ok}
use Rattle.account_ledger.proofs.Showing.{standing_of}
use Rattle.account_ledger.proofs.live.LiveAccount.settle.Goals as goal

pub returns-clause-prepares : goal.returns-clause-prepares
returns-clause-prepares g c =
    let s = c.self.inside in
    let n = c.settle-settled.new in
    let may = has_root c.args.set in
    let l = the_view (param 0 g.row.K) g.K.Keeper s in
    let e = c.settle-settled.ensures in
    let settling = subst (λ ls. Changes (OnFiles (Settling may s.roots s.mailboxes (kept_of s.ledgers.limits s.ledgers.books) (kept_of ls n.self.books))) (g.K.Keeper.told s.keeper) (g.K.Keeper.told n.keeper))
    e.limits (rw c.as_slice.ensures at e.files) in
    let said = said_failed c.settle-settled.result c.map_err.result c.map_err.ensures.cases in
    rw (← c.self.view_is, c.settle-settled.ensures.appends, c.settle-settled.ensures.limits)
    (prepares_said _ _ may l _ said.0 said.1
    (prepares_settled _ may l (g.K.Keeper.told n.keeper) (g.K.Keeper.faults n.keeper) (g.K.Keeper.lists n.keeper) n.self.books settling e.marks e.cause (rw c.settle-settled.ensures.appends at e.due)))

pub returns-clause-settled : goal.returns-clause-settled
returns-clause-settled g c =
    let s = c.self.inside in
    said_on_ok c.settle-settled.result c.map_err.result c.map_err.ensures.cases
    (λ settled root has.
    let below = has_below c.args.set _ c.requires root has in
    standing_of c.settle-settled.new.self.books root ∙ settled root (subst (λ (v : Live). root < length v.roots) (sym c.self.view_is) below) has)
    c.settle-settled.ensures.settled
