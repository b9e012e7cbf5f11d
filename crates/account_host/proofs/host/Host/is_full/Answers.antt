use Rattle.std.proofs.Common.{◌≡◌, ◌≢◌, ◌<◌, length, get_or, sym, ap, ◌∙◌, rules, arith}
use Rattle.std.proofs.lemmas.List.{length-map}
use Rattle.account_lock.specs.Known.{View, nobody}
use Rattle.account_lock.specs.Passes.{view}
use Rattle.account_host.specs.Sets.{views, view_at}
use Rattle.account_host.proofs.Looking.{before_next, view_here}
use Rattle.account_host.proofs.host.Host.is_full.Goals as goal

pub made-requires : goal.made-requires
made-requires g c =
    let passes = c.args.first.now.passes.items in
    let i = c.loop-account.account in
    let pass = c.index.result.now in
    let lt : i < length passes = search rules in
    let here = view_here passes i pass lt (sym c.index.ensures) in
    let lt' : i < length (views passes) = omega (arith, length-map passes view) in
    sym (ap (λ (v : View). v.number) here) ∙ c.requires i nobody lt'

pub loop-account-preserved : goal.loop-account-preserved
loop-account-preserved g c =
    let passes = c.args.first.now.passes.items in
    let i = c.loop-account.account in
    let pass = c.index.result.now in
    let lt : i < length passes = search rules in
    let here = view_here passes i pass lt (sym c.index.ensures) in
    let fewer : (view pass).made ≢ c.args.self.now.callers = λ e. c.if-made-self.false (c.made.ensures ∙ e) in
    before_next (λ v. v.made ≢ c.args.self.now.callers) (views passes) i (view pass) here fewer c.loop-account.invariant
