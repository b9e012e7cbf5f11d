use Rattle.std.proofs.Common.{◌≡◌, ◌<◌, ◌≤◌, length, get_or, sym, ap, ◌∙◌, rules, arith}
use Rattle.std.proofs.lemmas.List.{length-map}
use Rattle.account_lock.specs.Known.{View, nobody}
use Rattle.account_lock.specs.Passes.{view}
use Rattle.account_host.specs.Sets.{views, view_at}
use Rattle.account_host.proofs.Looking.{before_next, view_here}
use Rattle.account_host.proofs.ending.first_unjoined.Goals as goal

pub made-requires : goal.made-requires
made-requires c =
    let passes = c.args.set.now.passes.items in
    let i = c.loop-account.account in
    let pass = c.index-pass.result.now in
    let lt : i < length passes = search rules in
    let here = view_here passes i pass lt (sym c.index-pass.ensures) in
    let lt' : i < length (views passes) = omega (arith, length-map passes view) in
    sym (ap (λ (v : View). v.number) here) ∙ c.requires.first i nobody lt'

pub loop-account-preserved : goal.loop-account-preserved
loop-account-preserved c =
    let passes = c.args.set.now.passes.items in
    let i = c.loop-account.account in
    let pass = c.index-pass.result.now in
    let lt : i < length passes = search rules in
    let here = view_here passes i pass lt (sym c.index-pass.ensures) in
    let whole : (view pass).made ≤ (view pass).held = omega (arith, c.if-held-made.false, c.made.ensures, c.held.ensures) in
    before_next (λ v. v.made ≤ v.held) (views passes) i (view pass) here whole c.loop-account.invariant
