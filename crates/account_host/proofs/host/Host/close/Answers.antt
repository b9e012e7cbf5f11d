use Rattle.std.proofs.Common.{◌≡◌, ◌<◌, ◌≤◌, length, refl, sym, ap, ◌∙◌, subst, rules, arith}
use Rattle.std.proofs.lemmas.List.{length-map}
use Rattle.account_lock.specs.Known.{View}
use Rattle.account_lock.specs.Passes.{view}
use Rattle.account_host.specs.Sets.{views, view_at, IsUnjoined}
use Rattle.account_host.specs.Closing.{Closes, PassCloses}
use Rattle.account_host.proofs.Zips.{zip_map_left}
use Rattle.account_host.proofs.Looking.{view_here}
use Rattle.account_host.proofs.Seated.{zipped_of}
use Rattle.account_host.proofs.Ended.{closed_all}
use Rattle.account_host.proofs.host.Host.close.Goals as goal

pub end_each-states-requires-clause-seated : goal.end_each-states-requires-clause-seated
end_each-states-requires-clause-seated g c = zipped_of c.args.self.locks.items c.args.set.passes.items c.requires.set.seated

pub returns : goal.returns
returns g c =
    let passes = c.args.set.passes.items in
    let states = c.reverse.new.self.items in
    record {
      all = c.in_default.ensures.whole;
      closed = zip_map_left Closes view passes states (closed_all passes c.args.self.spare.items c.end_each-states.result.items states c.args.self.empty c.end_each-states.ensures c.reverse.ensures.items);
      unjoined = tt;
      refused = tt;
    }

pub returns-in-Some : goal.returns-in-Some
returns-in-Some g c =
    let passes = c.args.set.passes.items in
    let account = c.in-Some.account in
    let pass = c.index-pass.result.now in
    let found = c.in-Some.ensures.unjoined in
    let there : account < length (views passes) = found.there in
    let inside : account < length passes = omega (arith, length-map passes view) in
    let here = view_here passes account pass inside (sym c.index-pass.ensures) in
    let held : (view_at (views passes) account).held ≡ c.held-held.result = ap (λ (v : View). v.held) here ∙ sym c.held-held.ensures in
    let made : (view_at (views passes) account).made ≡ c.made-made.result = ap (λ (v : View). v.made) here ∙ sym c.made-made.ensures in
    let fewer : (view_at (views passes) account).held < (view_at (views passes) account).made = found.fewer in
    record {
      all = tt;
      closed = tt;
      unjoined = record {
        there = there;
        held_is = held;
        made_is = made;
        fewer = omega arith;
        before = found.before;
      };
      refused = (refl, refl);
    }
