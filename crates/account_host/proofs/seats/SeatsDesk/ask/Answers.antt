use Rattle.std.proofs.Common.{◌≡◌, ◌<◌, List, length, map, set, get_or, slice_get, Some, refl, sym, ap, ◌∙◌, subst, rules, arith}
use Rattle.std.proofs.lemmas.List.{length-map}
use Rattle.std.proofs.lemmas.Option.{slice_get-get_or}
use Rattle.account_lock.specs.Passes.{view, IsOf}
use Rattle.account_lock.specs.declared.pass.Pass.{Pass}
use Rattle.desk.specs.Shares.{Share, share_at}
use Rattle.desk.specs.Asking.{Asks}
use Rattle.desk.proofs.Lending.{share_here, share_there, shares_set}
use Rattle.account_host.specs.Seating.{HasRoom, pass_share}
use Rattle.account_host.proofs.Asked.{each_goes, goes_along, within_set}
use Rattle.account_host.proofs.Seated.{seated_set, shares_within}
use Rattle.account_host.proofs.seats.SeatsDesk.ask.Goals as goal

pub index-lock-requires : goal.index-lock-requires
index-lock-requires g c =
    let passes = c.args.self.now.set.passes.items in
    let there : c.args.account < length c.args.self.now.host.now.locks.items = omega (arith, c.requires.account, length-map passes pass_share, c.args.self.now.seated.count) in
    search (rules, there)

pub index_mut-pass-requires : goal.index_mut-pass-requires
index_mut-pass-requires g c =
    let passes = c.args.self.now.set.passes.items in
    let there : c.args.account < length passes = omega (arith, c.requires.account, length-map passes pass_share) in
    search (rules, there)

pub ask_in_turn-requires : goal.ask_in_turn-requires
ask_in_turn-requires g c =
    let passes = c.args.self.now.set.passes.items in
    let account = c.args.account in
    let p = c.index_mut-pass.result.now in
    let there : account < length passes = omega (arith, c.requires.account, length-map passes pass_share) in
    let locks = c.args.self.now.host.now.locks.items in
    let lock = c.index-lock.result.now in
    let inside : account < length locks = omega (arith, there, c.args.self.now.seated.count) in
    let at_lock : slice_get locks account ≡ Some lock = slice_get-get_or locks account lock inside ∙ ap Some (sym c.index-lock.ensures) in
    record {
      lock = c.args.self.now.seated.each account lock p at_lock (slice_get-get_or passes account p there ∙ ap Some (sym c.index_mut-pass.ensures.value));
      asked = c.requires.asked;
      bytes = c.requires.bytes;
    }

pub invariant_of-self : goal.invariant_of-self
invariant_of-self g c =
    let passes = c.args.self.now.set.passes.items in
    let account = c.args.account in
    let p = c.index_mut-pass.result.now in
    let there : account < length passes = omega (arith, c.requires.account, length-map passes pass_share) in
    let locks = c.args.self.now.host.now.locks.items in
    let lock = c.index-lock.result.now in
    let inside : account < length locks = omega (arith, there, c.args.self.now.seated.count) in
    let at_lock : slice_get locks account ≡ Some lock = slice_get-get_or locks account lock inside ∙ ap Some (sym c.index-lock.ensures) in
    let p' = c.ask_in_turn.new.pass in
    record {
      seated = seated_set locks passes account p' c.args.self.now.seated
          (λ l at. let same : lock ≡ l = (let e : Some lock ≡ Some l = sym at_lock ∙ at in cc) in subst (λ z. IsOf z p') same c.ask_in_turn.ensures.lock);
      within = within_set passes account there p p' c.ask_in_turn.ensures.within c.args.self.now.within;
    }

pub returns : goal.returns
returns g c =
    let passes = c.args.self.now.set.passes.items in
    let account = c.args.account in
    let p = c.index_mut-pass.result.now in
    let there : account < length passes = omega (arith, c.requires.account, length-map passes pass_share) in
    let p' = c.ask_in_turn.new.pass in
    let is : get_or passes account p ≡ p = sym c.index_mut-pass.ensures.value in
    let told = c.ask_in_turn.ensures in
    let old = share_here pass_share passes account there p is in
    let new = share_there pass_share passes account there p' in
    record {
      asks = subst (λ (z : Share × Share). Asks z.0 c.args.call c.ask_in_turn.result z.1) (λ i. (sym old i, sym new i)) told.asks;
      others = shares_set pass_share passes account there p';
      within = shares_within (set passes account p') (within_set passes account there p p' told.within c.args.self.now.within);
      leads = record { host = refl; passes = each_goes passes account there p p' is told.goes };
      passes = goes_along passes account there p p' is told.goes;
      room = λ out. subst HasRoom (sym new) (told.room out);
    }
