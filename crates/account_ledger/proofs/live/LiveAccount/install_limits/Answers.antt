use Rattle.std.proofs.Common.{◌≡◌, ◌<◌, length, slice_index_or, Some, refl, sym, ap, ◌∙◌, subst, rules, arith}
use Rattle.std.specs.Prelude.{nat_eq}
use Rattle.std.proofs.lemmas.Bool.{eq-eqb}
use Rattle.std.proofs.lemmas.List.{get_or_default}
use denote.Param.{param}
use Rattle.quota_roots.specs.RootLists.{root_named}
use Rattle.root_ledgers.specs.declared.book.Book.{Book}
use Rattle.root_ledgers.specs.Settling.{no_book}
use Rattle.root_ledgers.specs.declared.book.Standing.TheVariants.{Settled}
use Rattle.account_ledger.specs.Lives.{Live, store_of}
use Rattle.account_ledger.specs.Settling.{AreSettled}
use Rattle.account_ledger.specs.contracts.live.LiveAccount.{the_view}
use Rattle.account_ledger.proofs.Limiting.{acts_limited}
use Rattle.account_ledger.proofs.Showing.{standing_of}
use Rattle.account_ledger.proofs.live.LiveAccount.install_limits.Goals as goal

-- what a read past the books would give
abbrev read_past : Book
read_past = record { totals = record { octets = 0; count = 0 }; standing = Settled; length = 0 }

pub returns-clause-acts : goal.returns-clause-acts
returns-clause-acts g c =
    let s = c.self.inside in
    let l = the_view (param 0 g.row.K) g.K.Keeper s in
    let k = c.fold.new.keeper in
    let root = c.args.root in
    let place = subst (λ (v : Live). root_named v.roots c.args.name.now ≡ Some root) (sym c.self.view_is) c.requires.root in
    let inside = subst (λ (v : Live). root < length v.roots) (sym c.self.view_is) c.requires.inside in
    let all = subst (λ (v : Live). AreSettled (nat_eq root) (store_of v)) (sym c.self.view_is) c.requires.settled in
    let same = get_or_default s.ledgers.books root read_past no_book (omega (arith, inside, c.show_kept.ensures.each, c.self.invariant.0)) in
    rw (← c.self.view_is)
    (acts_limited l c.args.name.now root c.args.limits place inside (sym (standing_of s.ledgers.books root) ∙ all root (eq-eqb root root refl)) (g.K.Keeper.told k) (g.K.Keeper.faults k) (g.K.Keeper.lists k) _ (search rules)
    _ (ap (λ books. (slice_index_or books root read_past).totals) c.books.ensures ∙ ap (λ (b : Book). b.totals) same) c.fold.new.self c.in_default.ensures.ok (g.K.Keeper.append_faults k) c.fold.ensures.appends
    c.in_default.ensures.files c.fold.ensures.short c.in_default.ensures.cause c.in_default.ensures.due)
