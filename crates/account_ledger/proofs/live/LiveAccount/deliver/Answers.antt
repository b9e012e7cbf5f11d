use Rattle.std.proofs.Common.{◌≡◌, true, false, None, Some, refl, subst, rules, bytes_eq}
use Rattle.std.specs.Prelude.{Err}
use Rattle.std.specs.List.{list_any}
use Rattle.quota_roots.specs.RootSets.{has_root}
use Rattle.admission.specs.declared.verdict.Verdict.{Verdict}
use Rattle.account_core.specs.declared.calls.Call.TheVariants.{Deliver}
use Rattle.account_core.specs.declared.calls.Reply.TheVariants.{NoMailbox}
use Rattle.account_core.specs.declared.calls.StepError.TheVariants.{NoMemory}
use Rattle.account_core.specs.Account.{Account}
use Rattle.account_core.specs.Machine.{over_of}
use Rattle.account_ledger.specs.Rows.{IsVerdict}
use Rattle.account_ledger.specs.Settling.{needs}
use Rattle.account_ledger.specs.Lives.{Shows}
use Rattle.account_ledger.proofs.Answering.{fits_here, over_answered, settled_by, spared_filed}
use Rattle.account_ledger.proofs.Delivering.{nowhere_in, nowhere_leaves, nowhere_replied}
use Rattle.account_ledger.proofs.Showing.{shown_then}
use Rattle.account_ledger.proofs.Stepping.{not_failed, prepares_may, steps_refused, steps_spared, steps_then, steps_unsettled}
use Rattle.account_ledger.proofs.live.LiveAccount.deliver.Goals as goal

pub returns-then-not-has_mailbox : goal.returns-then-not-has_mailbox
returns-then-not-has_mailbox g c =
    let l = c.args.self.now in
    let m = c.args.mailbox.now in
    let none : list_any (λ mailbox. bytes_eq mailbox m) l.mailboxes ≡ false = search rules in
    steps_refused (Deliver m c.args.octets c.args.flags) c.args.bytes.now NoMailbox l c.show_whole.ensures refl
    (λ account shows. nowhere_replied l.roots account m c.args.octets c.args.flags (nowhere_in l account shows m none)) (record { kind = refl; names = tt })
    (λ account shows. nowhere_leaves l.roots account m c.args.octets c.args.flags (nowhere_in l account shows m none)) refl (λ rows. refl) tt

pub returns-in_err-name : goal.returns-in_err-name
returns-in_err-name g c =
    let is : c.from_residual.result ≡ Err NoMemory = search rules in
    rw is (steps_spared (Deliver c.args.mailbox.now c.args.octets c.args.flags) c.args.bytes.now c.args.self.now c.show_whole.ensures tt)

pub returns-in_err-settle : goal.returns-in_err-settle
returns-in_err-settle g c =
    let is : c.from_residual-in_err-settle.result ≡ Err c.in_err-settle.field-0.0 = search rules in
    rw is
    (steps_unsettled (Deliver c.args.mailbox.now c.args.octets c.args.flags) c.args.bytes.now c.settle.result (has_root c.gainers-set.result) c.args.self.now c.settle.new.self (λ root. c.gainers-set.ensures.members root)
    c.settle.ensures.prepares c.settle.ensures.spared c.settle.ensures.never_full c.settle.ensures.whole c.in_err-settle.field-0.0 c.in_err-settle.was tt)

pub returns-in-Over : goal.returns-in-Over
returns-in-Over g c =
    let l = c.args.self.now in
    let m = c.settle.new.self in
    let there : list_any (λ mailbox. bytes_eq mailbox c.args.mailbox.now) l.mailboxes ≡ true = search rules in
    let judged : (account : Account) → Shows m account → over_of m.roots account c.gainers-set.result c.args.octets ≡ Some (c.in-Over.root, c.in-Over.resource) =
    λ account shows. subst (λ (v : Verdict). IsVerdict (over_of m.roots account c.gainers-set.result c.args.octets) v) c.in-Over.is (c.verdict.ensures.verdict account shows) in
    over_answered l m _ (not_failed c.in_ok-settle.was) (has_root c.gainers-set.result) c.settle.ensures.prepares c.settle.ensures.whole c.in_ok-settle.ensures.settled c.args.mailbox.now c.gainers-set.ensures.members
    c.args.octets c.args.flags there c.gainers-set.result c.gainers-set.ensures.value (Some (c.in-Over.root, c.in-Over.resource)) judged c.in-Over.root c.in-Over.resource refl c.in-Over.ensures.inside c.args.bytes.now

pub accept-requires-clause-shown : goal.accept-requires-clause-shown
accept-requires-clause-shown g c =
    shown_then _ c.args.self.now c.settle.new.self c.requires.shown c.settle.ensures.whole c.settle.ensures.prepares.settles.files c.settle.ensures.prepares.stands

pub accept-requires-clause-fits : goal.accept-requires-clause-fits
accept-requires-clause-fits g c =
    let l = c.args.self.now in
    let m = c.settle.new.self in
    let there : list_any (λ mailbox. bytes_eq mailbox c.args.mailbox.now) l.mailboxes ≡ true = search rules in
    let judged : (account : Account) → Shows m account → over_of m.roots account c.gainers-set.result c.args.octets ≡ None =
    λ account shows. subst (λ (v : Verdict). IsVerdict (over_of m.roots account c.gainers-set.result c.args.octets) v) c.in-Fits.is (c.verdict.ensures.verdict account shows) in
    fits_here l m _ (not_failed c.in_ok-settle.was) (has_root c.gainers-set.result) c.settle.ensures.prepares c.settle.ensures.whole c.in_ok-settle.ensures.settled c.args.mailbox.now c.gainers-set.ensures.members
    c.args.octets c.args.flags there c.gainers-set.result c.gainers-set.ensures.value None judged refl

pub returns : goal.returns
returns g c =
    let l = c.args.self.now in
    let m = c.settle.new.self in
    let call = Deliver c.args.mailbox.now c.args.octets c.args.flags in
    let settled = settled_by (has_root c.gainers-set.result) (needs l.roots call) m c.gainers-set.ensures.members c.in_ok-settle.ensures.settled in
    steps_then call c.args.bytes.now c.accept.result _ l m c.accept.new.self (not_failed c.in_ok-settle.was)
    (prepares_may _ (has_root c.gainers-set.result) (needs l.roots call) l m c.gainers-set.ensures.members c.settle.ensures.prepares) c.settle.ensures.whole settled c.accept.ensures.acts
    (spared_filed call c.accept.result l m c.accept.new.self refl settled c.accept.ensures.spared) tt
