use Rattle.std.proofs.Common.{◌≡◌, ◌<◌, List, length, [], None, Some, refl, sym, subst, rules}
use Rattle.std.specs.Prelude.{Err}
use Rattle.quota_roots.specs.Governing.{gaining}
use Rattle.quota_roots.specs.RootSets.{has_root}
use Rattle.quota_roots.specs.declared.root.RootSpec.{RootSpec}
use Rattle.keeper.specs.Calls.{Told}
use Rattle.keeper.specs.Files.{listed}
use Rattle.admission.specs.declared.verdict.Verdict.{Verdict}
use Rattle.account_core.specs.declared.calls.Call.TheVariants.{Move}
use Rattle.account_core.specs.declared.calls.Reply.TheVariants.{Over}
use Rattle.account_core.specs.Account.{Account}
use Rattle.account_core.specs.Machine.{over_of}
use Rattle.account_ledger.specs.Messages.{message_in}
use Rattle.account_ledger.specs.NamedFiles.{file_named}
use Rattle.account_ledger.specs.Rows.{IsVerdict}
use Rattle.account_ledger.specs.Settling.{needs}
use Rattle.account_ledger.specs.Lives.{Shows}
use Rattle.account_ledger.proofs.Answering.{roots_prepared, settled_by, shows_prepared, spared_filed}
use Rattle.account_ledger.proofs.Moving.{may, refused_leaves, reply_over}
use Rattle.account_ledger.proofs.Showing.{known}
use Rattle.account_ledger.proofs.Stepping.{not_failed, prepares_may, steps_answered, steps_then, steps_unsettled}
use Rattle.account_ledger.proofs.live.LiveAccount.move_fitting.Goals as goal

pub returns-in_err-settle : goal.returns-in_err-settle
returns-in_err-settle g c =
    let is : c.from_residual.result ≡ Err c.in_err-settle.field-0.0 = search rules in
    rw is
    (steps_unsettled (Move c.args.from.now c.args.base.now c.args.to.now) [] c.settle.result (has_root c.gainers-set.result) c.args.self.now c.settle.new.self (λ root. c.gainers-set.ensures.members root)
    c.settle.ensures.prepares c.settle.ensures.spared c.settle.ensures.never_full c.settle.ensures.whole c.in_err-settle.field-0.0 c.in_err-settle.was tt)

pub move_file-requires-clause-fits : goal.move_file-requires-clause-fits
move_file-requires-clause-fits g c account shows =
    let l = c.args.self.now in
    let m = c.settle.new.self in
    let from = c.args.from.now in
    let to = c.args.to.now in
    let octets = (message_in from c.args.file.now).octets in
    let roots_m = roots_prepared _ (has_root c.gainers-set.result) l m c.settle.ensures.prepares in
    let judged : over_of m.roots account c.gainers-set.result c.size_of_file-octets.result ≡ None =
    subst (λ (v : Verdict). IsVerdict (over_of m.roots account c.gainers-set.result c.size_of_file-octets.result) v) c.in-Fits.is (c.verdict.ensures.verdict account shows) in
    subst (λ (roots : List RootSpec). over_of m.roots account (gaining roots from to) octets ≡ None) (sym roots_m)
    (subst (λ set. over_of m.roots account set octets ≡ None) c.gainers-set.ensures.value
    (subst (λ n. over_of m.roots account c.gainers-set.result n ≡ None) c.size_of_file-octets.ensures.value judged))

pub returns-in-Over : goal.returns-in-Over
returns-in-Over g c =
    let l = c.args.self.now in
    let m = c.settle.new.self in
    let from = c.args.from.now in
    let base = c.args.base.now in
    let to = c.args.to.now in
    let file = c.args.file.now in
    let message = message_in from file in
    let call = Move from base to in
    let set = c.gainers-set.result in
    let root = c.in-Over.root in
    let resource = c.in-Over.resource in
    let Found = λ (t : Told). Some file ≡ file_named base (listed from t.files.rows) in
    let Free = λ (t : Told). None ≡ file_named base (listed to t.files.rows) in
    let not = not_failed c.in_ok-settle.was in
    let roots_m = roots_prepared _ (has_root set) l m c.settle.ensures.prepares in
    let judged : (account : Account) → Shows l account → over_of l.roots account (gaining l.roots from to) message.octets ≡ Some (root, resource) =
    λ account shows.
    subst (λ (roots : List RootSpec). over_of roots account (gaining l.roots from to) message.octets ≡ Some (root, resource)) roots_m
    (subst (λ numbers. over_of m.roots account numbers message.octets ≡ Some (root, resource)) c.gainers-set.ensures.value
    (subst (λ n. over_of m.roots account set n ≡ Some (root, resource)) c.size_of_file-octets.ensures.value
    (subst (λ (v : Verdict). IsVerdict (over_of m.roots account set c.size_of_file-octets.result) v) c.in-Over.is
    (c.verdict.ensures.verdict account (shows_prepared _ (has_root set) l m account c.settle.ensures.prepares c.settle.ensures.whole shows))))) in
    let replied = λ (account : Account) (shows : Shows l account).
    reply_over l.roots account from base to message root resource
    (may l account shows from base to c.requires.source c.requires.target file (known l account Found shows c.requires.found) (known l account Free shows c.requires.free) c.requires.apart) (judged account shows) in
    steps_answered call [] (Over root resource) _ l m not (prepares_may _ (has_root set) (needs l.roots call) l m c.gainers-set.ensures.members c.settle.ensures.prepares) c.settle.ensures.whole
    (settled_by (has_root set) (needs l.roots call) m c.gainers-set.ensures.members c.in_ok-settle.ensures.settled)
    replied
    (record { kind = refl; names = subst (λ (roots : List RootSpec). root < length roots) roots_m c.in-Over.ensures.inside })
    (λ account shows. refused_leaves l.roots account from base to (Over root resource) (replied account shows) refl) refl (λ rows. refl) tt

pub returns-in-Fits : goal.returns-in-Fits
returns-in-Fits g c =
    let l = c.args.self.now in
    let m = c.settle.new.self in
    let call = Move c.args.from.now c.args.base.now c.args.to.now in
    let settled = settled_by (has_root c.gainers-set.result) (needs l.roots call) m c.gainers-set.ensures.members c.in_ok-settle.ensures.settled in
    steps_then call [] c.move_file.result _ l m c.move_file.new.self (not_failed c.in_ok-settle.was)
    (prepares_may _ (has_root c.gainers-set.result) (needs l.roots call) l m c.gainers-set.ensures.members c.settle.ensures.prepares) c.settle.ensures.whole settled c.move_file.ensures.acts
    (spared_filed call c.move_file.result l m c.move_file.new.self refl settled c.move_file.ensures.spared) tt
