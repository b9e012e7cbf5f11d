use Rattle.std.proofs.Common.{◌≡◌, ℕ, ◌+◌, ◌<◌, ◌^◌, true, false, List, [], ◌∷◌, ◌++◌, None, Some, refl, sym, ap, subst, ◌∙◌, arith, rules, bytes_eq}
use Rattle.std.specs.List.{list_any}
use denote.Param.{param}
use Rattle.keeper.specs.Calls.{Told, Changes}
use Rattle.keeper.proofs.Changing.{changes_weaken}
use Rattle.keeper.proofs.Spending.{spends_not, spends_others}
use Rattle.message_names.specs.Messages.{FileMessage}
use Rattle.account_core.specs.declared.calls.Call.TheVariants.{Deliver}
use Rattle.account_core.specs.declared.calls.Reply.TheVariants.{Delivered}
use Rattle.account_core.specs.Account.{Account}
use Rattle.account_core.specs.Machine.{delivered_message, over_in}
use Rattle.keeper.specs.Files.{Files, Row, has_row}
use Rattle.account_ledger.specs.NamedFiles.{IsDeliveryName}
use Rattle.account_ledger.specs.Lives.{IsShown, Live, Shows}
use Rattle.account_ledger.specs.contracts.live.LiveAccount.{the_view}
use Rattle.account_ledger.proofs.Delivering.{RowPut, delivered_replied, files_put, moves_delivered, row_free}
use Rattle.account_ledger.proofs.Lined.{acts_lined}
use Rattle.account_ledger.proofs.Showing.{of_shown}
use Rattle.account_ledger.proofs.live.LiveAccount.accept.Goals as goal

pub put-requires : goal.put-requires
put-requires g c =
    let s = c.self.inside in
    let l = the_view (param 0 g.row.K) g.K.Keeper s in
    let m = c.args.mailbox.now in
    let there = subst (λ (v : Live). list_any (λ other. bytes_eq other m) v.mailboxes ≡ true) (sym c.self.view_is) c.requires.there in
    let room = subst (λ (v : Live). v.deliveries < 2 ^ 63) (sym c.self.view_is) c.requires.countable in
    let named = subst (λ (v : Live). IsDeliveryName v.epoch (v.deliveries + 1) c.args.octets c.args.flags c.args.name.now) (sym c.self.view_is) c.requires.name in
    of_shown l (λ t. has_row m c.args.name.now t.files.rows ≡ false)
    (λ account shows. row_free l account shows m c.args.octets c.args.flags there c.args.name.now (omega (arith, room)) (ap (λ (x : FileMessage). x.base) (named.reads 0)))
    (subst IsShown (sym c.self.view_is) c.requires.shown)

pub returns-clause-acts : goal.returns-clause-acts
returns-clause-acts g c =
    let s = c.self.inside in
    let l = the_view (param 0 g.row.K) g.K.Keeper s in
    let m = c.args.mailbox.now in
    let call = Deliver m c.args.octets c.args.flags in
    let n = c.put.new.self in
    let w = c.write_lines.new in
    let number = s.counts.deliveries + 1 in
    let message = delivered_message s.epoch number m c.args.octets c.args.flags in
    let there = subst (λ (v : Live). list_any (λ other. bytes_eq other m) v.mailboxes ≡ true) (sym c.self.view_is) c.requires.there in
    let named = subst (λ (v : Live). IsDeliveryName v.epoch (v.deliveries + 1) c.args.octets c.args.flags c.args.name.now) (sym c.self.view_is) c.requires.name in
    let fits = subst (λ (v : Live). (account : Account) → Shows v account → over_in v.roots account m c.args.octets ≡ None) (sym c.self.view_is) c.requires.fits in
    let put : Changes (RowPut m c.args.name.now c.args.bytes.now) (g.K.Keeper.told s.keeper) (g.K.Keeper.told n) = c.in_default.ensures.files in
    let shifted = changes_weaken {X = Told} _ _ (λ (x y : Told) e. files_put s.mailboxes s.epoch number m c.args.name.now c.args.bytes.now c.args.octets c.args.flags x.files y.files there named c.requires.most e) (g.K.Keeper.told s.keeper) (g.K.Keeper.told n) put in
    let rows = changes_weaken {X = Told} _ _ (λ (x y : Told) e. ap (λ (f : Files). f.rows) e
    ∙ ap (λ (b : List ℕ). x.files.rows ++ (let r : Row = record { mailbox = m; name = b; octets = c.args.bytes.now } in r) ∷ []) named.written) (g.K.Keeper.told s.keeper) (g.K.Keeper.told n) put in
    rw (← c.self.view_is, c.write_lines.ensures.limits)
    (acts_lined call l None (Some message) c.args.octets number (s.counts.generation + 1) (g.K.Keeper.told n) (g.K.Keeper.told w.keeper) (g.K.Keeper.faults n) (g.K.Keeper.faults w.keeper) (g.K.Keeper.append_faults n) (g.K.Keeper.append_faults w.keeper)
    (g.K.Keeper.lists w.keeper) w.self.books (λ account shows. moves_delivered l account shows m c.args.octets c.args.flags there c.requires.most (fits account shows)) shifted c.write_lines.ensures.books c.write_lines.ensures.files
    (c.show_kept.ensures.each ∙ c.self.invariant.0) (c.in_default.ensures.cause.kept (search rules)) c.put.ensures.appends c.write_lines.ensures.faults c.write_lines.ensures.appends
    c.args.bytes.now (Delivered number) (λ account shows. delivered_replied l account shows m c.args.octets c.args.flags there (fits account shows)) (record { kind = refl; names = tt }) refl (λ wrote. wrote)
    rows (omega arith) (omega arith)
    (spends_not _ ⊥ _ _ _ _ (λ f. absurd f) (spends_others _ _ _ _ _ _ _ c.in_default.ensures.due c.put.ensures.appends)) c.write_lines.ensures.due)
