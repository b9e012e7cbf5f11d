use Rattle.std.proofs.Common.{◌≡◌, ◌+◌, true, [], None, Some, refl, sym, ap, subst, ◌∙◌, arith, rules, bytes_eq}
use Rattle.std.specs.Prelude.{IfSome}
use Rattle.std.specs.List.{list_any}
use denote.Param.{param}
use Rattle.keeper.specs.Files.{Files, has_row, listed}
use Rattle.keeper.specs.Calls.{Told, Changes, OnFiles}
use Rattle.keeper.proofs.Spending.{spends_not, spends_others}
use Rattle.account_core.specs.declared.calls.Call.TheVariants.{Remove}
use Rattle.account_core.specs.declared.calls.Reply.TheVariants.{Removed}
use Rattle.account_ledger.specs.Messages.{message_in}
use Rattle.account_ledger.specs.NamedFiles.{file_named}
use Rattle.account_ledger.specs.Lives.{IsShown, Live}
use Rattle.account_ledger.specs.contracts.live.LiveAccount.{the_view}
use Rattle.account_ledger.specs.Filing.{RowsFor}
use Rattle.account_ledger.proofs.Found.{files_removed}
use Rattle.account_ledger.proofs.Shifting.{FilesShifted}
use Rattle.account_ledger.proofs.Lined.{acts_lined, changes_known}
use Rattle.account_ledger.proofs.Removing.{RowRemoved, file_there, has_named, moves_removed, replied}
use Rattle.account_ledger.proofs.Showing.{known, of_shown}
use Rattle.account_ledger.proofs.live.LiveAccount.remove_file.Goals as goal

pub remove-requires : goal.remove-requires
remove-requires g c =
    let s = c.self.inside in
    let l = the_view (param 0 g.row.K) g.K.Keeper s in
    let m = c.args.mailbox.now in
    let base = c.args.base.now in
    let there = subst (λ (v : Live). list_any (λ other. bytes_eq other m) v.mailboxes ≡ true) (sym c.self.view_is) c.requires.there in
    let found = subst (λ (v : Live). IfSome v.told (λ t. Some c.args.file.now ≡ file_named base (listed m t.files.rows))) (sym c.self.view_is) c.requires.found in
    rw c.as_slice.ensures
    (of_shown l (λ t. has_row m c.args.file.now.name t.files.rows ≡ true)
    (λ account shows. file_there l account shows m base c.args.file.now there (known l account (λ t. Some c.args.file.now ≡ file_named base (listed m t.files.rows)) shows found))
    (subst IsShown (sym c.self.view_is) c.requires.shown))

pub returns-clause-acts : goal.returns-clause-acts
returns-clause-acts g c =
    let s = c.self.inside in
    let l = the_view (param 0 g.row.K) g.K.Keeper s in
    let m = c.args.mailbox.now in
    let base = c.args.base.now in
    let file = c.args.file.now in
    let call = Remove m base in
    let n = c.remove.new.self in
    let w = c.write_lines.new in
    let message = message_in m file in
    let Found = λ (t : Told). Some file ≡ file_named base (listed m t.files.rows) in
    let there = subst (λ (v : Live). list_any (λ other. bytes_eq other m) v.mailboxes ≡ true) (sym c.self.view_is) c.requires.there in
    let found = subst (λ (v : Live). IfSome v.told (λ t. Some c.args.file.now ≡ file_named base (listed m t.files.rows))) (sym c.self.view_is) c.requires.found in
    let gone : Changes (RowRemoved m c.as_slice.result.now) (g.K.Keeper.told s.keeper) (g.K.Keeper.told n) = c.in_default.ensures.files in
    let gone1 : Changes (RowRemoved m file.name) (g.K.Keeper.told s.keeper) (g.K.Keeper.told n) = rw c.as_slice.ensures at gone in
    let shifted = changes_known Found (RowRemoved m file.name) (OnFiles (FilesShifted s.mailboxes (Some message) None)) (g.K.Keeper.told s.keeper) (g.K.Keeper.told n) found gone1 (λ x y is e. files_removed s.mailboxes m base file x.files y.files there is e) in
    let rows = changes_known Found (RowRemoved m file.name) (OnFiles (λ files files1. RowsFor s.epoch call [] Removed files.rows files1.rows)) (g.K.Keeper.told s.keeper) (g.K.Keeper.told n) found gone1 (λ x y is e. (file, sym is, ap (λ (f : Files). f.rows) e)) in
    let octets = c.size_of_file-octets.ensures.value in
    rw (← c.self.view_is, c.write_lines.ensures.limits)
    (acts_lined call l (Some message) None message.octets s.counts.deliveries (s.counts.generation + 1) (g.K.Keeper.told n) (g.K.Keeper.told w.keeper) (g.K.Keeper.faults n) (g.K.Keeper.faults w.keeper) (g.K.Keeper.append_faults n) (g.K.Keeper.append_faults w.keeper)
    (g.K.Keeper.lists w.keeper) w.self.books (λ account shows. moves_removed l account shows m base file there (known l account Found shows found)) shifted
    (rw octets at c.write_lines.ensures.books) (rw octets at c.write_lines.ensures.files)
    (c.show_kept.ensures.each ∙ c.self.invariant.0) (c.in_default.ensures.cause.kept (search rules)) c.remove.ensures.appends (rw octets at c.write_lines.ensures.faults) (rw octets at c.write_lines.ensures.appends)
    [] Removed (λ account shows. replied l account shows m base file there (known l account Found shows found) Removed) (record { kind = refl; names = tt }) refl
    (λ wrote. record { octets = message.octets; named = λ account shows. has_named l account shows m base file there (known l account Found shows found); lines = wrote })
    rows (omega arith) (omega arith)
    (spends_not _ ⊥ _ _ _ _ (λ f. absurd f) (spends_others _ _ _ _ _ _ _ c.in_default.ensures.due c.remove.ensures.appends)) c.write_lines.ensures.due)
