use Rattle.std.proofs.Common.{◌≡◌, ℕ, true, false, List, [], Some, refl, sym, ap, subst, ◌∙◌, rules, bytes_eq}
use Rattle.std.specs.Prelude.{IfSome, Ok}
use Rattle.std.specs.List.{list_any}
use denote.Param.{param}
use Rattle.keeper.specs.Files.{Files, has_row, listed, renamed}
use Rattle.keeper.specs.Calls.{Told, Changes, OnFiles}
use Rattle.keeper.proofs.Spending.{spends_not}
use Rattle.message_names.specs.Laws.{IsRenamed}
use Rattle.message_names.specs.Messages.{FileMessage}
use Rattle.message_names.specs.Written.{renamed as renamed_name}
use Rattle.account_core.specs.declared.calls.Call.TheVariants.{Mark}
use Rattle.account_core.specs.declared.calls.Reply.TheVariants.{Marked}
use Rattle.account_core.specs.Messages.{with_flags}
use Rattle.account_ledger.specs.Filing.{RowsFor}
use Rattle.account_ledger.specs.Messages.{message_in}
use Rattle.account_ledger.specs.NamedFiles.{file_named}
use Rattle.account_ledger.specs.Lives.{Acts, IsShown, Live}
use Rattle.account_ledger.specs.contracts.live.LiveAccount.{the_view}
use Rattle.account_ledger.proofs.Found.{files_renamed}
use Rattle.account_ledger.proofs.Lined.{acts_filed, changes_known}
use Rattle.account_ledger.proofs.Removing.{RowRenamed, file_there, marked_message, moves_marked, name_free, no_lines, none_lined, replied}
use Rattle.account_ledger.proofs.Shifting.{FilesShifted, with_lines}
use Rattle.account_ledger.proofs.Showing.{known, of_shown}
use Rattle.account_ledger.proofs.live.LiveAccount.set_flags.Goals as goal

pub rename_file-requires-clause-there : goal.rename_file-requires-clause-there
rename_file-requires-clause-there g c =
    let s = c.self.inside in
    let l = the_view (param 0 g.row.K) g.K.Keeper s in
    let m = c.args.mailbox.now in
    let base = c.args.base.now in
    let there = subst (λ (v : Live). list_any (λ other. bytes_eq other m) v.mailboxes ≡ true) (sym c.self.view_is) c.requires.there in
    let found = subst (λ (v : Live). IfSome v.told (λ t. Some c.args.file.now ≡ file_named base (listed m t.files.rows))) (sym c.self.view_is) c.requires.found in
    rw c.as_slice-name.ensures
    (of_shown l (λ t. has_row m c.args.file.now.name t.files.rows ≡ true)
    (λ account shows. file_there l account shows m base c.args.file.now there (known l account (λ t. Some c.args.file.now ≡ file_named base (listed m t.files.rows)) shows found))
    (subst IsShown (sym c.self.view_is) c.requires.shown))

pub rename_file-requires-clause-free : goal.rename_file-requires-clause-free
rename_file-requires-clause-free g c =
    let s = c.self.inside in
    let l = the_view (param 0 g.row.K) g.K.Keeper s in
    let m = c.args.mailbox.now in
    let base = c.args.base.now in
    let file = c.args.file.now in
    let there = subst (λ (v : Live). list_any (λ other. bytes_eq other m) v.mailboxes ≡ true) (sym c.self.view_is) c.requires.there in
    let found = subst (λ (v : Live). IfSome v.told (λ t. Some c.args.file.now ≡ file_named base (listed m t.files.rows))) (sym c.self.view_is) c.requires.found in
    let back : IsRenamed file.name c.in-Ok.marked.items c.args.flags = rw c.as_slice-name.ensures at c.in-Ok.ensures.reads_back in
    rw (c.as_slice-name.ensures, c.deref.ensures.value) (λ differs.
    of_shown l (λ t. has_row m c.in-Ok.marked.items t.files.rows ≡ false)
    (λ account shows. name_free l account shows m base file there (known l account (λ t. Some file ≡ file_named base (listed m t.files.rows)) shows found) c.in-Ok.marked.items
    (ap (λ (f : FileMessage). f.base) (back.message 0)) differs)
    (subst IsShown (sym c.self.view_is) c.requires.shown))

pub returns-in-Ok-rename_file-clause-acts : goal.returns-in-Ok-rename_file-clause-acts
returns-in-Ok-rename_file-clause-acts g c =
    let s = c.self.inside in
    let l = the_view (param 0 g.row.K) g.K.Keeper s in
    let m = c.args.mailbox.now in
    let base = c.args.base.now in
    let file = c.args.file.now in
    let flags = c.args.flags in
    let call = Mark m base flags in
    let n = c.rename_file.new.keeper in
    let message = message_in m file in
    let name = c.in-Ok.marked.items in
    let back : IsRenamed file.name name flags = rw c.as_slice-name.ensures at c.in-Ok.ensures.reads_back in
    let after : name ≡ renamed_name file.name flags = rw c.as_slice-name.ensures at c.in-Ok.ensures.renamed in
    let Found = λ (t : Told). Some file ≡ file_named base (listed m t.files.rows) in
    let there = subst (λ (v : Live). list_any (λ other. bytes_eq other m) v.mailboxes ≡ true) (sym c.self.view_is) c.requires.there in
    let found = subst (λ (v : Live). IfSome v.told (λ t. Some c.args.file.now ≡ file_named base (listed m t.files.rows))) (sym c.self.view_is) c.requires.found in
    let moved : Changes (RowRenamed m c.as_slice-name.result.now m c.deref.result.now) (g.K.Keeper.told s.keeper) (g.K.Keeper.told n) = c.in-Ok-rename_file.ensures.files in
    let moved1 : Changes (RowRenamed m file.name m name) (g.K.Keeper.told s.keeper) (g.K.Keeper.told n) = rw (c.as_slice-name.ensures, c.deref.ensures.value) at moved in
    let shifted = changes_known Found (RowRenamed m file.name m name) (OnFiles (FilesShifted s.mailboxes (Some message) (Some (with_flags flags message)))) (g.K.Keeper.told s.keeper) (g.K.Keeper.told n) found moved1
    (λ x y is e. files_renamed s.mailboxes m base m name file (with_flags flags message) x.files y.files there there is (marked_message m name file flags back.message) e) in
    let rows = changes_known Found (RowRenamed m file.name m name) (OnFiles (λ files files1. RowsFor s.epoch call [] Marked files.rows files1.rows)) (g.K.Keeper.told s.keeper) (g.K.Keeper.told n) found moved1
    (λ x y is e. (file, sym is, ap (λ (f : Files). f.rows) e ∙ ap (λ (new : List ℕ). renamed m file.name m new x.files.rows) after)) in
    rw (← c.self.view_is)
    (subst (λ k. Acts call [] (Ok Marked) l (with_lines l (g.K.Keeper.told n) (g.K.Keeper.faults n) k (g.K.Keeper.lists n) l.books l.deliveries l.generation)) (sym c.rename_file.ensures.appends)
    (acts_filed call l (Some message) (Some (with_flags flags message)) message.octets (g.K.Keeper.told n) (g.K.Keeper.faults n) (g.K.Keeper.lists n)
    (λ account shows. moves_marked l account shows m base file there (known l account Found shows found) flags) shifted
    (none_lined l.roots m message.octets l.limits l.books) (no_lines l.roots m message.octets l.limits l.books (g.K.Keeper.told n))
    (c.in-Ok-rename_file.ensures.cause.kept (search rules))
    [] Marked (λ account shows. replied l account shows m base file there (known l account Found shows found) Marked) (record { kind = refl; names = tt }) refl refl
    rows
    (spends_not _ ⊥ _ _ _ _ (λ f. absurd f) (rw c.rename_file.ensures.appends at c.in-Ok-rename_file.ensures.due))))
