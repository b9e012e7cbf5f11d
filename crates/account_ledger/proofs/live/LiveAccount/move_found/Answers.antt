use Rattle.std.proofs.Common.{◌≡◌, Bool, true, false, not, ◌&&◌, [], Some, Option, refl, sym, ap, subst, ◌∙◌, rules, bytes_eq}
use Rattle.std.specs.Prelude.{Ok, Err, IfSome, if◌then◌else◌}
use Rattle.std.proofs.lemmas.Slice.Eq.{bytes_eq-Decides}
use Rattle.quota_roots.specs.Governing.{governs_at}
use Rattle.keeper.proofs.Changing.{changes_same}
use Rattle.keeper.specs.Calls.{Told, Changes, OnFiles}
use Rattle.keeper.specs.Files.{listed}
use Rattle.keeper.specs.declared.rows.FileRow.{FileRow}
use Rattle.account_core.specs.declared.calls.Call.TheVariants.{Move}
use Rattle.account_core.specs.declared.calls.Reply.TheVariants.{Moved, NameTaken}
use Rattle.account_core.specs.Account.{Account}
use Rattle.account_ledger.specs.Filing.{RowsFor}
use Rattle.account_ledger.specs.NamedFiles.{file_named}
use Rattle.account_ledger.specs.Writing.{named_line, nothing}
use Rattle.account_ledger.proofs.Answering.{none_needed}
use Rattle.account_ledger.proofs.Found.{renamed_same}
use Rattle.account_ledger.proofs.Lined.{acts_still, changes_known}
use Rattle.account_ledger.specs.Settling.{needs}
use Rattle.account_ledger.specs.Lives.{Shows}
use Rattle.account_ledger.proofs.Moving.{refused_leaves, taken_replied, within_leaves, within_replied}
use Rattle.account_ledger.proofs.Settled.{looks_prepare}
use Rattle.account_ledger.proofs.Showing.{known, ok_is_no_err}
use Rattle.account_ledger.proofs.Stepping.{calm_looked, not_failed, prepares_same, steps_answered, steps_looked, steps_then, steps_unlisted}
use Rattle.account_ledger.proofs.live.LiveAccount.move_found.Goals as goal
use Rattle.account_ledger.proofs.live.LiveAccount.move_found.Goals.{in-Some, in-None}

pub returns-in_err-find_file : goal.returns-in_err-find_file
returns-in_err-find_file g c =
    let is : c.from_residual.result ≡ Err c.in_err-find_file.field-0.0 = search rules in
    rw is (steps_unlisted (Move c.args.from.now c.args.base.now c.args.to.now) [] c.find_file.result c.args.self.now c.find_file.new.self c.find_file.ensures.looks c.find_file.ensures.never_full c.find_file.ensures.whole
    c.in_err-find_file.field-0.0 c.in_err-find_file.was tt)

pub returns-then-eq : goal.returns-then-eq
returns-then-eq g c =
    let l = c.args.self.now in
    let from = c.args.from.now in
    let base = c.args.base.now in
    let to = c.args.to.now in
    let file = c.args.file.now in
    let call = Move from base to in
    let same : bytes_eq from to ≡ true = search rules in
    let Found = λ (t : Told). Some file ≡ file_named base (listed from t.files.rows) in
    let IsSame = λ (x y : Told). y ≡ x in
    let kept : Changes IsSame l.told l.told = changes_same {X = Told} IsSame (λ (x : Told). refl) l.told in
    let replied = λ (account : Account) (shows : Shows l account).
    within_replied l account shows from base to c.requires.source c.requires.target file (known l account Found shows c.requires.found) same in
    steps_then call [] (Ok Moved) ⊥ l l l (λ f. f) (prepares_same ⊥ (needs l.roots call) l (λ f. f)) c.show_whole.ensures
    (none_needed call l l (λ root. no_gain (governs_at l.roots root from) (governs_at l.roots root to) (ap (governs_at l.roots root) ((bytes_eq-Decides from to).0 same))))
    (acts_still call [] Moved l replied (record { kind = refl; names = tt }) refl (ap (λ (b : Bool). if b then nothing else (named_line from base (Some from) (Some to))) same)
    (changes_known Found IsSame (OnFiles (λ files files1. RowsFor l.epoch call [] Moved files.rows files1.rows)) l.told l.told c.requires.found kept
    (λ x y is e. (file, sym is, ap (λ (t : Told). t.files.rows) e ∙ sym (renamed_same from file.name to file.name x.files.rows ((bytes_eq-Decides from to).0 same) refl))))
    (λ account shows. refused_leaves l.roots account from base to Moved (replied account shows) (within_leaves account from base to same)))
    (λ e. absurd (ok_is_no_err e)) tt
  where
    no_gain : (a b : Bool) → a ≡ b → (b && not a) ≡ false
    no_gain true true e = refl
    no_gain false false e = refl
    no_gain true false e = refl
    no_gain false true e = absurd (cc)

pub returns : goal.returns
returns g c =
    let l = c.args.self.now in
    let n = c.find_file.new.self in
    let from = c.args.from.now in
    let base = c.args.base.now in
    let to = c.args.to.now in
    let file = c.args.file.now in
    let call = Move from base to in
    let not = not_failed c.in_ok-find_file.was in
    let apart : bytes_eq from to ≡ false = search rules in
    let Found = λ (t : Told). Some file ≡ file_named base (listed from t.files.rows) in
    elim c.match-branch-2.branch [
      | in-Some w ↦
          let other = w.in-Some.field-0 in
          let Taken = λ (t : Told). Some other ≡ file_named base (listed to t.files.rows) in
          let taken = subst (λ (o : Option FileRow). IfSome l.told (λ t. o ≡ file_named base (listed to t.files.rows))) w.in-Some.is c.in_ok-find_file.ensures.found in
          let replied = λ (account : Account) (shows : Shows l account).
          taken_replied l account shows from base to c.requires.source c.requires.target file (known l account Found shows c.requires.found) other apart (known l account Taken shows taken) in
          rw (w.result-is, w.self-is)
          (steps_answered call [] NameTaken _ l n not (looks_prepare _ (needs l.roots call) l n c.find_file.ensures.looks) c.find_file.ensures.whole (calm_looked _ l n c.find_file.ensures.looks not)
          replied (record { kind = refl; names = tt }) (λ account shows. refused_leaves l.roots account from base to NameTaken (replied account shows) refl) refl (λ rows. refl) tt)
      | in-None w ↦
          rw (w.result-is, w.self-is) (steps_looked call [] w.move_fitting.result _ l n w.move_fitting.new.self c.find_file.ensures.looks not w.move_fitting.ensures tt)
    ]
