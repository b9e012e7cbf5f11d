use Rattle.std.proofs.Common.{List, map, IfSome, codes, ◌≡◌, ◌∷◌, [], rules}
use Rattle.std.specs.Option.{option_copied}
use Rattle.std.specs.String.{string_bytes}
use Rattle.quota_units.specs.Causes.{Rose}
use Rattle.command_words.specs.declared.form.Form.{Form}
use Rattle.command_words.specs.declared.form.Form.TheVariants.{Session, Imap, Policy, Check, Workload}
use Rattle.command_words.specs.Words.{IsForm, IsSessionForm, IsImapForm, IsWorkloadForm}
use Rattle.quotactl.specs.Words.{imap_of, policy_socket}
use Rattle.quotactl.specs.Control.{runs, serves, checks, works}
use Rattle.quotactl.proofs.LedgerChecks.{check_output}
use Rattle.quotactl.proofs.Controlling.{form_is, run_outcome, summary_outcome}
use Rattle.quotactl.proofs.Outcomes.{words_outcome}
use Rattle.quotactl.proofs.control.control.Goals as goal

pub returns-in-Ok-Some-Session-clause-controls : goal.returns-in-Ok-Some-Session-clause-controls
returns-in-Ok-Some-Session-clause-controls g c =
    let words = map string_bytes c.args.words.now in
    let x = c.in-Ok-Some-Session in
    let own : IsSessionForm words x.units = form_is words x.field-0 x.field-0-0 (Session x.units) x.ensures.some x.field-0-is x.field-0-0-is in
    runs x.units own c.run.ensures.runs

pub returns-in-Ok-Some-Session-clause-session_output : goal.returns-in-Ok-Some-Session-clause-session_output
returns-in-Ok-Some-Session-clause-session_output g c = λ n form.
    let words = map string_bytes c.args.words.now in
    let x = c.in-Ok-Some-Session in
    let own : IsSessionForm words x.units = form_is words x.field-0 x.field-0-0 (Session x.units) x.ensures.some x.field-0-is x.field-0-0-is in
    run_outcome (g.S.Source.left c.args.source.now) (g.S.Source.left c.run.new.source) (g.O.Sink.written c.args.sink.now) (g.O.Sink.written c.run.new.sink)
    x.units n c.run.result (Rose (g.S.Source.faults c.args.source.now) (g.S.Source.faults c.run.new.source)) (Rose (g.O.Sink.faults c.args.sink.now) (g.O.Sink.faults c.run.new.sink))
    words own form c.run.ensures.runs c.run.ensures.read_cause.rose c.run.ensures.write_cause.rose

pub returns-in-Ok-Some-Imap-clause-controls : goal.returns-in-Ok-Some-Imap-clause-controls
returns-in-Ok-Some-Imap-clause-controls g c =
    let words = map string_bytes c.args.words.now in
    let x = c.in-Ok-Some-Imap in
    let own : IsImapForm words (option_copied x.account) = form_is words x.field-0 x.field-0-0 (Imap x.account) x.ensures.some x.field-0-is x.field-0-0-is in
    serves (imap_of (option_copied x.account)) own c.serve_file.ensures.serves

pub returns-in-Ok-Some-Imap-clause-untouched : goal.returns-in-Ok-Some-Imap-clause-untouched
returns-in-Ok-Some-Imap-clause-untouched g c = λ none.
    let words = map string_bytes c.args.words.now in
    let x = c.in-Ok-Some-Imap in
    let own : IsImapForm words (option_copied x.account) = form_is words x.field-0 x.field-0-0 (Imap x.account) x.ensures.some x.field-0-is x.field-0-0-is in
    absurd (none (imap_of (option_copied x.account)) own)

pub returns-in-Ok-Some-Imap-clause-accounts_output : goal.returns-in-Ok-Some-Imap-clause-accounts_output
returns-in-Ok-Some-Imap-clause-accounts_output g c = λ session form.
    let words = map string_bytes c.args.words.now in
    let x = c.in-Ok-Some-Imap in
    let s = c.serve_file in
    let own : IsImapForm words (option_copied x.account) = form_is words x.field-0 x.field-0-0 (Imap x.account) x.ensures.some x.field-0-is x.field-0-0-is in
    words_outcome g.M.K.Keeper.told g.M.K.Keeper.faults g.M.K.Keeper.append_faults g.M.K.Keeper.lists
    (Rose (g.S.Source.faults c.args.source.now) (g.S.Source.faults s.new.source)) (Rose (g.O.Sink.faults c.args.sink.now) (g.O.Sink.faults s.new.sink))
    (Rose (g.M.Stores.faults c.args.stores.now) (g.M.Stores.faults s.new.stores)) words c.args.accounts.now c.args.epoch
    (imap_of (option_copied x.account)) session (g.M.Stores.told c.args.stores.now) (g.M.Stores.told s.new.stores)
    (g.S.Source.left c.args.source.now) (g.S.Source.left s.new.source) (g.O.Sink.written c.args.sink.now) (g.O.Sink.written s.new.sink) s.result
    own form s.ensures.serves s.ensures.read_cause.rose s.ensures.write_cause.rose s.ensures.store_cause

pub returns-in-Ok-Some-Policy-clause-controls : goal.returns-in-Ok-Some-Policy-clause-controls
returns-in-Ok-Some-Policy-clause-controls g c =
    let words = map string_bytes c.args.words.now in
    let x = c.in-Ok-Some-Policy in
    let own : words ≡ codes "policy" ∷ [] = form_is words x.field-0 x.field-0-0 Policy x.ensures.some x.field-0-is x.field-0-0-is in
    serves policy_socket own c.serve_file-in-Ok-Some-Policy.ensures.serves

pub returns-in-Ok-Some-Policy-clause-untouched : goal.returns-in-Ok-Some-Policy-clause-untouched
returns-in-Ok-Some-Policy-clause-untouched g c = λ none.
    let words = map string_bytes c.args.words.now in
    let x = c.in-Ok-Some-Policy in
    let own : words ≡ codes "policy" ∷ [] = form_is words x.field-0 x.field-0-0 Policy x.ensures.some x.field-0-is x.field-0-0-is in
    absurd (none policy_socket own)

pub returns-in-Ok-Some-Policy-clause-accounts_output : goal.returns-in-Ok-Some-Policy-clause-accounts_output
returns-in-Ok-Some-Policy-clause-accounts_output g c = λ session form.
    let words = map string_bytes c.args.words.now in
    let x = c.in-Ok-Some-Policy in
    let s = c.serve_file-in-Ok-Some-Policy in
    let own : words ≡ codes "policy" ∷ [] = form_is words x.field-0 x.field-0-0 Policy x.ensures.some x.field-0-is x.field-0-0-is in
    words_outcome g.M.K.Keeper.told g.M.K.Keeper.faults g.M.K.Keeper.append_faults g.M.K.Keeper.lists
    (Rose (g.S.Source.faults c.args.source.now) (g.S.Source.faults s.new.source)) (Rose (g.O.Sink.faults c.args.sink.now) (g.O.Sink.faults s.new.sink))
    (Rose (g.M.Stores.faults c.args.stores.now) (g.M.Stores.faults s.new.stores)) words c.args.accounts.now c.args.epoch
    policy_socket session (g.M.Stores.told c.args.stores.now) (g.M.Stores.told s.new.stores)
    (g.S.Source.left c.args.source.now) (g.S.Source.left s.new.source) (g.O.Sink.written c.args.sink.now) (g.O.Sink.written s.new.sink) s.result
    own form s.ensures.serves s.ensures.read_cause.rose s.ensures.write_cause.rose s.ensures.store_cause

pub returns-in-Ok-Some-Check-clause-controls : goal.returns-in-Ok-Some-Check-clause-controls
returns-in-Ok-Some-Check-clause-controls g c =
    let words = map string_bytes c.args.words.now in
    let x = c.in-Ok-Some-Check in
    let own : words ≡ codes "check" ∷ [] = form_is words x.field-0 x.field-0-0 Check x.ensures.some x.field-0-is x.field-0-0-is in
    checks own c.check.ensures.checks

pub returns-in-Ok-Some-Check-clause-check_output : goal.returns-in-Ok-Some-Check-clause-check_output
returns-in-Ok-Some-Check-clause-check_output g c = λ form.
    check_output (g.S.Source.left c.args.source.now) (g.S.Source.left c.check.new.source) (g.O.Sink.written c.args.sink.now) (g.O.Sink.written c.check.new.sink) c.check.result
    (Rose (g.S.Source.faults c.args.source.now) (g.S.Source.faults c.check.new.source)) (Rose (g.O.Sink.faults c.args.sink.now) (g.O.Sink.faults c.check.new.sink))
    c.check.ensures.checks c.check.ensures.read_cause.rose c.check.ensures.write_cause.rose

pub returns-in-Ok-Some-Workload-clause-controls : goal.returns-in-Ok-Some-Workload-clause-controls
returns-in-Ok-Some-Workload-clause-controls g c =
    let words = map string_bytes c.args.words.now in
    let x = c.in-Ok-Some-Workload in
    let own : IsWorkloadForm words x.requests = form_is words x.field-0 x.field-0-0 (Workload x.requests) x.ensures.some x.field-0-is x.field-0-0-is in
    works x.requests own (search rules) c.write_summary.ensures.ends

pub returns-in-Ok-Some-Workload-clause-workload_output : goal.returns-in-Ok-Some-Workload-clause-workload_output
returns-in-Ok-Some-Workload-clause-workload_output g c = λ n form memory never.
    let words = map string_bytes c.args.words.now in
    let x = c.in-Ok-Some-Workload in
    let own : IsWorkloadForm words x.requests = form_is words x.field-0 x.field-0-0 (Workload x.requests) x.ensures.some x.field-0-is x.field-0-0-is in
    summary_outcome (g.O.Sink.written c.args.sink.now) (g.O.Sink.written c.write_summary.new.sink) x.requests n c.write_summary.result
    (Rose (g.O.Sink.faults c.args.sink.now) (g.O.Sink.faults c.write_summary.new.sink)) words own form c.write_summary.ensures.ends c.write_summary.ensures.write_cause.rose memory never
