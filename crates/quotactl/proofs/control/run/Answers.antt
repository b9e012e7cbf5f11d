use Rattle.std.proofs.Common.{◌≡◌, List, [], ◌∷◌, map, Some, ap, ◌∙◌, subst}
use Rattle.quota_units.specs.Limiting.{LimitNumbers}
use Rattle.accounts_file.specs.Hosts.{Hosts, plain_hosts}
use Rattle.desk.specs.Shares.{Share}
use Rattle.plain_desk.specs.Owning.{share_of}
use Rattle.desk.specs.Logs.{IsLog}
use Rattle.sessions.specs.declared.front.Front.TheVariants.{ImapAs}
use Rattle.sessions.specs.Fronts.{IsSessionOf}
use Rattle.owner_sessions.specs.Plain.{plain_share}
use Rattle.owner_sessions.proofs.Alone.{all_undisturbed}
use Rattle.quotactl.specs.Control.{served, fresh, hosts_with, units_of_storage}
use Rattle.quotactl.proofs.control.run.Goals as goal

pub returns-in-Ok-clause-runs : goal.returns-in-Ok-clause-runs
returns-in-Ok-clause-runs g c =
    let left = g.S.Source.left in
    let written = g.O.Sink.written in
    let n = c.args.units in
    let limits : c.in-Some.limits ≡ units_of_storage n = c.in-Some.ensures.value in
    let table : c.in-Ok.table ≡ hosts_with n = c.in-Ok.ensures.table ∙ ap plain_hosts limits in
    let shares : map share_of c.in-Ok.desk ≡ fresh n = c.in-Ok.ensures.shares ∙ ap (λ (l : LimitNumbers). plain_share l ∷ []) limits in
    let shares' = map share_of c.run_session-end.new.desk in
    let s = c.run_session-end in
    served shares' s.result
    (subst (λ (h : Hosts). IsSessionOf h (ImapAs 0) (IsLog (fresh n) shares') (left c.args.source.now) (left s.new.source) (written c.args.sink.now) (written s.new.sink) s.result) table
    (subst (λ (x : List Share). IsSessionOf c.in-Ok.table (ImapAs 0) (IsLog x shares') (left c.args.source.now) (left s.new.source) (written c.args.sink.now) (written s.new.sink) s.result) shares s.ensures.session))
    (all_undisturbed c.in-Ok.desk s.new.desk c.in-Ok.ensures.never_fails s.ensures.leads (record { each = c.show_owned.ensures.each; few = c.show_owned.ensures.few }))
    c.status.ensures.value
