use Rattle.std.proofs.Common.{List, Err, map, length, sym, ap, ◌∙◌, subst, arith}
use Rattle.std.proofs.KnownBytes.{Keeps-refl}
use Rattle.account_ledger.specs.States.{State}
use Rattle.desk.specs.Logs.{IsLog}
use Rattle.keeper.specs.Calls.{Changes}
use Rattle.host_opening.specs.Opening.{WasOpened}
use Rattle.host_opening.specs.Closing.{ClosesEach}
use Rattle.plain_desk.specs.Continuing.{Continues, EachContinues}
use Rattle.plain_desk.specs.Owning.{share_of}
use Rattle.front_core.specs.Desks.{IsDeskOf}
use Rattle.sessions.specs.Fronts.{IsSessionOf}
use Rattle.quotactl.specs.Hosting.{not_opened, served}
use Rattle.quotactl.specs.Lines.{opening_line, opening_status}
use Rattle.quotactl.proofs.Hosting.{all_fresh, as_many, no_seven, not_four, not_read, of_seven, opened_desk, three_statuses}
use Rattle.quotactl.proofs.accounts.serve_table.Goals as goal

pub returns-in-Err : goal.returns-in-Err
returns-in-Err g c =
    let cause = c.in-Err.cause in
    let status = c.refuse_opening.result in
    let which = three_statuses (g.O.Sink.written c.args.sink.now) (g.O.Sink.written c.refuse_opening.new.sink) (opening_line cause) (opening_status cause) status c.refuse_opening.ensures.ends in
    record {
      serves = not_opened cause c.in-Err.ensures.refuses (Keeps-refl (g.S.Source.left c.args.source.now)) c.refuse_opening.ensures.ends;
      read_cause = not_read (g.S.Source.faults c.args.source.now) (opening_status cause) status which (not_four cause);
      write_cause = c.refuse_opening.ensures.write_cause;
      store_cause = λ seven. c.in-Err.ensures.cause.rose (ap (λ e. Err e) (of_seven cause status which seven));
      store_later = c.in-Err.ensures.cause.later;
    }

pub new-desk-requires-clause-fresh : goal.new-desk-requires-clause-fresh
new-desk-requires-clause-fresh g c = all_fresh c.args.table.now.epoch c.args.table.now.accounts c.in-Ok.states.items c.in-Ok.ensures.opened

pub new-desk-requires-clause-few : goal.new-desk-requires-clause-few
new-desk-requires-clause-few g c =
    let many = as_many (WasOpened c.args.table.now.epoch) c.args.table.now.accounts c.in-Ok.states.items c.in-Ok.ensures.opened in
    omega (arith, many, c.count-count.ensures.accounts.few)

pub run_session-end-requires-clause-desk : goal.run_session-end-requires-clause-desk
run_session-end-requires-clause-desk g c =
    subst (λ (states : List State). IsDeskOf c.args.table.now (map share_of states)) (sym c.new-desk.ensures) (opened_desk c.args.table.now c.in-Ok.states.items c.in-Ok.ensures.opened)

pub close_accounts-requires : goal.close_accounts-requires
close_accounts-requires g c =
    let many = as_many (WasOpened c.args.table.now.epoch) c.args.table.now.accounts c.in-Ok.states.items c.in-Ok.ensures.opened in
    let later = as_many Continues c.new-desk.result c.run_session-end.new.desk c.run_session-end.ensures.leads in
    ap length c.into_states.ensures.states ∙ later ∙ ap length c.new-desk.ensures ∙ many

pub returns-clause-serves : goal.returns-clause-serves
returns-clause-serves g c =
    let hosts = c.args.table.now in
    let opened = c.in-Ok.states.items in
    let closed = c.run_session-end.new.desk in
    let left = g.S.Source.left c.args.source.now in
    let left' = g.S.Source.left c.run_session-end.new.source in
    let written = g.O.Sink.written c.args.sink.now in
    let written' = g.O.Sink.written c.run_session-end.new.sink in
    let between = g.M.Stores.told c.open_accounts.new.stores in
    let end = c.run_session-end.result in
    served (record {
      opened = opened;
      closed = closed;
      between = between;
      end = end;
      were_opened = c.in-Ok.ensures.opened;
      opens = c.in-Ok.ensures.opens;
      session =
          subst (λ (states : List State). IsSessionOf hosts c.args.front (IsLog (map share_of states) (map share_of closed)) left left' written written' end)
          c.new-desk.ensures c.run_session-end.ensures.session;
      continues = subst (λ (states : List State). EachContinues states closed) c.new-desk.ensures c.run_session-end.ensures.leads;
      owned = c.into_states.ensures.owned;
      closes = subst (λ (states : List State). Changes (ClosesEach g.M.K.Keeper.told g.M.K.Keeper.faults g.M.K.Keeper.append_faults g.M.K.Keeper.lists hosts.accounts states) between (g.M.Stores.told c.close_accounts.new.stores))
          c.into_states.ensures.states c.close_accounts.ensures.closes;
      status_is = c.status.ensures.value;
    })

pub returns-clause-read_cause : goal.returns-clause-read_cause
returns-clause-read_cause g c =
    let reads = c.run_session-end.ensures.read_cause in
    record { later = reads.later; rose = λ four. reads.rose (c.status.ensures.read.0 four); kept = λ other. reads.kept (λ same. other (c.status.ensures.read.1 same)) }

pub returns-clause-write_cause : goal.returns-clause-write_cause
returns-clause-write_cause g c =
    let writes = c.run_session-end.ensures.write_cause in
    record { later = writes.later; rose = λ five. writes.rose (c.status.ensures.write.0 five); kept = λ other. writes.kept (λ same. other (c.status.ensures.write.1 same)) }

pub returns-clause-store_cause : goal.returns-clause-store_cause
returns-clause-store_cause g c = λ seven. absurd (no_seven c.run_session-end.result (sym c.status.ensures.value ∙ seven))
