use Rattle.std.proofs.Common.{Some, ap, ◌∙◌, arith}
use Rattle.workload.specs.Pipes.{Collected}
use Rattle.workload.proofs.Desks.{fresh_account, same_account}
use Rattle.workload.proofs.Served.{served}
use Rattle.workload.proofs.run.serve.Goals as goal

pub returns-in_err-end_with_memory-clause-account : goal.returns-in_err-end_with_memory-clause-account
returns-in_err-end_with_memory-clause-account c =
    same_account c.args.desk.now c.run_session-end.new.desk (fresh_account c.args.desk.now c.requires.fresh c.requires.never_fails) c.run_session-end.ensures.leads

pub returns : goal.returns
returns c =
    let s = c.run_session-end in
    let is = served c.args.table.now c.args.desk.now s.new.desk c.args.bytes.items c.new-source.result c.new-sink.result.bytes s.new.sink.bytes (Some s.new.source) s.result
    c.requires.table c.requires.fresh c.new-source.ensures (ap (λ (o : Collected). o.bytes) c.new-sink.ensures) c.requires.never_fails s.ensures.leads
    (record { each = c.show_owned.ensures.each; few = c.show_owned.ensures.few }) s.ensures.session
    (λ e. absurd (omega (arith, s.ensures.read_cause.rose e))) c.in_ok-end_with_memory.ensures.written c.in_ok-end_with_memory.ensures.memory in record {
      text = c.into_bytes.ensures ∙ is.text;
      shares = is.world;
      account = same_account c.args.desk.now s.new.desk (fresh_account c.args.desk.now c.requires.fresh c.requires.never_fails) s.ensures.leads;
    }
