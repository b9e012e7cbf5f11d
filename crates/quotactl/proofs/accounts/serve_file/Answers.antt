use Rattle.std.proofs.Common.{◌≡◌, refl, ap, subst, arith}
use Rattle.std.proofs.KnownBytes.{Keeps-refl}
use Rattle.accounts_file.specs.Hosts.{Hosts}
use Rattle.quotactl.specs.Hosting.{IsNobody, accepted, file_refused, no_account}
use Rattle.quotactl.specs.Words.{hosted_form}
use Rattle.quotactl.specs.Lines.{file_line, file_status}
use Rattle.quotactl.proofs.Hosting.{file_not_four, file_not_seven, not_read, three_statuses}
use Rattle.quotactl.proofs.accounts.serve_file.Goals as goal

pub returns-in-Err : goal.returns-in-Err
returns-in-Err g c =
    let fault = c.in-Err.fault in
    let status = c.refuse_file.result in
    let which = three_statuses (g.O.Sink.written c.args.sink.now) (g.O.Sink.written c.refuse_file.new.sink) (file_line fault) (file_status fault) status c.refuse_file.ensures.ends in
    record {
      serves = file_refused fault c.in-Err.ensures.refused refl (Keeps-refl (g.S.Source.left c.args.source.now)) c.refuse_file.ensures.ends;
      read_cause = not_read (g.S.Source.faults c.args.source.now) (file_status fault) status which (file_not_four fault);
      write_cause = c.refuse_file.ensures.write_cause;
      store_cause = λ seven. absurd (file_not_seven fault status which seven);
      store_later = omega arith;
    }

pub returns-clause-serves : goal.returns-clause-serves
returns-clause-serves g c =
    let name = c.in-Err-front_for.name.now in
    no_account name c.in-Ok.ensures.accepted.0 (subst (λ (hosts : Hosts). IsNobody hosts (hosted_form c.args.session) name) c.in-Ok.ensures.accepted.1 c.in-Err-front_for.ensures.none)
    refl (Keeps-refl (g.S.Source.left c.args.source.now)) c.refuse_account.ensures.ends

pub returns-in-Ok-front_for-clause-serves : goal.returns-in-Ok-front_for-clause-serves
returns-in-Ok-front_for-clause-serves g c =
    accepted c.in-Ok.table c.in-Ok-front_for.front (record { accepted = c.in-Ok.ensures.accepted.0; table = c.in-Ok.ensures.accepted.1; front_is = c.in-Ok-front_for.ensures.front }) c.serve_table.ensures.serves
