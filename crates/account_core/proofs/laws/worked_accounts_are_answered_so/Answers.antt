use Rattle.account_core.proofs.Worked.{moves_are_answered, messages_are_counted, scans_are_answered, deliveries_are_answered, checks_are_answered, roots_are_named, limits_are_answered}
use Rattle.account_core.proofs.laws.worked_accounts_are_answered_so.Goals as goal

pub returns-clause-moves : goal.returns-clause-moves
returns-clause-moves c = moves_are_answered

pub returns-clause-counts : goal.returns-clause-counts
returns-clause-counts c = messages_are_counted

pub returns-clause-scans : goal.returns-clause-scans
returns-clause-scans c = scans_are_answered

pub returns-clause-deliveries : goal.returns-clause-deliveries
returns-clause-deliveries c = deliveries_are_answered

pub returns-clause-checks : goal.returns-clause-checks
returns-clause-checks c = checks_are_answered

pub returns-clause-roots : goal.returns-clause-roots
returns-clause-roots c = roots_are_named

pub returns-clause-limits : goal.returns-clause-limits
returns-clause-limits c = limits_are_answered
