use Rattle.account_core.proofs.WholeScans.{whole_scan_is_usage}
use Rattle.account_core.proofs.laws.whole_scans_are_usages.Goals as goal

pub returns : goal.returns
returns c = whole_scan_is_usage
