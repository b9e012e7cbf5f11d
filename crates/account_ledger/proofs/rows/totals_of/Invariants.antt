use Rattle.std.proofs.Common.{◌≡◌, take, length}
use Rattle.std.specs.List.{All}
use Rattle.quota_units.specs.Sums.{AreSmall}
use Rattle.account_ledger.specs.Rows.{totals_of}
use Rattle.account_ledger.proofs.rows.totals_of.Given as goal

abbrev pub invariant-loop-root : goal.invariant-loop-root
invariant-loop-root l = record {
  value : take l.root l.totals ≡ totals_of (take l.root l.books);
  small : All AreSmall l.totals;
  four : length l.totals ≡ 4;
}
