use Rattle.std.proofs.Common.{◌≡◌, ◌≤◌, map, length}
use Rattle.std.specs.Prelude.{vec_capacity}
use Rattle.quota_roots.proofs.GoverningLemmas.{governing_below}
use Rattle.account_ledger.specs.Rows.{kept_row}
use Rattle.account_ledger.proofs.rows.rows_of.Given as goal

abbrev pub invariant-loop-root : goal.invariant-loop-root
invariant-loop-root l = record {
  rows : l.rows.items ≡ map (kept_row l.limits l.books) (governing_below l.roots l.mailbox l.root);
  few : length l.rows.items ≤ l.root;
  held : 4 ≤ vec_capacity l.rows;
}
