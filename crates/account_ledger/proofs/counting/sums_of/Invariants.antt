use Rattle.std.proofs.Common.{◌≡◌, take}
use Rattle.account_ledger.specs.Counting.{AreSmallSums, sums_of}
use Rattle.account_ledger.proofs.counting.sums_of.Given as goal

abbrev pub invariant-loop-file : goal.invariant-loop-file
invariant-loop-file l = (l.sums ≡ sums_of (take l.file-index l.files)) × AreSmallSums l.sums
