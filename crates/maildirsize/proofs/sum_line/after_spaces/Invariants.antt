use Rattle.std.proofs.Common.{◌≡◌, length}
use Rattle.maildirsize.specs.Prefixes.{skip_while}
use Rattle.maildirsize.specs.SumLine.{is_space}
use Rattle.maildirsize.proofs.sum_line.after_spaces.Given as goal

abbrev pub invariant-loop-rest : goal.invariant-loop-rest
invariant-loop-rest l = skip_while is_space l.rest ≡ skip_while is_space l.bytes

abbrev pub decreases-loop-rest : goal.decreases-loop-rest
decreases-loop-rest l = length l.rest
