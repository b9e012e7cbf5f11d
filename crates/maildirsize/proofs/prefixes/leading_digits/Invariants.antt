use Rattle.std.proofs.Common.{◌≡◌, ◌+◌, min, take, drop}
use Rattle.std.specs.List.{prefix_len}
use Rattle.std.specs.Char.{is_ascii_digit}
use Rattle.std.specs.Str.Parse.{digits_value}
use Rattle.maildirsize.proofs.prefixes.leading_digits.Given as goal

abbrev pub invariant-loop-i : goal.invariant-loop-i
invariant-loop-i l = record {
  number : l.number ≡ min (digits_value 10 (take l.i l.bytes)) 1000000000000000000;
  digits : prefix_len is_ascii_digit (drop l.i l.bytes) + l.i ≡ prefix_len is_ascii_digit l.bytes;
}
