use Rattle.std.proofs.Common.{◌≡◌, true, min, take}
use Rattle.std.specs.List.{list_all}
use Rattle.std.specs.Char.{is_ascii_digit}
use Rattle.std.specs.Str.Parse.{digits_value}
use Rattle.policy_front.proofs.reading.size_of.Given as goal

abbrev pub invariant-loop-b : goal.invariant-loop-b
invariant-loop-b l = record {
  size : l.size ≡ min (digits_value 10 (take l.b-index l.value)) 1099511627775;
  digits : list_all is_ascii_digit (take l.b-index l.value) ≡ true;
}
