use Rattle.std.proofs.Common.{◌≡◌, true, take}
use Rattle.std.specs.List.{list_all}
use Rattle.std.specs.Char.{is_ascii_digit}
use Rattle.std.specs.Str.Parse.{digits_value}
use Rattle.message_names.specs.Sizes.{cut_size}
use Rattle.message_names.proofs.sizes.size_in_digits.Given as goal

abbrev pub invariant-loop-b : goal.invariant-loop-b
invariant-loop-b l = record {
  size : l.size ≡ cut_size (digits_value 10 (take l.b-index l.digits));
  digits : list_all is_ascii_digit (take l.b-index l.digits) ≡ true;
}
