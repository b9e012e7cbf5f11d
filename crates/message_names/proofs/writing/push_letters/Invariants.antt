use Rattle.std.proofs.Common.{◌≡◌, ◌++◌, take}
use Rattle.std.specs.List.{filter}
use Rattle.quota_units.specs.Flagging.{flag_letters, has_flag}
use Rattle.message_names.proofs.writing.push_letters.Given as goal

abbrev pub invariant-loop-letter : goal.invariant-loop-letter
invariant-loop-letter l = record {
  letters : l.letter-items ≡ flag_letters;
  written : l.name.items ≡ l.fn.name.items ++ filter (has_flag l.fn.flags) (take l.letter-index flag_letters);
  kept : l.flags ≡ l.fn.flags;
}
