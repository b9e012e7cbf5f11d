use Rattle.std.proofs.Common.{◌≡◌, ◌++◌, not, take}
use Rattle.std.specs.List.{filter}
use Rattle.quota_units.specs.Flagging.{is_flag_letter}
use Rattle.message_names.proofs.writing.push_others.Given as goal

abbrev pub invariant-loop-byte : goal.invariant-loop-byte
invariant-loop-byte l = l.name.items ≡ l.fn.name.items ++ filter (λ b. not (is_flag_letter b)) (take l.byte-index l.bytes)
