-- A ledger text as it is read: fewer than 5120 bytes, a definition line, and sum lines (Maildir++,
-- in a lenient profile).
use Rattle.std.specs.Prelude.{◌≡◌, ◌<◌, ℕ, ◌+◌, ◌-◌, nat_lt, nat_le, if◌then◌else◌, List, [], ◌∷◌, length, map, Option, Some, None, option_map}
use Rattle.std.specs.Option.{option_or}
use Rattle.std.specs.List.{prefix_len}
use Rattle.quota_units.specs.Limiting.{LimitNumbers}
use Rattle.maildirsize.specs.declared.ledger_text.LedgerFault.{LedgerFault}
use Rattle.maildirsize.specs.declared.ledger_text.LedgerFault.TheVariants.{TooLong, BadDefinition, BadLine, Torn}
use Rattle.maildirsize.specs.declared.ledger_text.LedgerText.{LedgerText}
use Rattle.maildirsize.specs.Lines.{lines_in, rest_in}
use Rattle.maildirsize.specs.Definition.{definition_in, wrong_member_in}
use Rattle.maildirsize.specs.SumLine.{pair_in, is_sum_line}
use Rattle.maildirsize.specs.Sums.{Pair, sum_of}

-- The text is a ledger with these limits and these pairs: its lines are a definition of the limits
-- and a sum line for each pair, and no bytes come after the last line feed.
pub record Reads (bytes : List ℕ) (limits : LimitNumbers) (pairs : List Pair) : Type 0 where
  pub definition : List ℕ
  pub sums : List (List ℕ)
  pub short : length bytes < 5120
  pub lines : lines_in bytes ≡ definition ∷ sums
  pub whole : rest_in bytes ≡ []
  pub defined : definition_in definition ≡ Some limits
  pub stated : map pair_in sums ≡ map Some pairs

-- a ledger's limits, how many sum lines it has, and their sums
abbrev pub summary : LimitNumbers → List Pair → LedgerText
summary limits pairs =
    record {
      limits = limits;
      lines = length pairs;
      octets = (sum_of pairs).octets;
      count = (sum_of pairs).count;
    }

-- the text is a ledger, and this sums it up
abbrev pub SumsUp : List ℕ → LedgerText → Type 0
SumsUp bytes ledger = (pairs : List Pair) × Reads bytes ledger.limits pairs
    × (ledger ≡ summary ledger.limits pairs)

-- the fault of the first line that is not a sum line; the definition is line 1
abbrev pub line_fault : List (List ℕ) → Option LedgerFault
line_fault sums =
    let right = prefix_len is_sum_line sums in
    if nat_lt right (length sums) then Some (BadLine (right + 2)) else None

-- the fault of a rest that no line feed ends: the offset at which it begins
abbrev pub rest_fault : ℕ → List ℕ → Option LedgerFault
rest_fault len rest = if nat_lt 0 (length rest) then Some (Torn (len - length rest)) else None

-- the first fault of the definition, the sum lines and the rest, in this order; a text with no line
-- is torn at 0
abbrev pub fault_in : ℕ → List (List ℕ) → List ℕ → Option LedgerFault
fault_in len [] rest = Some (Torn 0)
fault_in len (definition ∷ sums) rest =
    option_or (option_map BadDefinition (wrong_member_in definition))
    (option_or (line_fault sums) (rest_fault len rest))

-- the first fault of a text
abbrev pub fault_of : List ℕ → Option LedgerFault
fault_of bytes =
    if nat_le 5120 (length bytes) then Some (TooLong (length bytes))
    else fault_in (length bytes) (lines_in bytes) (rest_in bytes)
