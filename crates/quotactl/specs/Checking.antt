-- What `check` says of a ledger: what its bytes hold, or the first thing that is wrong with them.
use Rattle.std.specs.Prelude.{◌≡◌, ◌≤◌, ◌⊎◌, ℕ, ℤ, List, ◌++◌, length, codes, Option, Some}
use Rattle.std.specs.Fmt.{decimal, signed_decimal}
use Rattle.std.specs.Io.KnownBytes.{Consumes, Appends, Keeps, IsAtEnd}
use Rattle.wire_io.specs.Sending.{AppendsPart}
use Rattle.maildirsize.specs.declared.ledger_text.LedgerText.{LedgerText}
use Rattle.maildirsize.specs.declared.ledger_text.LedgerFault.{LedgerFault}
use Rattle.maildirsize.specs.declared.ledger_text.LedgerFault.TheVariants.{TooLong, BadDefinition, BadLine, Torn}
use Rattle.maildirsize.specs.Reading.{SumsUp, fault_of}
use Rattle.maildirsize.specs.Written.{written_definition}
use Rattle.quotactl.specs.Lines.{said}

-- the most bytes that are read of a ledger
abbrev pub max_checked : ℕ
max_checked = 65536

abbrev pub sums_text : (octets count : ℤ) → List ℕ
sums_text octets count = said (codes "octets ") (signed_decimal octets)
    ++ said (codes "messages ") (signed_decimal count)

abbrev pub values_text : LedgerText → List ℕ
values_text ledger =
    said (codes "definition ") (written_definition ledger.limits)
    ++ (said (codes "lines ") (decimal ledger.lines) ++ sums_text ledger.octets ledger.count)

abbrev pub fault_text : LedgerFault → List ℕ
fault_text (TooLong length) = said (codes "too long ") (decimal length)
fault_text (BadDefinition at) = said (codes "bad definition at ") (decimal at)
fault_text (BadLine line) = said (codes "bad line ") (decimal line)
fault_text (Torn at) = said (codes "torn at ") (decimal at)

-- the text that `check` writes for these bytes, and the status
pub data Reports (bytes text : List ℕ) (status : ℕ) : Type 0 where
  values : (ledger : LedgerText) → SumsUp bytes ledger → text ≡ values_text ledger → status ≡ 0
      → Reports bytes text status
  fault : (first : LedgerFault) → fault_of bytes ≡ Some first → text ≡ fault_text first → status ≡ 3
      → Reports bytes text status

-- these bytes came from the source: all that it had, or the most that are read
pub record TakesLedger (left left' : Option (List ℕ)) (bytes : List ℕ) : Type 0 where
  pub consumed : Consumes left left' bytes
  pub bounded : length bytes ≤ max_checked
  pub whole : (length bytes ≡ max_checked) ⊎ IsAtEnd left'

-- some bytes came from the source
abbrev pub TakesSome : (left left' : Option (List ℕ)) → Type 0
TakesSome left left' = (bytes : List ℕ) × Consumes left left' bytes

pub data ChecksLedger (left left' written written' : Option (List ℕ)) (status : ℕ) : Type 0 where
  -- what the bytes hold was written, or what is wrong with them
  reported : (bytes text : List ℕ) → TakesLedger left left' bytes → Reports bytes text status
      → Appends written written' text → ChecksLedger left left' written written' status
  -- a write failed, and a proper prefix of that text was written
  cut_short : (bytes text : List ℕ) (due : ℕ) → TakesLedger left left' bytes
      → Reports bytes text due → AppendsPart written written' text → status ≡ 5
      → ChecksLedger left left' written written' status
  -- a read failed or memory ran out, and nothing was written
  unread : TakesSome left left' → Keeps written written' → (status ≡ 4) ⊎ (status ≡ 6)
      → ChecksLedger left left' written written' status
