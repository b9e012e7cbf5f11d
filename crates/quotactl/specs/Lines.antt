-- The lines that the program writes of its own, and the status after each.
use Rattle.std.specs.Prelude.{◌≡◌, ◌⊎◌, ℕ, List, [], ◌++◌, codes, Option}
use Rattle.std.specs.Fmt.{decimal}
use Rattle.std.specs.Io.KnownBytes.{Appends, Keeps}
use Rattle.wire_io.specs.Sending.{AppendsPart}
use Rattle.account_opening.specs.declared.error.OpenError.{OpenError}
use Rattle.account_opening.specs.declared.error.OpenError.TheVariants.{Store, TooManyMessages, DoubleName, EpochUsed, NoMemory as open_no_memory}
use Rattle.accounts_file.specs.Keys.{word}
use Rattle.accounts_file.specs.declared.error.AccountsError.{AccountsError}
use Rattle.accounts_file.specs.declared.error.AccountsError.TheVariants.{NotToml, Missing, BadValue, Double, TooMany, NoMemory}
use Rattle.workload.specs.Summaries.{summary}
use Rattle.workload.specs.Texts.{text_of}

-- a line of these words and then this value
abbrev pub said : List ℕ → List ℕ → List ℕ
said words value = words ++ (value ++ codes "\n")

abbrev pub usage_line : List ℕ
usage_line = codes "usage: quotactl session N | imap [ACCOUNT] | jmap | policy | recalc ACCOUNT"
    ++ codes " | check | workload N\n"

-- why an accounts file is refused; nothing is said if memory runs out
abbrev pub file_line : AccountsError → List ℕ
file_line NotToml = codes "accounts: not TOML\n"
file_line (Missing key) = said (codes "accounts: missing ") (word key)
file_line (BadValue key) = said (codes "accounts: bad ") (word key)
file_line (Double name) = said (codes "accounts: double ") name
file_line (TooMany key) = said (codes "accounts: too many ") (word key)
file_line NoMemory = []

abbrev pub file_status : AccountsError → ℕ
file_status NotToml = 2
file_status (Missing key) = 2
file_status (BadValue key) = 2
file_status (Double name) = 2
file_status (TooMany key) = 2
file_status NoMemory = 6

-- the accounts file has no account of this name
abbrev pub no_account_line : List ℕ → List ℕ
no_account_line name = said (codes "no account ") name

-- why an account is not opened; nothing is said if memory runs out
abbrev pub opening_line : OpenError → List ℕ
opening_line Store = codes "store unavailable\n"
opening_line (TooManyMessages found) = said (codes "too many messages ") (decimal found)
opening_line (DoubleName name) = said (codes "double name ") name
opening_line (EpochUsed name) = said (codes "epoch used ") name
opening_line open_no_memory = []

abbrev pub opening_status : OpenError → ℕ
opening_status Store = 7
opening_status (TooManyMessages found) = 14
opening_status (DoubleName name) = 13
opening_status (EpochUsed name) = 12
opening_status open_no_memory = 6

-- the summary of a workload of so many requests
abbrev pub summary_lines : ℕ → List ℕ
summary_lines requests = text_of (summary requests)

-- the program writes this line and ends with the line's own status, or a write fails
pub data EndsWith (written written' : Option (List ℕ)) (line : List ℕ) (own status : ℕ)
    : Type 0 where
  -- the line was written
  in_full : Appends written written' line → status ≡ own → EndsWith written written' line own status
  -- a write failed, and a proper prefix of the line was written
  cut_short : AppendsPart written written' line → status ≡ 5
      → EndsWith written written' line own status

-- the same, or memory runs out for the line, and nothing is written
abbrev pub MayEndWith : (written written' : Option (List ℕ)) (line : List ℕ) (own status : ℕ)
    → Type 0
MayEndWith written written' line own status =
    EndsWith written written' line own status ⊎ (Keeps written written' × (status ≡ 6))
