-- What calls write into ledgers after the roots that they need are settled.
use Rattle.std.specs.Prelude.{◌≡◌, ◌⊎◌, ℕ, Bool, true, false, List, length, sum_by, Option, Some, None, Result, Ok, Err, bytes_eq, if◌then◌else◌}
use Rattle.std.specs.Option.{option_map}
use Rattle.std.specs.List.{range_with_len}
use Rattle.quota_roots.specs.declared.root.RootSpec.{RootSpec}
use Rattle.keeper.specs.Files.{Files, ledger_at, bytes_of}
use Rattle.keeper.specs.Calls.{Changes, OnFiles, Writes}
use Rattle.admission.specs.Fitting.{limits_at}
use Rattle.account_core.specs.declared.calls.Call.{Call}
use Rattle.account_core.specs.declared.calls.Call.TheVariants.{Deliver, Remove, Move, SetLimits}
use Rattle.account_core.specs.declared.calls.Reply.{Reply}
use Rattle.account_core.specs.declared.calls.Reply.TheVariants.{Delivered, Removed, Moved, LimitsSet, NoMailbox, NoMessage, NameTaken, NoRoot}
use Rattle.account_core.specs.declared.calls.RootRow.{RootRow}
use Rattle.account_core.specs.declared.calls.StepError.{StepError}
use Rattle.account_core.specs.declared.calls.StepError.TheVariants.{Store as StoreError}
use Rattle.account_core.specs.Account.{Account}
use Rattle.account_core.specs.Messages.{named_message}
use Rattle.account_core.specs.Machine.{step}
use Rattle.root_ledgers.specs.declared.book.Standing.{Standing}
use Rattle.root_ledgers.specs.declared.book.Standing.TheVariants.{Settled, Doubt}
use Rattle.root_ledgers.specs.declared.change.Change.{Change}
use Rattle.root_ledgers.specs.Ledgers.{folded}
use Rattle.root_ledgers.specs.Lines.{HasCauses, LineLedger, change_at, fallen_at, has_room, line_by}
use Rattle.account_ledger.specs.Stores.{Store, length_at, standing_at, usage_at}
use Rattle.account_ledger.specs.Settling.{AreSettled, LedgersStay, LedgersAndFaultsStay, needs}

-- how a line may change the standing of a root
abbrev pub LineStanding : Option Change → Standing → Standing → Type 0
LineStanding None standing standing' = standing' ≡ standing
LineStanding (Some change) Doubt standing' = standing' ≡ Doubt
LineStanding (Some change) Settled standing' = Unit {0}

-- How the ledger of a root changes. If the root is settled and its usage changes, the ledger gets
-- its line, or this folded text if it has no room for the line. Any other ledger stays.
abbrev pub LineAt : Option Change → ℕ → List ℕ → Standing → Option (List ℕ) → Standing
    → Option (List ℕ) → Type 0
LineAt None octets text standing ledger standing' ledger' = ledger' ≡ ledger
LineAt (Some change) octets text Doubt ledger standing' ledger' = ledger' ≡ ledger
LineAt (Some change) octets text Settled ledger standing' ledger' =
    LineLedger (has_room (length (bytes_of ledger)) (line_by change octets)) (line_by change octets)
    text ledger standing' ledger'

-- how the ledgers of all roots change
abbrev pub LinesAt : List RootSpec → Account → (from to : Option (List ℕ)) → ℕ
    → List Standing → List Standing → Files → Files → Type 0
LinesAt roots account from to octets standings standings' files files' = (root : ℕ)
    → LineAt (change_at roots from to root) octets
    (folded (limits_at account.limits root) (usage_at roots root account))
    (standing_at standings root) (ledger_at files root)
    (standing_at standings' root) (ledger_at files' root)

-- how many settled roots fell into doubt, of those whose ledger had room for the line, or of those
-- whose ledger had none, as `room` says
abbrev pub how_many_fell : Bool → (from to : Option (List ℕ)) → ℕ → Store → Store → ℕ
how_many_fell room from to octets f f' =
    sum_by (λ root. fallen_at room (change_at f.roots from to root) octets
    (standing_at f.standings root) (length_at f.lengths root) (standing_at f'.standings root))
    (range_with_len 0 (length f.roots))

-- This call takes a message of this many octets from one mailbox to another, and each settled root
-- whose usage changes gets one line. A root falls into doubt only if its own line, or the folded
-- text in place of its ledger, could not be written.
pub record WritesLines (Is : Account
    → Type 0) (call : Call) (from to : Option (List ℕ)) (octets : ℕ) (f f' : Store) : Type 0 where
  pub count : length f'.standings ≡ length f.standings
  pub standings : (root : ℕ) → LineStanding (change_at f.roots from to root)
      (standing_at f.standings root) (standing_at f'.standings root)
  pub ledgers : (account : Account) → Is account
      → Changes (OnFiles (LinesAt f.roots (step f.roots account call) from to octets
      f.standings f'.standings)) f.told f'.told
  pub faults : HasCauses (how_many_fell false from to octets f f') f.faults f'.faults
  pub appends : HasCauses (how_many_fell true from to octets f f') f.append_faults f'.append_faults

-- a root gets these limits: its ledger becomes the folded text of them and of its usage
pub record InstallsLimits (row : RootRow) (f f' : Store) : Type 0 where
  pub standings : f'.standings ≡ f.standings
  pub files : Changes (OnFiles (Writes row.root
      (folded row.limits (record { octets = row.octets; count = row.count })))) f.told f'.told
  pub faults : f'.faults ≡ f.faults
  pub appends : f'.append_faults ≡ f.append_faults

-- the named message has this many octets
abbrev pub HasNamed : List ℕ → List ℕ → ℕ → Account → Type 0
HasNamed mailbox base octets account =
    option_map (λ message. message.octets) (named_message mailbox base account.messages)
    ≡ Some octets

-- the call takes the message that the mailbox and the base name from one mailbox to another, and
-- writes its octets into the lines
pub record WritesMove (Is : Account → Type 0) (call : Call) (mailbox base : List ℕ)
    (from to : Option (List ℕ)) (f f' : Store) : Type 0 where
  pub octets : ℕ
  pub named : (account : Account) → Is account → HasNamed mailbox base octets account
  pub lines : WritesLines Is call from to octets f f'

-- What a call writes, by its reply: nothing, or the line of a message of this many octets that goes
-- from one mailbox to another, or the line of the message that a mailbox and a base name, or
-- limits.
pub data Writing : Type 0 where
  nothing : Writing
  line : (from to : Option (List ℕ)) → ℕ → Writing
  named_line : (mailbox base : List ℕ) → (from to : Option (List ℕ)) → Writing
  limits_of : RootRow → Writing

abbrev pub writing : Call → Reply → Writing
writing (Deliver mailbox octets flags) (Delivered number) = line None (Some mailbox) octets
writing (SetLimits name limits) (LimitsSet row) = limits_of row
writing (Remove mailbox base) Removed = named_line mailbox base (Some mailbox) None
writing (Move from base to) Moved =
    if bytes_eq from to then nothing else (named_line from base (Some from) (Some to))
writing call given = nothing

abbrev pub WritesSo : (Account → Type 0) → Call → Writing → Store → Store → Type 0
WritesSo Is call nothing f f' = LedgersAndFaultsStay f f'
WritesSo Is call (line from to octets) f f' = WritesLines Is call from to octets f f'
WritesSo Is call (named_line mailbox base from to) f f' =
    WritesMove Is call mailbox base from to f f'
WritesSo Is call (limits_of row) f f' = InstallsLimits row f f'

-- What a call writes, by its result. If the store failed, the ledgers stay; after another error the
-- counts of faults stay too.
abbrev pub WritesBy : (Account → Type 0) → Call → Result Reply StepError → Store → Store → Type 0
WritesBy Is call (Ok given) f f' = WritesSo Is call (writing call given) f f'
WritesBy Is call (Err StoreError) f f' = LedgersStay f f'
WritesBy Is call (Err fault) f f' = LedgersAndFaultsStay f f'

-- a call that puts or renames a file after it has settled roots
abbrev pub is_filing : Call → Bool
is_filing (Deliver mailbox octets flags) = true
is_filing (Move from base to) = true
is_filing call = false

-- If memory ran out, the standings, the ledgers and the counts of faults are as before. Or the call
-- has settled the roots that it needs, and then the keeper ran out of memory to put or rename a
-- file.
abbrev pub Spares : Call → Store → Store → Type 0
Spares call f f' = LedgersAndFaultsStay f f'
    ⊎ ((is_filing call ≡ true) × AreSettled (needs f.roots call) f')

-- the reply says that a mailbox, a message or a root is missing, or that a base is taken
abbrev pub misses : Reply → Bool
misses NoMailbox = true
misses NoMessage = true
misses NameTaken = true
misses NoRoot = true
misses given = false
