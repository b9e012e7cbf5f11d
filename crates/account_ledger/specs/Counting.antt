-- What the files of a mailbox add up to.
use Rattle.std.specs.Prelude.{◌≡◌, ◌+◌, ◌≤◌, ◌<◌, ◌^◌, ℕ, if◌then◌else◌, List, length, sum_by, slice_index_or, []}
use Rattle.keeper.specs.declared.rows.FileRow.{FileRow}
use Rattle.message_names.specs.FlagLetters.{flags_of}
use Rattle.account_core.specs.Account.{Account, Message}
use Rattle.account_core.specs.Messages.{sum_in}
use Rattle.account_ledger.specs.declared.counting.MailboxSums.{MailboxSums}
use Rattle.account_ledger.specs.Messages.{message_in}
use Rattle.quota_units.specs.Sums.{cut_sum, cut_totals, max_sum, AreSmall}
use Rattle.root_ledgers.specs.Scans.{size_of_file, sizes_of}

-- one if the file lacks the flag S, or else zero
abbrev pub unseen_of : FileRow → ℕ
unseen_of file = if (flags_of file.name).seen then 0 else 1

-- one, and the file's octets, if the file has the flag T, or else zero
abbrev pub deleted_of : FileRow → ℕ
deleted_of file = if (flags_of file.name).trashed then 1 else 0

abbrev pub deleted_size_of : FileRow → ℕ
deleted_size_of file = if (flags_of file.name).trashed then size_of_file file else 0

-- what the files add up to, each sum cut
abbrev pub sums_of : List FileRow → MailboxSums
sums_of files = record {
  all = cut_totals (sizes_of files) (length files);
  deleted = cut_totals (sum_by deleted_size_of files) (sum_by deleted_of files);
  unseen = cut_sum (sum_by unseen_of files);
}

-- the sums with one more file
abbrev pub with_file : MailboxSums → FileRow → MailboxSums
with_file sums file = record {
  all = cut_totals (sums.all.octets + size_of_file file) (sums.all.count + 1);
  deleted = cut_totals (sums.deleted.octets + deleted_size_of file)
      (sums.deleted.count + deleted_of file);
  unseen = cut_sum (sums.unseen + unseen_of file);
}

pub record AreSmallSums (sums : MailboxSums) : Type 0 where
  pub all : AreSmall sums.all
  pub deleted : AreSmall sums.deleted
  pub unseen : sums.unseen < 2 ^ 62

-- the mailbox at this place
abbrev pub mailbox_at : List (List ℕ) → ℕ → List ℕ
mailbox_at mailboxes index = slice_index_or mailboxes index []

-- The files stand for the account's messages of a mailbox: any weight of a message adds up to the
-- same over the files and over the messages. And the account is so small that no sum is cut.
pub record TellMailbox (mailbox : List ℕ) (files : List FileRow) (account : Account) : Type 0 where
  pub sums : (weight : Message → ℕ) → sum_by (λ file. weight (message_in mailbox file)) files
      ≡ sum_in mailbox weight account.messages
  pub octets : sum_by (λ (m : Message). m.octets) account.messages ≤ max_sum
  pub count : length account.messages ≤ max_sum
