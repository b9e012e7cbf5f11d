-- The sums over the files of a mailbox, and the messages that they tell.
use Rattle.std.proofs.Common.{◌≡◌, ℕ, ◌+◌, ◌<◌, Bool, true, false, cond, List, [], length, take, get_or, sum_by, bytes_eq, refl, sym, ap, ◌∙◌}
use Rattle.std.proofs.lemmas.List.{take_more, length_push}
use Rattle.std.proofs.lemmas.List.Folds.{list_any_at}
use Rattle.std.proofs.lemmas.Slice.Eq.{bytes_eq-Decides}
use Rattle.quota_units.specs.declared.totals.Totals.{Totals}
use Rattle.quota_roots.specs.Setups.{are_different}
use Rattle.keeper.specs.Files.{Row, is_in, file_of, listed}
use Rattle.keeper.specs.declared.rows.FileRow.{FileRow}
use Rattle.account_core.specs.Account.{Account, Message}
use Rattle.account_core.specs.Messages.{sum_in}
use Rattle.account_ledger.specs.declared.counting.MailboxSums.{MailboxSums}
use Rattle.account_ledger.specs.Counting.{mailbox_at, sums_of, with_file, deleted_of, deleted_size_of, unseen_of}
use Rattle.account_ledger.specs.Messages.{message_in, messages_in, StandFor}
use Rattle.quota_units.specs.Sums.{cut_sum}
use Rattle.root_ledgers.specs.Scans.{size_of_file, sizes_of}
use Rattle.quota_units.proofs.SumLemmas.{same_totals}
use Rattle.root_ledgers.proofs.ScanLemmas.{cut_more, sum_more}
use Rattle.root_ledgers.proofs.Sums.{same_sums, sum_map}
use Rattle.account_ledger.proofs.Weighing.{is_mailbox_of, in_one, rows_weigh, told_by, weigh}

pub same_mailbox_sums : {a b c d : Totals} {m n : ℕ} → a ≡ b → c ≡ d → m ≡ n
    → (let x : MailboxSums = record { all = a; deleted = c; unseen = m } in x) ≡ record { all = b; deleted = d; unseen = n }
same_mailbox_sums {a} {b} {c} {d} {m} {n} e f g =
    ap (λ t. let x : MailboxSums = record { all = t; deleted = c; unseen = m } in x) e
    ∙ ap (λ t. let x : MailboxSums = record { all = b; deleted = t; unseen = m } in x) f
    ∙ ap (λ k. let x : MailboxSums = record { all = b; deleted = d; unseen = k } in x) g

length_more : {X : Type 0} (xs : List X) (i : ℕ) (d : X) → i < length xs → length (take (i + 1) xs) ≡ length (take i xs) + 1
length_more xs i d inside = ap length (take_more xs i d inside) ∙ length_push (take i xs) (get_or xs i d)

-- one file more
pub sums_more : (files : List FileRow) (i : ℕ) (file : FileRow) → i < length files → with_file (sums_of (take i files)) (get_or files i file) ≡ sums_of (take (i + 1) files)
sums_more files i file inside =
    same_mailbox_sums
    (same_totals (cut_more (sizes_of (take i files)) (size_of_file (get_or files i file))) (cut_more (length (take i files)) 1)
    ∙ same_totals (ap cut_sum (sym (sum_more size_of_file files i file inside))) (ap cut_sum (sym (length_more files i file inside))))
    (same_totals (cut_more (sum_by deleted_size_of (take i files)) (deleted_size_of (get_or files i file))) (cut_more (sum_by deleted_of (take i files)) (deleted_of (get_or files i file)))
    ∙ same_totals (ap cut_sum (sym (sum_more deleted_size_of files i file inside))) (ap cut_sum (sym (sum_more deleted_of files i file inside))))
    (cut_more (sum_by unseen_of (take i files)) (unseen_of (get_or files i file)) ∙ ap cut_sum (sym (sum_more unseen_of files i file inside)))

-- the files of a mailbox of the account tell its messages there
module _ (mailboxes : List (List ℕ)) (rows : List Row) (mailbox : List ℕ) (there : is_mailbox_of mailboxes mailbox ≡ true) (weight : Message → ℕ) where
  abbrev here : Message → ℕ
  here m = cond (bytes_eq m.mailbox mailbox) (weight m) 0

  one_row : (row : Row) → cond (is_in mailbox row) (weight (message_in mailbox (file_of row))) 0 ≡ weigh here mailboxes row
  one_row row = step (bytes_eq row.mailbox mailbox) refl
    where
      outside : (b : Bool) → (let z : ℕ = 0 in z) ≡ cond b 0 0
      outside true = refl
      outside false = refl

      step : (b : Bool) → bytes_eq row.mailbox mailbox ≡ b → cond b (weight (message_in mailbox (file_of row))) 0 ≡ cond (is_mailbox_of mailboxes row.mailbox) (cond b (weight (told_by row)) 0) 0
      step true is =
          let same : row.mailbox ≡ mailbox = (bytes_eq-Decides row.mailbox mailbox).0 is in
          ap (λ (x : List ℕ). weight (message_in x (file_of row))) (sym same)
          ∙ ap (λ b. cond b (weight (told_by row)) 0) (sym (ap (is_mailbox_of mailboxes) same ∙ there))
      step false is = outside (is_mailbox_of mailboxes row.mailbox)

  pub listed_tell : (account : Account) → account.mailboxes ≡ mailboxes → are_different mailboxes ≡ true → StandFor rows account
      → sum_by (λ file. weight (message_in mailbox file)) (listed mailbox rows) ≡ sum_in mailbox weight account.messages
  listed_tell account same different stand =
      sym (sum_map weight (message_in mailbox) (listed mailbox rows))
      ∙ in_one weight mailbox rows
      ∙ same_sums (λ (row : Row). cond (is_in mailbox row) (weight (message_in mailbox (file_of row))) 0) (weigh here mailboxes) rows one_row
      ∙ sym (rows_weigh here mailboxes rows different)
      ∙ ap (λ ms. sum_by here (messages_in ms rows)) (sym same)
      ∙ stand here

-- the mailbox at a place is one of them
pub mailbox_there : (mailboxes : List (List ℕ)) (index : ℕ) → index < length mailboxes → is_mailbox_of mailboxes (mailbox_at mailboxes index) ≡ true
mailbox_there mailboxes index inside =
    list_any_at (λ m. bytes_eq m (mailbox_at mailboxes index)) mailboxes index [] inside ((bytes_eq-Decides (mailbox_at mailboxes index) (mailbox_at mailboxes index)).1 refl)
