-- What the messages of an account's mailboxes add up to, file by file.
use Rattle.std.proofs.Common.{◌≡◌, ℕ, ◌+◌, Bool, true, false, not, cond, ◌||◌, ◌&&◌, List, [], ◌∷◌, map, sum_by, bytes_eq, filter, zero-add, arith, refl, sym, ap, ◌∙◌}
use Rattle.std.specs.List.{list_any}
use Rattle.std.proofs.lemmas.List.Sums.{sum_by-append, sum_by-cons}
use Rattle.std.proofs.lemmas.Slice.Eq.{bytes_eq-Decides}
use Rattle.std.proofs.lemmas.Bool.{false≢true}
use Rattle.quota_roots.specs.Setups.{are_different}
use Rattle.keeper.specs.Files.{Row, is_in, file_of}
use Rattle.account_core.specs.Account.{Message}
use Rattle.account_ledger.specs.Messages.{message_in, messages_of, messages_in}
use Rattle.root_ledgers.proofs.Sums.{sum_none}

abbrev pub is_mailbox_of : List (List ℕ) → List ℕ → Bool
is_mailbox_of mailboxes name = list_any (λ mailbox. bytes_eq mailbox name) mailboxes

-- the message that a file tells
abbrev pub told_by : Row → Message
told_by row = message_in row.mailbox (file_of row)

-- a number of the file's message, where its mailbox is the account's
abbrev pub weigh : (Message → ℕ) → List (List ℕ) → Row → ℕ
weigh weight mailboxes row = cond (is_mailbox_of mailboxes row.mailbox) (weight (told_by row)) 0

module _ (weight : Message → ℕ) where
  pub in_one : (mailbox : List ℕ) (rows : List Row) → sum_by weight (messages_of rows mailbox) ≡ sum_by (λ (row : Row). cond (is_in mailbox row) (weight (message_in mailbox (file_of row))) 0) rows
  in_one mailbox [] = refl
  in_one mailbox (row ∷ rows) =
      step (is_in mailbox row) (in_one mailbox rows)
      ∙ sym (sum_by-cons (λ (r : Row). cond (is_in mailbox r) (weight (message_in mailbox (file_of r))) 0) row rows)
    where
      step : (b : Bool) → sum_by weight (messages_of rows mailbox) ≡ sum_by (λ (r : Row). cond (is_in mailbox r) (weight (message_in mailbox (file_of r))) 0) rows
          → sum_by weight (map (message_in mailbox) (map file_of (cond b (row ∷ filter (is_in mailbox) rows) (filter (is_in mailbox) rows))))
          ≡ cond b (weight (message_in mailbox (file_of row))) 0 + sum_by (λ (r : Row). cond (is_in mailbox r) (weight (message_in mailbox (file_of r))) 0) rows
      step true rest = sum_by-cons weight (message_in mailbox (file_of row)) (messages_of rows mailbox) ∙ ap (λ n. weight (message_in mailbox (file_of row)) + n) rest
      step false rest = rest ∙ sym (zero-add _)

  added : (f g h : Row → ℕ) (rows : List Row) → ((row : Row) → f row + g row ≡ h row) → sum_by f rows + sum_by g rows ≡ sum_by h rows
  added f g h [] same = refl
  added f g h (row ∷ rows) same =
      let a = sum_by-cons f row rows in
      let b = sum_by-cons g row rows in
      let c = sum_by-cons h row rows in
      let d = same row in
      let e = added f g h rows same in
      omega arith

  add_none : (n : ℕ) → n + 0 ≡ n
  add_none n = omega arith

  one_row : (m : List ℕ) (mailboxes : List (List ℕ)) → list_any (λ other. bytes_eq other m) mailboxes ≡ false → (row : Row)
      → cond (is_in m row) (weight (message_in m (file_of row))) 0 + weigh weight mailboxes row ≡ weigh weight (m ∷ mailboxes) row
  one_row m mailboxes apart row = step (bytes_eq row.mailbox m) (bytes_eq m row.mailbox) refl refl
    where
      step : (b c : Bool) → bytes_eq row.mailbox m ≡ b → bytes_eq m row.mailbox ≡ c
          → cond b (weight (message_in m (file_of row))) 0 + cond (is_mailbox_of mailboxes row.mailbox) (weight (told_by row)) 0 ≡ cond (c || is_mailbox_of mailboxes row.mailbox) (weight (told_by row)) 0
      step true true is si =
          let same : row.mailbox ≡ m = (bytes_eq-Decides row.mailbox m).0 is in
          ap (λ x. weight (message_in x (file_of row)) + cond (is_mailbox_of mailboxes row.mailbox) (weight (told_by row)) 0) (sym same)
          ∙ ap (λ b. weight (told_by row) + cond b (weight (told_by row)) 0) (ap (is_mailbox_of mailboxes) same ∙ apart)
          ∙ add_none (weight (told_by row))
      step true false is si = absurd (false≢true (sym si ∙ ap (λ x. bytes_eq m x) ((bytes_eq-Decides row.mailbox m).0 is) ∙ (bytes_eq-Decides m m).1 refl))
      step false true is si = absurd (false≢true (sym is ∙ ap (λ x. bytes_eq row.mailbox x) ((bytes_eq-Decides m row.mailbox).0 si) ∙ (bytes_eq-Decides row.mailbox row.mailbox).1 refl))
      step false false is si = zero-add _

  no_boxes : (rows : List Row) → 0 ≡ sum_by (weigh weight []) rows
  no_boxes rows = sym (sum_none rows)

  pub rows_weigh : (mailboxes : List (List ℕ)) (rows : List Row) → are_different mailboxes ≡ true → sum_by weight (messages_in mailboxes rows) ≡ sum_by (weigh weight mailboxes) rows
  rows_weigh [] rows different = no_boxes rows
  rows_weigh (m ∷ mailboxes) rows different = step (list_any (λ other. bytes_eq other m) mailboxes) refl different (rows_weigh mailboxes rows)
    where
      step : (b : Bool) → list_any (λ other. bytes_eq other m) mailboxes ≡ b → (not b && are_different mailboxes) ≡ true
          → (are_different mailboxes ≡ true → sum_by weight (messages_in mailboxes rows) ≡ sum_by (weigh weight mailboxes) rows) → sum_by weight (messages_in (m ∷ mailboxes) rows) ≡ sum_by (weigh weight (m ∷ mailboxes)) rows
      step true is different rest = absurd (false≢true different)
      step false is different rest =
          sum_by-append weight (messages_of rows m) (messages_in mailboxes rows)
          ∙ ap (λ n. n + sum_by weight (messages_in mailboxes rows)) (in_one m rows)
          ∙ ap (λ n. sum_by (λ (r : Row). cond (is_in m r) (weight (message_in m (file_of r))) 0) rows + n) (rest different)
          ∙ added (λ (r : Row). cond (is_in m r) (weight (message_in m (file_of r))) 0) (weigh weight mailboxes) (weigh weight (m ∷ mailboxes)) rows (one_row m mailboxes is)
