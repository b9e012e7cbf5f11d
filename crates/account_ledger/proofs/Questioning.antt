-- Questions on mailboxes: what a listing tells, and what is replied.
use Rattle.std.proofs.Common.{◌≡◌, ◌<◌, ◌≤◌, ◌^◌, ℕ, Bool, true, false, cond, List, [], length, map, sum_by, bytes_eq, Some, sym, ap, ◌∙◌, subst, arith}
use Rattle.std.specs.List.{slice_get}
use Rattle.std.proofs.lemmas.Option.{slice_get-get_or, slice_get_past}
use Rattle.std.proofs.lemmas.List.Sums.{sum_by-le-sum_by}
use Rattle.quota_units.specs.Causes.{next_count}
use Rattle.quota_units.specs.Sums.{cut_sum, cut_totals}
use Rattle.quota_units.specs.declared.totals.Totals.{Totals}
use Rattle.quota_roots.specs.Governing.{governing}
use Rattle.keeper.specs.Files.{listed}
use Rattle.keeper.specs.declared.rows.FileRow.{FileRow}
use Rattle.account_core.specs.declared.calls.Call.TheVariants.{Status as StatusCall, ScanBegin, ScanPart}
use Rattle.account_core.specs.declared.calls.Reply.TheVariants.{Begun, NoMailbox, NoPart, Status, Part}
use Rattle.account_core.specs.Account.{Account, Message}
use Rattle.account_core.specs.Machine.{has_mailbox, reply_of}
use Rattle.account_core.specs.Messages.{sum_in}
use Rattle.account_core.specs.Scanning.{status_of, status_reply, part_of, part_reply}
use Rattle.root_ledgers.specs.Scans.{sizes_of}
use Rattle.root_ledgers.proofs.Sums.{sum_ones}
use Rattle.account_ledger.specs.declared.counting.MailboxSums.{MailboxSums}
use Rattle.account_ledger.specs.Counting.{TellMailbox, mailbox_at, sums_of, unseen_of, deleted_of, deleted_size_of}
use Rattle.account_ledger.specs.Messages.{message_in}
use Rattle.account_ledger.specs.Lives.{Live, Looks, Shows}
use Rattle.account_ledger.proofs.CountingLemmas.{listed_tell, mailbox_there}
use Rattle.account_ledger.proofs.Delivering.{there_in}
use Rattle.account_ledger.proofs.Showing.{bounded_of}
use Rattle.account_ledger.proofs.Weighing.{is_mailbox_of}

-- the files of a mailbox of the account tell its messages
pub files_tell : (l : Live) (account : Account) (shows : Shows l account) (mailbox : List ℕ) (found : List FileRow) → is_mailbox_of l.mailboxes mailbox ≡ true → found ≡ listed mailbox shows.told.files.rows
    → TellMailbox mailbox found account
files_tell l account shows mailbox found there is =
    let bounded = bounded_of l account shows in
    record {
      sums = λ weight. ap (λ fs. sum_by (λ (f : FileRow). weight (message_in mailbox f)) fs) is
          ∙ listed_tell l.mailboxes shows.told.files.rows mailbox there weight account shows.stands.mailboxes_are shows.whole.mailboxes.different shows.stands.stand;
      octets = omega (arith, bounded.0);
      count = omega (arith, bounded.1);
    }

-- a sum over the messages of a mailbox, where each weighs at most as much
below : (mailbox : List ℕ) (weight most : Message → ℕ) (messages : List Message) → ((m : Message) → weight m ≤ most m) → sum_in mailbox weight messages ≤ sum_by most messages
below mailbox weight most messages at_most =
    sum_by-le-sum_by (λ (m : Message). cond (bytes_eq m.mailbox mailbox) (weight m) 0) most messages (λ m. one (bytes_eq m.mailbox mailbox) m)
  where
    one : (b : Bool) (m : Message) → cond b (weight m) 0 ≤ most m
    one true m = at_most m
    one false m = omega arith

same_status : {a b c d e a' b' c' d' e' : ℕ} → a ≡ a' → b ≡ b' → c ≡ c' → d ≡ d' → e ≡ e' → Status a b c d e ≡ Status a' b' c' d' e'
same_status {a} {b} {c} {d} {e} {a'} {b'} {c'} {d'} {e'} f g h i j =
    ap (λ n. Status n b c d e) f ∙ ap (λ n. Status a' n c d e) g ∙ ap (λ n. Status a' b' n d e) h ∙ ap (λ n. Status a' b' c' n e) i ∙ ap (λ n. Status a' b' c' d' n) j

same_part : {a b c a' b' c' : ℕ} → a ≡ a' → b ≡ b' → c ≡ c' → Part a b c ≡ Part a' b' c'
same_part {a} {b} {c} {a'} {b'} {c'} f g h = ap (λ n. Part n b c) f ∙ ap (λ n. Part a' n c) g ∙ ap (λ n. Part a' b' n) h

module _ (mailbox : List ℕ) (files : List FileRow) (account : Account) (tell : TellMailbox mailbox files account) where
  small_ones : sum_by (λ (m : Message). 1) account.messages < 2 ^ 62
  small_ones = let e = sum_ones account.messages in let f = tell.count in omega arith

  octets_are : cut_sum (sizes_of files) ≡ sum_in mailbox (λ m. m.octets) account.messages
  octets_are =
      let e = tell.sums (λ m. m.octets) in
      let f = below mailbox (λ m. m.octets) (λ m. m.octets) account.messages (λ m. omega arith) in
      let g = tell.octets in
      omega arith

  count_is : cut_sum (length files) ≡ sum_in mailbox (λ m. 1) account.messages
  count_is =
      let e = tell.sums (λ m. 1) in
      let f = below mailbox (λ m. 1) (λ m. 1) account.messages (λ m. omega arith) in
      let g = small_ones in
      let h = sum_ones files in
      omega arith

  unseen_is : cut_sum (sum_by unseen_of files) ≡ sum_in mailbox (λ m. cond m.flags.seen 0 1) account.messages
  unseen_is =
      let e = tell.sums (λ m. cond m.flags.seen 0 1) in
      let f = below mailbox (λ m. cond m.flags.seen 0 1) (λ m. 1) account.messages (λ m. one m.flags.seen) in
      let g = small_ones in
      omega arith
    where
      one : (b : Bool) → cond b 0 1 ≤ 1
      one true = omega arith
      one false = omega arith

  deleted_is : cut_sum (sum_by deleted_of files) ≡ sum_in mailbox (λ m. cond m.flags.trashed 1 0) account.messages
  deleted_is =
      let e = tell.sums (λ m. cond m.flags.trashed 1 0) in
      let f = below mailbox (λ m. cond m.flags.trashed 1 0) (λ m. 1) account.messages (λ m. one m.flags.trashed) in
      let g = small_ones in
      omega arith
    where
      one : (b : Bool) → cond b 1 0 ≤ 1
      one true = omega arith
      one false = omega arith

  deleted_octets_are : cut_sum (sum_by deleted_size_of files) ≡ sum_in mailbox (λ m. cond m.flags.trashed m.octets 0) account.messages
  deleted_octets_are =
      let e = tell.sums (λ m. cond m.flags.trashed m.octets 0) in
      let f = below mailbox (λ m. cond m.flags.trashed m.octets 0) (λ m. m.octets) account.messages (λ m. one m.flags.trashed m.octets) in
      let g = tell.octets in
      omega arith
    where
      one : (b : Bool) (n : ℕ) → cond b n 0 ≤ n
      one true n = omega arith
      one false n = omega arith

  status_is : true ≡ has_mailbox account mailbox
      → Status (sums_of files).all.count (sums_of files).unseen (sums_of files).deleted.count (sums_of files).deleted.octets (sums_of files).all.octets ≡ status_reply account mailbox
  status_is there =
      same_status count_is unseen_is deleted_is deleted_octets_are octets_are
      ∙ ap (λ b. cond b (status_of mailbox account.messages) NoMailbox) there

  part_is : (generation : ℕ) → generation ≡ account.generation → Part generation (cut_sum (sizes_of files)) (cut_sum (length files)) ≡ part_of account (Some mailbox)
  part_is generation same = same_part same octets_are count_is

pub status_replied : (l : Live) (account : Account) (shows : Shows l account) (mailbox : List ℕ) (files : List FileRow) (sums : MailboxSums) → is_mailbox_of l.mailboxes mailbox ≡ true → files ≡ listed mailbox shows.told.files.rows → sums ≡ sums_of files
    → Status sums.all.count sums.unseen sums.deleted.count sums.deleted.octets sums.all.octets ≡ reply_of l.roots account (StatusCall mailbox)
status_replied l account shows mailbox files sums there listing is =
    subst (λ (x : MailboxSums). Status x.all.count x.unseen x.deleted.count x.deleted.octets x.all.octets ≡ status_reply account mailbox) (sym is)
    (status_is mailbox files account (files_tell l account shows mailbox files there listing) (sym (there_in l account shows mailbox there)))

pub status_nowhere : (l : Live) (account : Account) (shows : Shows l account) (mailbox : List ℕ) → is_mailbox_of l.mailboxes mailbox ≡ false → NoMailbox ≡ reply_of l.roots account (StatusCall mailbox)
status_nowhere l account shows mailbox none =
    sym (ap (λ b. cond b (status_of mailbox account.messages) NoMailbox) (ap (λ boxes. is_mailbox_of boxes mailbox) shows.stands.mailboxes_are ∙ none))

pub part_replied : (l : Live) (account : Account) (shows : Shows l account) (index : ℕ) (files : List FileRow) (totals : Totals) → index < length l.mailboxes → files ≡ listed (mailbox_at l.mailboxes index) shows.told.files.rows
    → totals ≡ cut_totals (sizes_of files) (length files) → Part l.generation totals.octets totals.count ≡ reply_of l.roots account (ScanPart index)
part_replied l account shows index files totals inside listing is =
    subst (λ (x : Totals). Part l.generation x.octets x.count ≡ part_reply account index) (sym is)
    (part_is (mailbox_at l.mailboxes index) files account (files_tell l account shows (mailbox_at l.mailboxes index) files (mailbox_there l.mailboxes index inside) listing) l.generation (sym shows.stands.generation_is)
    ∙ sym (ap (λ ms. part_of account (slice_get ms index)) shows.stands.mailboxes_are ∙ ap (part_of account) (slice_get-get_or l.mailboxes index [] inside)))

pub no_part : (l : Live) (account : Account) (shows : Shows l account) (index : ℕ) → length l.mailboxes ≤ index → NoPart ≡ reply_of l.roots account (ScanPart index)
no_part l account shows index past =
    sym (ap (λ ms. part_of account (slice_get ms index)) shows.stands.mailboxes_are ∙ ap (part_of account) (slice_get_past l.mailboxes index past))

-- the begin of a scan
pub begun_replied : (l : Live) (account : Account) (shows : Shows l account) (sets : List (List ℕ)) → sets ≡ map (governing l.roots) l.mailboxes → Begun l.generation sets ≡ reply_of l.roots account ScanBegin
begun_replied l account shows sets is =
    ap (λ n. Begun n sets) (sym shows.stands.generation_is) ∙ ap (λ ss. Begun account.generation ss) (is ∙ ap (λ ms. map (governing l.roots) ms) (sym shows.stands.mailboxes_are))

-- a listing is counted
pub lists_next : (failed : Type 0) (l m : Live) → Looks failed l m → m.lists ≡ next_count l.lists
lists_next failed l m looks = ap (λ (x : Live). x.lists) looks.same
