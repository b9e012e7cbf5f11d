-- A message goes, a message comes, or one takes the place of another: what is kept stands for the account still.
use Rattle.std.proofs.Common.{◌≡◌, ℕ, ◌+◌, ◌<◌, ◌≤◌, ◌^◌, Bool, true, false, cond, List, length, get_or, sum_by, Option, Some, None, refl, sym, ap, ◌∙◌, subst, arith}
use Rattle.std.specs.Option.{option_map}
use Rattle.std.proofs.lemmas.List.Sums.{sum_by-le-sum_by}
use Rattle.quota_units.specs.Limiting.{LimitNumbers}
use Rattle.quota_roots.specs.declared.root.RootSpec.{RootSpec}
use Rattle.quota_roots.specs.Setups.{are_different}
use Rattle.quota_roots.specs.Governing.{governs, governs_at}
use Rattle.quota_roots.proofs.GoverningLemmas.{governs_at_get_or}
use Rattle.keeper.specs.Files.{Files, Row, ledger_at, ledger_bytes}
use Rattle.keeper.specs.Calls.{Told}
use Rattle.keeper.proofs.LedgerLemmas.{rows_same}
use Rattle.admission.specs.Fitting.{limits_at}
use Rattle.account_core.specs.Account.{Account, Message, usage}
use Rattle.account_core.proofs.Admitting.{totals_at-usages}
use Rattle.root_ledgers.specs.declared.book.Book.{Book}
use Rattle.root_ledgers.specs.declared.book.Standing.{Standing}
use Rattle.root_ledgers.specs.declared.book.Standing.TheVariants.{Settled, Doubt}
use Rattle.root_ledgers.specs.declared.change.Change.{Change}
use Rattle.root_ledgers.specs.Settling.{book_at, IsKept}
use Rattle.root_ledgers.specs.Lines.{governs_in, change_by, change_at, changed_book, ChangedLedger, BookBy, LedgerBy, BookLined, LedgerLined, BooksLined, LedgersLined}
use Rattle.root_ledgers.proofs.Sums.{sum_ones}
use Rattle.root_ledgers.proofs.Posting.{UsageBy, kept_lined}
use Rattle.account_ledger.specs.Messages.{messages_in, StandFor}
use Rattle.account_ledger.specs.Stores.{usage_at}
use Rattle.account_ledger.specs.Lives.{Live, Shows, Stands}
use Rattle.account_ledger.proofs.Weighing.{weigh, rows_weigh}
use Rattle.account_ledger.proofs.UsageLemmas.{IsBounded, no_root, at_most}

abbrev pub weight_of : (Message → ℕ) → Option Message → ℕ
weight_of weight None = 0
weight_of weight (Some message) = weight message

-- one message of the list is gone, and one has come
pub record Shifted (leaving coming : Option Message) (messages messages' : List Message) : Type 0 where
  pub sums : (weight : Message → ℕ) → sum_by weight messages' + weight_of weight leaving ≡ sum_by weight messages + weight_of weight coming
  pub there : (weight : Message → ℕ) → weight_of weight leaving ≤ sum_by weight messages

-- and so it is with the files
abbrev pub RowsShifted : List (List ℕ) → Option Message → Option Message → List Row → List Row → Type 0
RowsShifted mailboxes leaving coming rows rows' = (weight : Message → ℕ) → sum_by (weigh weight mailboxes) rows' + weight_of weight leaving ≡ sum_by (weigh weight mailboxes) rows + weight_of weight coming

abbrev pub box_of : Option Message → Option (List ℕ)
box_of message = option_map (λ (m : Message). m.mailbox) message

-- both have so many octets
abbrev pub HasOctets : ℕ → Option Message → Type 0
HasOctets octets None = Unit {0}
HasOctets octets (Some message) = message.octets ≡ octets

-- the files stand for the messages still
pub stand_shifted : (leaving coming : Option Message) (account account' : Account) (rows rows' : List Row) → are_different account.mailboxes ≡ true → account'.mailboxes ≡ account.mailboxes
    → Shifted leaving coming account.messages account'.messages → RowsShifted account.mailboxes leaving coming rows rows' → StandFor rows account → StandFor rows' account'
stand_shifted leaving coming account account' rows rows' different same shifted moved stand weight =
    let a = rows_weigh weight account.mailboxes rows different in
    let b = rows_weigh weight account.mailboxes rows' different in
    let m = moved weight in
    let s = shifted.sums weight in
    let t = stand weight in
    let e : sum_by weight (messages_in account.mailboxes rows') ≡ sum_by weight account'.messages = omega arith in
    subst (λ boxes. sum_by weight (messages_in boxes rows') ≡ sum_by weight account'.messages) (sym same) e

usage_cases : (g c : Bool) (octets o k o' k' : ℕ) → o' + cond g octets 0 ≡ o + cond c octets 0 → k' + cond g 1 0 ≡ k + cond c 1 0
    → UsageBy (change_by g c) octets (record { octets = o; count = k }) (record { octets = o'; count = k' })
usage_cases true true octets o k o' k' e f = let a : o' ≡ o = omega arith in let b : k' ≡ k = omega arith in rw (a, b) refl
usage_cases false false octets o k o' k' e f = let a : o' ≡ o = omega arith in let b : k' ≡ k = omega arith in rw (a, b) refl
usage_cases true false octets o k o' k' e f = (omega arith, omega arith)
usage_cases false true octets o k o' k' e f = (omega arith, omega arith)

module _ (roots : List RootSpec) (root : ℕ) (inside : root < length roots) where
  abbrev spec : RootSpec
  spec = get_or roots root no_root

  abbrev octets_by : Message → ℕ
  octets_by m = cond (governs spec m.mailbox) m.octets 0

  abbrev count_by : Message → ℕ
  count_by m = cond (governs spec m.mailbox) 1 0

  octets_weigh : (octets : ℕ) (message : Option Message) → HasOctets octets message → weight_of octets_by message ≡ cond (governs_in roots root (box_of message)) octets 0
  octets_weigh octets None has = refl
  octets_weigh octets (Some m) has = ap (λ b. cond b m.octets 0) (sym (governs_at_get_or roots m.mailbox root no_root inside)) ∙ ap (λ n. cond (governs_at roots root m.mailbox) n 0) has

  count_weighs : (message : Option Message) → weight_of count_by message ≡ cond (governs_in roots root (box_of message)) 1 0
  count_weighs None = refl
  count_weighs (Some m) = ap (λ b. cond b 1 0) (sym (governs_at_get_or roots m.mailbox root no_root inside))

  -- the usage of a root changes by what it governs of the two mailboxes
  pub usage_shifted : (leaving coming : Option Message) (octets : ℕ) (account account' : Account) → HasOctets octets leaving → HasOctets octets coming → Shifted leaving coming account.messages account'.messages
      → UsageBy (change_at roots (box_of leaving) (box_of coming) root) octets (usage_at roots root account) (usage_at roots root account')
  usage_shifted leaving coming octets account account' has had shifted =
      let a = octets_weigh octets leaving has in
      let b = octets_weigh octets coming had in
      let c = count_weighs leaving in
      let d = count_weighs coming in
      let s = shifted.sums octets_by in
      let t = shifted.sums count_by in
      rw (totals_at-usages roots account root no_root inside, totals_at-usages roots account' root no_root inside)
      (usage_cases (governs_in roots root (box_of leaving)) (governs_in roots root (box_of coming)) octets (usage spec account).octets (usage spec account).count (usage spec account').octets (usage spec account').count
      (omega arith) (omega arith))

  -- and no usage is cut
  pub usage_small : (account : Account) → IsBounded account → ((usage_at roots root account).octets < 2 ^ 62) × ((usage_at roots root account).count < 2 ^ 62)
  usage_small account bounded =
      let a : (usage spec account).octets ≤ sum_by (λ (m : Message). m.octets) account.messages = sum_by-le-sum_by octets_by (λ (m : Message). m.octets) account.messages (λ m. at_most (governs spec m.mailbox) m.octets) in
      let b : (usage spec account).count ≤ sum_by (λ (m : Message). 1) account.messages = sum_by-le-sum_by count_by (λ (m : Message). 1) account.messages (λ m. at_most (governs spec m.mailbox) 1) in
      let c = sum_ones account.messages in
      rw (totals_at-usages roots account root no_root inside) (omega (arith, bounded.0), omega (arith, bounded.1))

module _ (roots : List RootSpec) (limits : List LimitNumbers) (books books' : List Book) (changes : ℕ → Option Change) (octets : ℕ) (account account' : Account) (files files1 files' : Files) (small : octets < 1000000000000000000) where
  kept_one : (change : Option Change) (root : ℕ) → root < length roots
      → ((book_at books root).standing ≡ Settled → IsKept (limits_at limits root) (usage_at roots root account) (ledger_at files root) (ledger_bytes files root) (book_at books root))
      → UsageBy change octets (usage_at roots root account) (usage_at roots root account')
      → ((usage_at roots root account').octets < 2 ^ 62) × ((usage_at roots root account').count < 2 ^ 62)
      → ledger_at files1 root ≡ ledger_at files root
      → BookLined change octets (limits_at limits root) (book_at books root) (book_at books' root)
      → LedgerLined change octets (limits_at limits root) (book_at books root) (book_at books' root).standing (ledger_at files1 root) (ledger_at files' root)
      → (book_at books' root).standing ≡ Settled
      → IsKept (limits_at limits root) (usage_at roots root account') (ledger_at files' root) (ledger_bytes files' root) (book_at books' root)
  kept_one None root inside kept moved bound same book ledger settled =
      let old = kept (sym (ap (λ (b : Book). b.standing) book) ∙ settled) in
      rw (book, ledger, same, moved) old
  kept_one (Some change) root inside kept moved bound same book ledger settled = by (book_at books root).standing refl book ledger
    where
      by : (s : Standing) → (book_at books root).standing ≡ s
          → BookBy s change octets (limits_at limits root) (book_at books root) (book_at books' root)
          → LedgerBy s change octets (limits_at limits root) (book_at books root) (book_at books' root).standing (ledger_at files1 root) (ledger_at files' root)
          → IsKept (limits_at limits root) (usage_at roots root account') (ledger_at files' root) (ledger_bytes files' root) (book_at books' root)
      by Doubt is book ledger = let e : Settled ≡ Doubt = sym settled ∙ ap (λ (b : Book). b.standing) book ∙ is in absurd (cc)
      by Settled is book ledger =
          let b : book_at books' root ≡ changed_book change octets (limits_at limits root) (book_at books root) Settled = book.0 ∙ ap (changed_book change octets (limits_at limits root) (book_at books root)) settled in
          let l : ChangedLedger change octets (limits_at limits root) (book_at books root) (ledger_at files root) Settled (ledger_at files' root) =
          subst (λ x. ChangedLedger change octets (limits_at limits root) (book_at books root) x Settled (ledger_at files' root)) same
          (subst (λ x. ChangedLedger change octets (limits_at limits root) (book_at books root) (ledger_at files1 root) x (ledger_at files' root)) settled ledger) in
          kept_lined change octets (limits_at limits root) (usage_at roots root account) (usage_at roots root account') (ledger_at files root) (ledger_at files' root)
          (book_at books root) (book_at books' root) small moved bound.0 bound.1 (kept is) b book.1 l

-- What a call that moves a message, or brings or removes one, has to show of the account.
pub record Moves (leaving coming : Option Message) (octets deliveries' generation' : ℕ) (account account' : Account) : Type 0 where
  pub limits : account'.limits ≡ account.limits
  pub mailboxes : account'.mailboxes ≡ account.mailboxes
  pub epoch : account'.epoch ≡ account.epoch
  pub deliveries_are : account'.deliveries ≡ deliveries'
  pub generation_is : account'.generation ≡ generation'
  pub shifted : Shifted leaving coming account.messages account'.messages
  pub has : HasOctets octets leaving
  pub had : HasOctets octets coming
  pub small : octets < 1000000000000000000
  pub grows : weight_of (λ m. m.octets) coming ≤ weight_of (λ m. m.octets) leaving + 67108864

one_at_most : (message : Option Message) → weight_of (λ m. 1) message ≤ 1
one_at_most None = omega arith
one_at_most (Some m) = omega arith

-- a live account with other books, files and counts
abbrev pub with_lines : Live → Option Told → (faults appends lists : ℕ) → List Book → (deliveries generation : ℕ) → Live
with_lines l told faults appends lists books deliveries generation =
    record l { told = told; faults = faults; append_faults = appends; lists = lists; books = books; deliveries = deliveries; generation = generation }

pub bounded_shifted : (l : Live) (leaving coming : Option Message) (octets deliveries' generation' : ℕ) (account account' : Account) → Shows l account → Moves leaving coming octets deliveries' generation' account account' → IsBounded account'
bounded_shifted l leaving coming octets deliveries' generation' account account' shows moves =
    let o = moves.shifted.sums (λ m. m.octets) in
    let k = moves.shifted.sums (λ m. 1) in
    let g = moves.grows in
    let a = sum_ones account.messages in
    let b = sum_ones account'.messages in
    let c = one_at_most coming in
    let d = shows.orderly.octets in
    let e = shows.orderly.count in
    let f = shows.few in
    (omega arith, omega arith)

pub stands_shifted : (l : Live) (leaving coming : Option Message) (octets deliveries' generation' : ℕ) (account account' : Account) (shows : Shows l account) (told' : Option Told) (faults' appends' lists' : ℕ) (books' : List Book) (files1 files' : Files)
    → Moves leaving coming octets deliveries' generation' account account'
    → RowsShifted l.mailboxes leaving coming shows.told.files.rows files1.rows → ((root : ℕ) → ledger_at files1 root ≡ ledger_at shows.told.files root)
    → BooksLined (length l.roots) (change_at l.roots (box_of leaving) (box_of coming)) octets l.limits l.books books'
    → LedgersLined (length l.roots) (change_at l.roots (box_of leaving) (box_of coming)) octets l.limits l.books books' files1 files'
    → Stands (with_lines l told' faults' appends' lists' books' deliveries' generation') account' files'
stands_shifted l leaving coming octets deliveries' generation' account account' shows told' faults' appends' lists' books' files1 files' moves rows same lined ledgers =
    let changes = change_at l.roots (box_of leaving) (box_of coming) in
    let holds = shows.stands in
    let different : are_different account.mailboxes ≡ true = ap are_different holds.mailboxes_are ∙ shows.whole.mailboxes.different in
    let bounded = bounded_shifted l leaving coming octets deliveries' generation' account account' shows moves in
    record {
      limits_are = moves.limits ∙ holds.limits_are;
      mailboxes_are = moves.mailboxes ∙ holds.mailboxes_are;
      epoch_is = moves.epoch ∙ holds.epoch_is;
      deliveries_are = moves.deliveries_are;
      generation_is = moves.generation_is;
      stand = subst (λ rs. StandFor rs account') (sym (rows_same files1 files' ledgers.same))
          (stand_shifted leaving coming account account' shows.told.files.rows files1.rows different moves.mailboxes moves.shifted
          (subst (λ boxes. RowsShifted boxes leaving coming shows.told.files.rows files1.rows) (sym holds.mailboxes_are) rows) holds.stand);
      kept = λ root inside settled.
          kept_one l.roots l.limits l.books books' changes octets account account' shows.told.files files1 files' moves.small (changes root) root inside (λ s. holds.kept root inside s)
          (usage_shifted l.roots root inside leaving coming octets account account' moves.has moves.had moves.shifted)
          (usage_small l.roots root inside account' bounded)
          (same root) (lined.done root inside) (ledgers.done root inside) settled;
    }

-- the row of a message changes, and the ledgers stay
pub record FilesShifted (mailboxes : List (List ℕ)) (leaving coming : Option Message) (files files1 : Files) : Type 0 where
  pub rows : RowsShifted mailboxes leaving coming files.rows files1.rows
  pub ledgers : (root : ℕ) → ledger_at files1 root ≡ ledger_at files root
