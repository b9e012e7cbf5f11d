-- The parts of a scan add up to the usages.
use Rattle.std.proofs.Common.{◌≡◌, ℕ, ◌+◌, Bool, true, false, cond, ◌&&◌, ◌||◌, List, [], ◌∷◌, Option, Some, None, is_some, refl, sym, ap, ◌∙◌, arith, subst, inl, inr, bytes_eq, sum_by}
use Rattle.std.specs.List.{list_all, list_any}
use Rattle.std.proofs.lemmas.Bool.{and_parts, and_from, cases_Bool, false≢true, not-true}
use Rattle.std.proofs.lemmas.List.Sums.{sum_by-cons}
use Rattle.std.proofs.lemmas.List.Folds.{list_all-append}
use Rattle.std.proofs.lemmas.Slice.Eq.{bytes_eq-Decides}
use Rattle.quota_units.specs.declared.flags.Flags.{Flags}
use Rattle.quota_units.specs.declared.resource.Resource.{Resource}
use Rattle.quota_roots.specs.declared.root.RootSpec.{RootSpec}
use Rattle.quota_roots.specs.Governing.{gaining, governs}
use Rattle.quota_roots.specs.Setups.{are_different}
use Rattle.quota_units.proofs.SumLemmas.{same_totals}
use Rattle.account_core.specs.declared.calls.Call.{Call}
use Rattle.account_core.specs.declared.calls.Call.TheVariants.{Deliver, Check, Remove, Mark, Move, Quota, SetLimits, Roots, Status, ScanBegin, ScanPart, Install}
use Rattle.account_core.specs.declared.calls.Entry.{Entry}
use Rattle.account_core.specs.declared.calls.Reply.TheVariants.{NoMailbox, Delivered, Removed, Marked, NameTaken, Moved}
use Rattle.account_core.specs.Account.{Account, Message, counted}
use Rattle.account_core.specs.Messages.{is_message, named_message, removed, changed, with_flags, with_mailbox, sum_in}
use Rattle.account_core.specs.Machine.{has_mailbox, if_message, over_of, over_in, over_or, step, delivered_message, delivered_after, removed_after, marked_after, moving_reply, moved_after}
use Rattle.account_core.specs.History.{replay, account_after}
use Rattle.account_core.specs.WholeScans.{are_housed, WholeScanIsUsage}

-- a test that each message passes, each passes still where one is taken away or changed

module _ (test : Message → Bool) where
  removed_step : (b : Bool) (first : Message) (rest less : List Message) → (test first && list_all test rest) ≡ true → (list_all test rest ≡ true → list_all test less ≡ true)
      → list_all test (cond b rest (first ∷ less)) ≡ true
  removed_step true first rest less all more = (and_parts _ _ all).1
  removed_step false first rest less all more = let parts = and_parts _ _ all in and_from _ _ parts.0 (more parts.1)

  all_removed : (mailbox base : List ℕ) (messages : List Message) → list_all test messages ≡ true → list_all test (removed mailbox base messages) ≡ true
  all_removed mailbox base [] all = refl
  all_removed mailbox base (first ∷ messages) all = removed_step (is_message mailbox base first) first messages (removed mailbox base messages) all (all_removed mailbox base messages)

  changed_step : (change : Message → Message) (b : Bool) (first : Message) (rest rest' : List Message) → ((m : Message) → test m ≡ true → test (change m) ≡ true)
      → (test first && list_all test rest) ≡ true → (list_all test rest ≡ true → list_all test rest' ≡ true) → list_all test (cond b (change first ∷ rest) (first ∷ rest')) ≡ true
  changed_step change true first rest rest' keeps all more = let parts = and_parts _ _ all in and_from _ _ (keeps first parts.0) parts.1
  changed_step change false first rest rest' keeps all more = let parts = and_parts _ _ all in and_from _ _ parts.0 (more parts.1)

  all_changed : (change : Message → Message) → ((m : Message) → test m ≡ true → test (change m) ≡ true) → (mailbox base : List ℕ) (messages : List Message)
      → list_all test messages ≡ true → list_all test (changed mailbox base change messages) ≡ true
  all_changed change keeps mailbox base [] all = refl
  all_changed change keeps mailbox base (first ∷ messages) all =
      changed_step change (is_message mailbox base first) first messages (changed mailbox base change messages) keeps all (all_changed change keeps mailbox base messages)

-- the mailboxes stay, and each message is in one of them
pub record Houses (account account' : Account) : Type 0 where
  pub mailboxes : account'.mailboxes ≡ account.mailboxes
  pub housed : are_housed account' ≡ true

module _ (account : Account) (housed : are_housed account ≡ true) where
  abbrev is_housed : Message → Bool
  is_housed m = has_mailbox account m.mailbox

  at_rest : Houses account account
  at_rest = record { mailboxes = refl; housed = housed }

  delivered_housed : (mailbox : List ℕ) (octets : ℕ) (flags : Flags) (number : ℕ) (b : Bool) (o : Option (ℕ × Resource)) → has_mailbox account mailbox ≡ b
      → Houses account (delivered_after account mailbox octets flags (cond b (over_or o (Delivered number)) NoMailbox))
  delivered_housed mailbox octets flags number true None there = record {
    mailboxes = refl;
    housed = list_all-append is_housed account.messages (delivered_message account.epoch number mailbox octets flags ∷ []) ∙ and_from _ _ housed (and_from _ _ there refl);
  }
  delivered_housed mailbox octets flags number true (Some place) there = at_rest
  delivered_housed mailbox octets flags number false o there = at_rest

  removed_housed : (mailbox base : List ℕ) (b : Bool) (o : Option Message) → Houses account (removed_after account mailbox base (cond b (if_message o Removed) NoMailbox))
  removed_housed mailbox base true None = at_rest
  removed_housed mailbox base true (Some message) = record { mailboxes = refl; housed = all_removed is_housed mailbox base account.messages housed }
  removed_housed mailbox base false o = at_rest

  marked_housed : (mailbox base : List ℕ) (flags : Flags) (b : Bool) (o : Option Message) → Houses account (marked_after account mailbox base flags (cond b (if_message o Marked) NoMailbox))
  marked_housed mailbox base flags true None = at_rest
  marked_housed mailbox base flags true (Some message) = record { mailboxes = refl; housed = all_changed is_housed (with_flags flags) (λ m is. is) mailbox base account.messages housed }
  marked_housed mailbox base flags false o = at_rest

  module _ (roots : List RootSpec) (from base to : List ℕ) (target : has_mailbox account to ≡ true) where
    moved_housed : (same : Bool) → bytes_eq from to ≡ same → Houses account (moved_after account from base to Moved)
    moved_housed true same = rw same at_rest
    moved_housed false apart = rw apart (record { mailboxes = refl; housed = all_changed is_housed (with_mailbox to) (λ m is. target) from base account.messages housed })

    placed_housed : (taken : Bool) (first : Option (ℕ × Resource)) → Houses account (moved_after account from base to (cond taken NameTaken (over_or first Moved)))
    placed_housed true first = at_rest
    placed_housed false (Some place) = at_rest
    placed_housed false None = moved_housed (bytes_eq from to) refl

    moving_housed : (same : Bool) (o : Option Message) → bytes_eq from to ≡ same → Houses account (moved_after account from base to (moving_reply roots account from base to o))
    moving_housed same None is = at_rest
    moving_housed true (Some message) is = rw (is, is) at_rest
    moving_housed false (Some message) is =
        rw is (placed_housed (is_some (named_message to base account.messages)) (over_of roots account (gaining roots from to) message.octets))

  move_housed : (roots : List RootSpec) (from base to : List ℕ) (b c : Bool) (o : Option Message) → has_mailbox account to ≡ c
      → Houses account (moved_after account from base to (cond b (cond c (moving_reply roots account from base to o) NoMailbox) NoMailbox))
  move_housed roots from base to true true o target = moving_housed roots from base to target (bytes_eq from to) o refl
  move_housed roots from base to true false o target = at_rest
  move_housed roots from base to false c o target = at_rest

pub step_housed : (roots : List RootSpec) (account : Account) (call : Call) → are_housed account ≡ true → Houses account (step roots account call)
step_housed roots account (Deliver mailbox octets flags) is = delivered_housed account is mailbox octets flags (account.deliveries + 1) (has_mailbox account mailbox) (over_in roots account mailbox octets) refl
step_housed roots account (Check octets) is = at_rest account is
step_housed roots account (Remove mailbox base) is = removed_housed account is mailbox base (has_mailbox account mailbox) (named_message mailbox base account.messages)
step_housed roots account (Mark mailbox base flags) is = marked_housed account is mailbox base flags (has_mailbox account mailbox) (named_message mailbox base account.messages)
step_housed roots account (Move from base to) is =
    move_housed account is roots from base to (has_mailbox account from) (has_mailbox account to) (named_message from base account.messages) refl
step_housed roots account (Quota name) is = at_rest account is
step_housed roots account (SetLimits name limits) is = record { mailboxes = refl; housed = is }
step_housed roots account (Roots mailbox) is = at_rest account is
step_housed roots account (Status mailbox) is = at_rest account is
step_housed roots account ScanBegin is = at_rest account is
step_housed roots account (ScanPart index) is = at_rest account is
step_housed roots account (Install generation) is = at_rest account is

after_housed : (roots : List RootSpec) (account : Account) (call : Call) (fault : Bool) → are_housed account ≡ true → Houses account (cond fault account (step roots account call))
after_housed roots account call true is = at_rest account is
after_housed roots account call false is = step_housed roots account call is

pub replay_housed : (roots : List RootSpec) (account : Account) (history : List Entry) → are_housed account ≡ true → Houses account (replay roots account history)
replay_housed roots account [] is = at_rest account is
replay_housed roots account (entry ∷ history) is =
    let one = after_housed roots account entry.call entry.fault is in
    let more = replay_housed roots (account_after roots account entry) history one.housed in
    record { mailboxes = more.mailboxes ∙ one.mailboxes; housed = more.housed }

-- what the parts add up to, message by message

abbrev is_among : List ℕ → List (List ℕ) → Bool
is_among mailbox mailboxes = list_any (λ other. bytes_eq other mailbox) mailboxes

one_and : (n m w : ℕ) → n ≡ w → m ≡ 0 → n + m ≡ w
one_and n m w one none = omega arith

none_and : (n m w : ℕ) → n ≡ 0 → m ≡ w → n + m ≡ w
none_and n m w none one = omega arith

abbrev where_true : Bool → ℕ → ℕ
where_true b n = cond b n 0

cond_none : (b : Bool) → where_true b 0 ≡ 0
cond_none true = refl
cond_none false = refl

cond_both : (b : Bool) (n m : ℕ) → where_true b (n + m) ≡ where_true b n + where_true b m
cond_both true n m = refl
cond_both false n m = omega arith

module _ (root : RootSpec) (weight : Message → ℕ) where
  -- what a message adds to the part of a mailbox
  abbrev share : Message → List ℕ → ℕ
  share message mailbox = cond (governs root mailbox) (cond (bytes_eq message.mailbox mailbox) (weight message) 0) 0

  elsewhere : (message : Message) (mailbox : List ℕ) → bytes_eq mailbox message.mailbox ≡ false → share message mailbox ≡ 0
  elsewhere message mailbox differs =
      ap (λ b. cond (governs root mailbox) (cond b (weight message) 0) 0) (turned (bytes_eq message.mailbox mailbox) refl) ∙ cond_none (governs root mailbox)
    where
      turned : (b : Bool) → bytes_eq message.mailbox mailbox ≡ b → bytes_eq message.mailbox mailbox ≡ false
      turned true is = absurd (false≢true (sym differs ∙ (bytes_eq-Decides mailbox message.mailbox).1 (sym ((bytes_eq-Decides message.mailbox mailbox).0 is))))
      turned false is = is

  none_share : (message : Message) (mailboxes : List (List ℕ)) → is_among message.mailbox mailboxes ≡ false → sum_by (share message) mailboxes ≡ 0
  none_share message [] out = refl
  none_share message (mailbox ∷ mailboxes) out =
      sum_by-cons (share message) mailbox mailboxes
      ∙ none_and _ _ 0 (elsewhere message mailbox (neither (bytes_eq mailbox message.mailbox) _ out).0) (none_share message mailboxes (neither (bytes_eq mailbox message.mailbox) _ out).1)
    where
      neither : (b c : Bool) → (b || c) ≡ false → (b ≡ false) × (c ≡ false)
      neither true c e = absurd (cc)
      neither false c e = (refl, e)

  one_share : (message : Message) (mailboxes : List (List ℕ)) → are_different mailboxes ≡ true → is_among message.mailbox mailboxes ≡ true
      → sum_by (share message) mailboxes ≡ cond (governs root message.mailbox) (weight message) 0
  one_share message [] different among = absurd (false≢true among)
  one_share message (mailbox ∷ mailboxes) different among =
      sum_by-cons (share message) mailbox mailboxes ∙ elim (cases_Bool (bytes_eq mailbox message.mailbox)) [
        | inl same ↦ let e : mailbox ≡ message.mailbox = (bytes_eq-Decides mailbox message.mailbox).0 same in
            one_and _ _ _
            (ap (λ b. cond (governs root mailbox) (cond b (weight message) 0) 0) ((bytes_eq-Decides message.mailbox mailbox).1 (sym e)) ∙ ap (λ m. cond (governs root m) (weight message) 0) e)
            (none_share message mailboxes (subst (λ m. is_among m mailboxes ≡ false) e (not-true _ (and_parts _ _ different).0)))
        | inr differs ↦ none_and _ _ _ (elsewhere message mailbox differs)
            (one_share message mailboxes (and_parts _ _ different).1 (sym (ap (λ b. b || is_among message.mailbox mailboxes) differs) ∙ among))
      ]

  abbrev part_at : List Message → List ℕ → ℕ
  part_at messages mailbox = cond (governs root mailbox) (sum_in mailbox weight messages) 0

  sum_nothing : (mailboxes : List (List ℕ)) → sum_by (part_at []) mailboxes ≡ 0
  sum_nothing [] = refl
  sum_nothing (mailbox ∷ mailboxes) = sum_by-cons (part_at []) mailbox mailboxes ∙ none_and _ _ 0 (cond_none (governs root mailbox)) (sum_nothing mailboxes)

  sum_more : (message : Message) (messages : List Message) (mailboxes : List (List ℕ)) → sum_by (part_at (message ∷ messages)) mailboxes ≡ sum_by (share message) mailboxes + sum_by (part_at messages) mailboxes
  sum_more message messages [] = refl
  sum_more message messages (mailbox ∷ mailboxes) =
      let a = sum_by-cons (part_at (message ∷ messages)) mailbox mailboxes in
      let b = sum_by-cons (share message) mailbox mailboxes in
      let c = sum_by-cons (part_at messages) mailbox mailboxes in
      let d : part_at (message ∷ messages) mailbox ≡ share message mailbox + part_at messages mailbox =
      ap (λ n. cond (governs root mailbox) n 0) (sum_by-cons (λ (m : Message). cond (bytes_eq m.mailbox mailbox) (weight m) 0) message messages)
      ∙ cond_both (governs root mailbox) (cond (bytes_eq message.mailbox mailbox) (weight message) 0) (sum_in mailbox weight messages) in
      let rest = sum_more message messages mailboxes in
      omega arith

  pub parts_are_counted : (mailboxes : List (List ℕ)) (messages : List Message) → are_different mailboxes ≡ true → list_all (λ m. is_among m.mailbox mailboxes) messages ≡ true
      → sum_by (part_at messages) mailboxes ≡ counted root weight messages
  parts_are_counted mailboxes [] different all = sum_nothing mailboxes
  parts_are_counted mailboxes (message ∷ messages) different all =
      let parts = and_parts _ _ all in
      let a = sum_more message messages mailboxes in
      let b = one_share message mailboxes different parts.0 in
      let c = parts_are_counted mailboxes messages different parts.1 in
      let d = sum_by-cons (λ (m : Message). cond (governs root m.mailbox) (weight m) 0) message messages in
      omega arith

pub whole_scan_is_usage : WholeScanIsUsage
whole_scan_is_usage roots opening history different housed root =
    let account = replay roots opening history in
    let kept = replay_housed roots opening history housed in
    let apart : are_different account.mailboxes ≡ true = subst (λ m. are_different m ≡ true) (sym kept.mailboxes) different in
    same_totals (parts_are_counted root (λ m. m.octets) account.mailboxes account.messages apart kept.housed) (parts_are_counted root (λ m. 1) account.mailboxes account.messages apart kept.housed)
