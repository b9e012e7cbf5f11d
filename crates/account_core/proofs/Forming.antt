-- The machine's replies have their form.
use Rattle.std.proofs.Common.{◌≡◌, ℕ, zero, suc, ◌+◌, ◌<◌, Bool, true, false, cond, List, [], ◌∷◌, length, filter, find, Option, Some, None, arith, refl, sym, ◌∙◌, ap, subst, codes, bytes_eq, is_some}
use Rattle.std.specs.List.{All, filter_map, cons_option, slice_get}
use Rattle.std.specs.Option.{option_map}
use Rattle.std.proofs.lemmas.List.Elements.{All-filter, All-map}
use Rattle.quota_units.specs.Limiting.{LimitNumbers}
use Rattle.quota_units.specs.declared.resource.Resource.{Resource}
use Rattle.quota_units.specs.declared.totals.Totals.{Totals}
use Rattle.quota_roots.specs.declared.root.RootSpec.{RootSpec}
use Rattle.quota_roots.specs.Governing.{governs, governing, gaining}
use Rattle.quota_roots.proofs.GoverningLemmas.{all_below, gaining_all_below}
use Rattle.admission.specs.Fitting.{over, first_over, limits_at, totals_at}
use Rattle.account_core.specs.declared.calls.Call.{Call}
use Rattle.account_core.specs.declared.calls.Call.TheVariants.{Deliver, Check, Remove, Mark, Move, Quota as QuotaCall, SetLimits, Roots as RootsCall, Status as StatusCall, ScanBegin, ScanPart, Install}
use Rattle.account_core.specs.declared.calls.Reply.{Reply}
use Rattle.account_core.specs.declared.calls.Reply.TheVariants.{NoMailbox, Over, Delivered, Fits, NoMessage, Removed, Marked, NameTaken, Moved, Changed, Installed}
use Rattle.account_core.specs.declared.calls.RootRow.{RootRow}
use Rattle.account_core.specs.Account.{Account, Message}
use Rattle.account_core.specs.Messages.{named_message}
use Rattle.account_core.specs.Scanning.{part_of}
use Rattle.account_core.specs.Machine.{has_mailbox, if_message, usages, over_of, over_in, over_or, rows_from, rows, named, quota_reply, limits_reply, moving_reply, move_between_reply}
use Rattle.account_core.specs.Forms.{is_answer, HasForm, RepliesHaveForm}

-- the first root that is over is one of those that are looked at
abbrev numbered : (ℕ → Option Resource) → ℕ → Option (ℕ × Resource)
numbered h root = option_map (λ resource. (root, resource)) (h root)

first_among : (h : ℕ → Option Resource) (n : ℕ) (roots : List ℕ) → All (λ root. root < n) roots → (at : ℕ × Resource) → slice_get (filter_map (numbered h) roots) 0 ≡ Some at → at.0 < n
first_among h n [] below at is = absurd (cc)
first_among h n (x ∷ xs) below at is = by (h x) refl (first_among h n xs (λ k d inside. below (suc k) d (omega (arith, inside))) at)
  where
    by : (o : Option Resource) → h x ≡ o → (slice_get (filter_map (numbered h) xs) 0 ≡ Some at → at.0 < n) → at.0 < n
    by None e rest =
        rest
        (sym (ap (λ p. slice_get (cons_option (option_map (λ resource. (x, resource)) p) (filter_map (numbered h) xs)) 0) e) ∙ is)
    by (Some resource) e rest =
        let k : Some (let p : ℕ × Resource = (x, resource) in p) ≡ Some at = sym (ap (λ p. slice_get (cons_option (option_map (λ r. (x, r)) p) (filter_map (numbered h) xs)) 0) e) ∙ is in
        let same : (let p : ℕ × Resource = (x, resource) in p) ≡ at = cc in
        subst (λ r. r < n) (ap (λ (p : ℕ × Resource). p.0) same) (below 0 x (omega arith))

pub over_below : (limits : List LimitNumbers) (totals : List Totals) (numbers : List ℕ) (octets n : ℕ) → All (λ root. root < n) numbers → (at : ℕ × Resource) → first_over limits totals numbers octets ≡ Some at → at.0 < n
over_below limits totals numbers octets n = first_among (λ root. over (limits_at limits root) (totals_at totals root) octets) n numbers

over_among : (roots : List RootSpec) (account : Account) (numbers : List ℕ) (octets : ℕ) → All (λ root. root < length roots) numbers
    → (at : ℕ × Resource) → over_of roots account numbers octets ≡ Some at → at.0 < length roots
over_among roots account numbers octets = over_below account.limits (usages roots account) numbers octets (length roots)

module _ (roots : List RootSpec) (mailboxes : List (List ℕ)) (call : Call) where
  over_form : (o : Option (ℕ × Resource)) (given : Reply) → ((root : ℕ) (resource : Resource) → is_answer call (Over root resource) ≡ true) → ((at : ℕ × Resource) → o ≡ Some at → at.0 < length roots)
      → HasForm roots mailboxes call given → HasForm roots mailboxes call (over_or o given)
  over_form None given kind inside form = form
  over_form (Some at) given kind inside form = record { kind = kind at.0 at.1; names = inside at refl }

  box_form : (b : Bool) (given : Reply) → is_answer call NoMailbox ≡ true → HasForm roots mailboxes call given → HasForm roots mailboxes call (cond b given NoMailbox)
  box_form true given kind form = form
  box_form false given kind form = record { kind = kind; names = tt }

  message_form : (o : Option Message) (given : Reply) → is_answer call NoMessage ≡ true → HasForm roots mailboxes call given → HasForm roots mailboxes call (if_message o given)
  message_form None given kind form = record { kind = kind; names = tt }
  message_form (Some message) given kind form = form

-- the rows are numbered as the roots are
rows_below : (account : Account) (n : ℕ) (roots : List RootSpec) (limits : List LimitNumbers) → All (λ (x : RootSpec × RootRow). x.1.root < n + length roots) (rows_from account n roots limits)
rows_below account n [] limits k d inside = absurd (omega (arith, inside))
rows_below account n (root ∷ roots) [] k d inside = absurd (omega (arith, inside))
rows_below account n (root ∷ roots) (own ∷ limits) zero d inside = omega arith
rows_below account n (root ∷ roots) (own ∷ limits) (suc k) d inside = let later = rows_below account (n + 1) roots limits k d (omega (arith, inside)) in omega (arith, later)

found_below : (p : RootSpec × RootRow → Bool) (n : ℕ) (xs : List (RootSpec × RootRow)) → All (λ (x : RootSpec × RootRow). x.1.root < n) xs → (x : RootSpec × RootRow) → find p xs ≡ Some x → x.1.root < n
found_below p n [] below x is = absurd (cc)
found_below p n (y ∷ ys) below x is = by (p y) refl (found_below p n ys (λ k d inside. below (suc k) d (omega (arith, inside))) x)
  where
    by : (b : Bool) → p y ≡ b → (find p ys ≡ Some x → x.1.root < n) → x.1.root < n
    by true e rest =
        let k : Some y ≡ Some x = sym (ap (λ (b : Bool). cond b (Some y) (find p ys)) e) ∙ is in
        let same : y ≡ x = cc in
        subst (λ (z : RootSpec × RootRow). z.1.root < n) same (below 0 y (omega arith))
    by false e rest = rest (sym (ap (λ (b : Bool). cond b (Some y) (find p ys)) e) ∙ is)

module _ (roots : List RootSpec) (account : Account) where
  all_rows : All (λ (x : RootSpec × RootRow). x.1.root < length roots) (rows roots account)
  all_rows k d inside = let below = rows_below account 0 roots account.limits k d inside in omega (arith, below)

  quota_form : (name : List ℕ) (o : Option (RootSpec × RootRow)) → named roots account name ≡ o → HasForm roots account.mailboxes (QuotaCall name) (quota_reply o)
  quota_form name None e = record { kind = refl; names = tt }
  quota_form name (Some x) e = record { kind = refl; names = found_below (λ x. bytes_eq x.0.name name) (length roots) (rows roots account) all_rows x e }

  limits_form : (name : List ℕ) (limits : LimitNumbers) (o : Option (RootSpec × RootRow)) → named roots account name ≡ o → HasForm roots account.mailboxes (SetLimits name limits) (limits_reply limits o)
  limits_form name limits None e = record { kind = refl; names = tt }
  limits_form name limits (Some x) e = record { kind = refl; names = found_below (λ x. bytes_eq x.0.name name) (length roots) (rows roots account) all_rows x e }

  placing_form : (from base to : List ℕ) (message : Message) (taken : Bool)
      → HasForm roots account.mailboxes (Move from base to) (cond taken NameTaken (over_or (over_of roots account (gaining roots from to) message.octets) Moved))
  placing_form from base to message true = record { kind = refl; names = tt }
  placing_form from base to message false =
      over_form roots account.mailboxes (Move from base to) (over_of roots account (gaining roots from to) message.octets) Moved (λ root resource. refl)
      (over_among roots account (gaining roots from to) message.octets (gaining_all_below roots from to (length roots))) (record { kind = refl; names = tt })

  moving_form : (from base to : List ℕ) (o : Option Message) → HasForm roots account.mailboxes (Move from base to) (moving_reply roots account from base to o)
  moving_form from base to None = record { kind = refl; names = tt }
  moving_form from base to (Some message) = by (bytes_eq from to)
    where
      by : (same : Bool) → HasForm roots account.mailboxes (Move from base to) (cond same Moved (move_between_reply roots account from base to message))
      by true = record { kind = refl; names = tt }
      by false = placing_form from base to message (is_some (named_message to base account.messages))

  part_form : (index : ℕ) (o : Option (List ℕ)) → HasForm roots account.mailboxes (ScanPart index) (part_of account o)
  part_form index None = record { kind = refl; names = tt }
  part_form index (Some mailbox) = record { kind = refl; names = tt }

  install_form : (generation : ℕ) (same : Bool) → HasForm roots account.mailboxes (Install generation) (cond same (Installed (usages roots account)) (Changed generation account.generation))
  install_form generation true = record { kind = refl; names = count roots }
    where
      count : (rs : List RootSpec) → length (usages rs account) ≡ length rs
      count [] = refl
      count (r ∷ rs) = ap suc (count rs)
  install_form generation false = record { kind = refl; names = tt }

pub replies_have_form : RepliesHaveForm
replies_have_form roots account (Deliver mailbox octets flags) =
    box_form roots account.mailboxes (Deliver mailbox octets flags) (has_mailbox account mailbox) _ refl
    (over_form roots account.mailboxes (Deliver mailbox octets flags) (over_in roots account mailbox octets) (Delivered (account.deliveries + 1)) (λ root resource. refl)
    (over_among roots account (governing roots mailbox) octets (all_below roots mailbox (length roots))) (record { kind = refl; names = tt }))
replies_have_form roots account (Check octets) =
    over_form roots account.mailboxes (Check octets) (over_in roots account (codes "INBOX") octets) Fits (λ root resource. refl)
    (over_among roots account (governing roots (codes "INBOX")) octets (all_below roots (codes "INBOX") (length roots))) (record { kind = refl; names = tt })
replies_have_form roots account (Remove mailbox base) =
    box_form roots account.mailboxes (Remove mailbox base) (has_mailbox account mailbox) _ refl
    (message_form roots account.mailboxes (Remove mailbox base) (named_message mailbox base account.messages) Removed refl (record { kind = refl; names = tt }))
replies_have_form roots account (Mark mailbox base flags) =
    box_form roots account.mailboxes (Mark mailbox base flags) (has_mailbox account mailbox) _ refl
    (message_form roots account.mailboxes (Mark mailbox base flags) (named_message mailbox base account.messages) Marked refl (record { kind = refl; names = tt }))
replies_have_form roots account (Move from base to) =
    box_form roots account.mailboxes (Move from base to) (has_mailbox account from) _ refl
    (box_form roots account.mailboxes (Move from base to) (has_mailbox account to) _ refl (moving_form roots account from base to (named_message from base account.messages)))
replies_have_form roots account (QuotaCall name) = quota_form roots account name (named roots account name) refl
replies_have_form roots account (SetLimits name limits) = limits_form roots account name limits (named roots account name) refl
replies_have_form roots account (RootsCall mailbox) = record {
  kind = refl;
  names = All-map (λ (row : RootRow). row.root < length roots) (λ (x : RootSpec × RootRow). x.1) (filter (λ x. governs x.0 mailbox) (rows roots account)) (All-filter (λ x. governs x.0 mailbox) (λ (x : RootSpec × RootRow). x.1.root < length roots) (rows roots account) (all_rows roots account));
}
replies_have_form roots account (StatusCall mailbox) = box_form roots account.mailboxes (StatusCall mailbox) (has_mailbox account mailbox) _ refl (record { kind = refl; names = tt })
replies_have_form roots account ScanBegin = record { kind = refl; names = refl }
replies_have_form roots account (ScanPart index) = part_form roots account index (slice_get account.mailboxes index)
replies_have_form roots account (Install generation) = install_form roots account generation _
