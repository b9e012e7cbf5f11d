-- What texts that may stand at their keys are.
use Rattle.std.proofs.Common.{◌≡◌, ℕ, suc, ◌+◌, ◌≤◌, Bool, true, false, not, ◌&&◌, cond, List, [], ◌∷◌, length, map, codes, bytes_eq, nat_eq, eqb, eq-eqb, ltb, lt-ltb, le-ltb, Option, None, Some, is_some, unwrap_or, option_map, position, arith, refl, ◌∙◌, sym, ap, inl, inr}
use Rattle.std.specs.List.{list_all, position_or_len, remove}
use Rattle.std.specs.Option.{option_and_then}
use Rattle.std.specs.Str.{str_eq_ignore_ascii_case}
use Rattle.std.proofs.lemmas.Bool.{and_parts, cases_Bool}
use Rattle.quota_roots.specs.MailboxNames.{canonical}
use Rattle.quota_roots.specs.RootLists.{is_prefix_at, is_root_name}
use Rattle.quota_roots.specs.Setups.{is_mailbox}
use Rattle.toml.specs.Data.{Data, Members, as_str}
use Rattle.quota_units.proofs.PlaceLemmas.{place_is, no_place}
use Rattle.accounts_file.specs.declared.key.Key.{Key}
use Rattle.accounts_file.specs.declared.key.Key.TheVariants.{Mailboxes, Prefix, RootName}
use Rattle.accounts_file.specs.declared.error.AccountsError.{AccountsError}
use Rattle.accounts_file.specs.declared.error.AccountsError.TheVariants.{BadValue}
use Rattle.accounts_file.specs.Keys.{value_at}
use Rattle.accounts_file.specs.Accounts.{with_inbox, without_first}
use Rattle.accounts_file.specs.Refusals.{judged, optional}
use Rattle.accounts_file.specs.Rules.{fits, is_right, spelling}
use Rattle.accounts_file.specs.Values.{are_all, are_texts, is_text, items_of, kept_text, text_of, text_or_empty, texts_at, texts_refusal}

kept_cond : (key : Key) (text : List ℕ) (small right : Bool) → right ≡ is_right key (spelling key text) → is_some (cond (small && right) (Some (spelling key text)) None) ≡ true
    → is_right key (unwrap_or (cond (small && right) (Some (spelling key text)) None) []) ≡ true
kept_cond key text true true e h = sym e
kept_cond key text true false e h = absurd (cc)
kept_cond key text false right e h = absurd (cc)

kept_right : (key : Key) (text : Option (List ℕ)) → is_some (kept_text key text) ≡ true → is_right key (unwrap_or (kept_text key text) []) ≡ true
kept_right key None h = absurd (cc)
kept_right key (Some text) h = kept_cond key text _ (is_right key (spelling key text)) refl h

-- a text that was read may stand at its key
pub read_right : (key : Key) (value : Data) → is_text key value ≡ true → is_right key (text_or_empty key value) ≡ true
read_right key value h = kept_right key (as_str value) h

pub judged_good : (key : Key) (good : Bool) → judged key good ≡ None → good ≡ true
judged_good key true h = refl
judged_good key false h = absurd (cc)

pub some_again : {A : Type 0} (o : Option A) (d : A) → is_some o ≡ true → o ≡ Some (unwrap_or o d)
some_again None d h = absurd (cc)
some_again (Some x) d h = refl

pub root_named : (value : Option Data) → optional RootName (option_map (is_text RootName) value) ≡ None → is_root_name (unwrap_or (option_and_then (text_of RootName) value) []) ≡ true
root_named None h = refl
root_named (Some value) h = read_right RootName value (judged_good RootName (is_text RootName value) h)

same_bytes : (bytes : List ℕ) → true ≡ bytes_eq bytes bytes
same_bytes [] = refl
same_bytes (byte ∷ bytes) = let e : eqb byte byte ≡ true = eq-eqb byte byte refl in rw e (same_bytes bytes)

canonical_twice : (text : List ℕ) → bytes_eq (canonical (canonical text)) (canonical text) ≡ true
canonical_twice text = elim (cases_Bool (str_eq_ignore_ascii_case text (codes "INBOX"))) [
  | inl inbox ↦ rw inbox refl
  | inr other ↦ rw (other, other) (sym (same_bytes text))
]

kept_mailbox : (text : List ℕ) (b : Bool) → is_some (cond b (Some (canonical text)) None) ≡ true → bytes_eq (canonical (unwrap_or (cond b (Some (canonical text)) None) [])) (unwrap_or (cond b (Some (canonical text)) None) []) ≡ true
kept_mailbox text true h = canonical_twice text
kept_mailbox text false h = absurd (cc)

kept_canonical : (text : Option (List ℕ)) → is_some (kept_text Mailboxes text) ≡ true → bytes_eq (canonical (unwrap_or (kept_text Mailboxes text) [])) (unwrap_or (kept_text Mailboxes text) []) ≡ true
kept_canonical None h = absurd (cc)
kept_canonical (Some text) h = kept_mailbox text (fits Mailboxes text) h

pub all_mailboxes : (values : List Data) → list_all (is_text Mailboxes) values ≡ true → list_all is_mailbox (map (text_or_empty Mailboxes) values) ≡ true
all_mailboxes [] h = refl
all_mailboxes (value ∷ values) h =
    let (here, more) = and_parts (is_text Mailboxes value) (list_all (is_text Mailboxes) values) h in
    rw (read_right Mailboxes value here, kept_canonical (as_str value) here) (all_mailboxes values more)

without_kept : (b : Bool) (name : List ℕ) (names rest : List (List ℕ)) → is_mailbox name ≡ true → list_all is_mailbox names ≡ true → list_all is_mailbox rest ≡ true
    → list_all is_mailbox (cond b names (name ∷ rest)) ≡ true
without_kept true name names rest here all kept = all
without_kept false name names rest here all kept = rw here kept

without_mailboxes : (name : List ℕ) (names : List (List ℕ)) → list_all is_mailbox names ≡ true → list_all is_mailbox (without_first name names) ≡ true
without_mailboxes name [] h = refl
without_mailboxes name (other ∷ names) h =
    let (here, more) = and_parts (is_mailbox other) (list_all is_mailbox names) h in
    without_kept (bytes_eq other name) other names (without_first name names) here more (without_mailboxes name names more)

pub inbox_mailboxes : (names : List (List ℕ)) → list_all is_mailbox names ≡ true → list_all is_mailbox (with_inbox names) ≡ true
inbox_mailboxes names h = without_mailboxes (codes "INBOX") names h

without_step : (b : Bool) (x : List ℕ) (xs rest : List (List ℕ)) (k : ℕ) → rest ≡ remove xs k → cond b xs (x ∷ rest) ≡ remove (x ∷ xs) (cond (not b) (1 + k) 0)
without_step true x xs rest k h = refl
without_step false x xs rest k h = let e : 1 + k ≡ suc k = omega arith in rw e (ap (λ (r : List (List ℕ)). x ∷ r) h)

without_by_place : (name : List ℕ) (names : List (List ℕ)) → without_first name names ≡ remove names (position_or_len (λ other. bytes_eq other name) names)
without_by_place name [] = refl
without_by_place name (other ∷ names) =
    without_step (bytes_eq other name) other names (without_first name names) (position_or_len (λ o. bytes_eq o name) names) (without_by_place name names)

pub without_at : (name : List ℕ) (names : List (List ℕ)) (at : ℕ) → Some at ≡ position (λ (other : List ℕ). bytes_eq other name) names → remove names at ≡ without_first name names
without_at name names at found =
    ap (remove names) (place_is (ltb (position_or_len (λ other. bytes_eq other name) names) (length names)) (position_or_len (λ other. bytes_eq other name) names) at found)
    ∙ sym (without_by_place name names)

without_tail : (b : Bool) (x : List ℕ) (xs rest : List (List ℕ)) (k : ℕ) → None ≡ cond (ltb (cond (not b) (1 + k) 0) (suc (length xs))) (Some (cond (not b) (1 + k) 0)) None
    → (None ≡ cond (ltb k (length xs)) (Some k) None → xs ≡ rest) → x ∷ xs ≡ cond b xs (x ∷ rest)
without_tail true x xs rest k h same = let e : ltb 0 (suc (length xs)) ≡ true = lt-ltb 0 (suc (length xs)) (omega arith) in absurd (cc (rw e at h))
without_tail false x xs rest k h same =
    let past : length xs ≤ k = let further : suc (length xs) ≤ 1 + k = no_place (1 + k) (suc (length xs)) h in omega arith in
    let e : ltb k (length xs) ≡ false = le-ltb k (length xs) past in
    ap (λ (r : List (List ℕ)). x ∷ r) (same (ap (λ b. cond b (Some k) None) (sym e)))

pub without_nowhere : (name : List ℕ) (names : List (List ℕ)) → None ≡ position (λ (other : List ℕ). bytes_eq other name) names → names ≡ without_first name names
without_nowhere name [] h = refl
without_nowhere name (other ∷ names) h =
    without_tail (bytes_eq other name) other names (without_first name names) (position_or_len (λ o. bytes_eq o name) names) h (without_nowhere name names)

pub judged_bad : (key : Key) (good : Bool) (e : AccountsError) → judged key good ≡ Some e → (good ≡ false) × (e ≡ BadValue key)
judged_bad key true e h = absurd (cc)
judged_bad key false e h = (refl, cc)

listed : (items : Option (List Data)) → judged Mailboxes (are_all (is_text Mailboxes) items) ≡ None → list_all is_mailbox (map (text_or_empty Mailboxes) (unwrap_or items [])) ≡ true
listed None h = refl
listed (Some values) h = all_mailboxes values (judged_good Mailboxes (list_all (is_text Mailboxes) values) h)

listed_at : (value : Option Data) → optional Mailboxes (option_map (are_texts Mailboxes) value) ≡ None
    → list_all is_mailbox (map (text_or_empty Mailboxes) (unwrap_or (option_and_then items_of value) [])) ≡ true
listed_at None h = refl
listed_at (Some value) h = listed (items_of value) h

pub read_mailboxes : (names : List (List ℕ)) (account : Members) → texts_refusal Mailboxes account ≡ None → names ≡ texts_at Mailboxes account → list_all is_mailbox (with_inbox names) ≡ true
read_mailboxes names account good read = rw read (inbox_mailboxes (texts_at Mailboxes account) (listed_at (value_at Mailboxes account) good))

pub read_prefix : (root : ℕ) (value : Data) (prefix : List ℕ) → nat_eq root 0 ≡ false → judged Prefix (is_some (text_of Prefix value)) ≡ None → prefix ≡ text_or_empty Prefix value
    → is_prefix_at root (Some prefix) ≡ true
read_prefix root value prefix other good read = rw (other, read) (read_right Prefix value (judged_good Prefix (is_text Prefix value) good))
