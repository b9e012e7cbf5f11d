-- What stays of the messages of an account when one is removed, marked or moved: how many there are, and that no mailbox has a base twice.
use Rattle.std.proofs.Common.{◌≡◌, ◌≤◌, ℕ, ◌+◌, Bool, true, false, cond, List, [], ◌∷◌, length, Some, None, refl, sym, ap, ◌∙◌, arith, inl, inr, bytes_eq, sum_by}
use Rattle.std.proofs.lemmas.Bool.{and_parts, and_right, cases_Bool}
use Rattle.std.proofs.lemmas.Slice.Eq.{bytes_eq-Decides}
use Rattle.quota_units.specs.declared.flags.Flags.{Flags}
use Rattle.account_core.specs.Account.{Message}
use Rattle.account_core.specs.Messages.{is_message, named_message, how_many, removed, changed, with_flags, with_mailbox}
use Rattle.account_core.proofs.MessageSums.{named_base, none_named, removed_sum, changed_sum, marked_sum}

shorter_step : (b : Bool) (first : Message) (rest less : List Message) → length less ≤ length rest → length (cond b rest (first ∷ less)) ≤ length rest + 1
shorter_step true first rest less fewer = omega arith
shorter_step false first rest less fewer = omega arith

pub removed_length : (mailbox base : List ℕ) (messages : List Message) → length (removed mailbox base messages) ≤ length messages
removed_length mailbox base [] = omega arith
removed_length mailbox base (first ∷ messages) =
    let one = shorter_step (is_message mailbox base first) first messages (removed mailbox base messages) (removed_length mailbox base messages) in omega arith

long_step : (change : Message → Message) (b : Bool) (first : Message) (rest rest' : List Message) → length rest' ≡ length rest → length (cond b (change first ∷ rest) (first ∷ rest')) ≡ length rest + 1
long_step change true first rest rest' long = omega arith
long_step change false first rest rest' long = omega arith

pub changed_length : (change : Message → Message) (mailbox base : List ℕ) (messages : List Message) → length (changed mailbox base change messages) ≡ length messages
changed_length change mailbox base [] = refl
changed_length change mailbox base (first ∷ messages) =
    let one = long_step change (is_message mailbox base first) first messages (changed mailbox base change messages) (changed_length change mailbox base messages) in omega arith

-- a number told of each message that the mailbox does not decide adds up to as much after a move
pub moved_sum : (weight : Message → ℕ) (message : Message) (from base to : List ℕ) (messages : List Message) → named_message from base messages ≡ Some message
    → weight (with_mailbox to message) ≡ weight message → sum_by weight (changed from base (with_mailbox to) messages) ≡ sum_by weight messages
moved_sum weight message from base to messages named same = let e = changed_sum weight message (with_mailbox to) from base messages named in omega arith

abbrev told_of : List ℕ → List ℕ → Message → ℕ
told_of mailbox base m = cond (is_message mailbox base m) 1 0

-- of no mailbox and base are there more after a removal or a mark
pub how_many_removed : (message : Message) (from base : List ℕ) (messages : List Message) → named_message from base messages ≡ Some message
    → (mailbox other : List ℕ) → how_many mailbox other (removed from base messages) ≤ how_many mailbox other messages
how_many_removed message from base messages named mailbox other = let e = removed_sum (told_of mailbox other) message from base messages named in omega arith

pub how_many_marked : (flags : Flags) (from base : List ℕ) (messages : List Message) (mailbox other : List ℕ)
    → how_many mailbox other (changed from base (with_flags flags) messages) ≡ how_many mailbox other messages
how_many_marked flags from base messages mailbox other = marked_sum (told_of mailbox other) flags (λ m. refl) from base messages

-- after a move to a mailbox that has no such base, no mailbox has a base twice
apart_step : (m moved : Bool) (after before : ℕ) → after + cond m 1 0 ≡ before + cond moved 1 0 → before ≤ 1 → (moved ≡ true → before ≡ 0) → after ≤ 1
apart_step m true after before e few none = let zero = none refl in omega arith
apart_step m false after before e few none = omega arith

pub apart_moved : (message : Message) (from base to : List ℕ) (messages : List Message) → named_message from base messages ≡ Some message → named_message to base messages ≡ None
    → ((mailbox other : List ℕ) → how_many mailbox other messages ≤ 1) → (mailbox other : List ℕ) → how_many mailbox other (changed from base (with_mailbox to) messages) ≤ 1
apart_moved message from base to messages named free apart mailbox other =
    apart_step (is_message mailbox other message) (is_message mailbox other (with_mailbox to message)) _ (how_many mailbox other messages)
    (changed_sum (told_of mailbox other) message (with_mailbox to) from base messages named) (apart mailbox other)
    (λ is. let parts = and_parts _ _ is in
    let there : to ≡ mailbox = (bytes_eq-Decides to mailbox).0 parts.0 in
    let named_so : base ≡ other = sym (named_base from base message messages named) ∙ (bytes_eq-Decides message.base other).0 parts.1 in
    ap (λ m. how_many m other messages) (sym there) ∙ ap (λ b. how_many to b messages) (sym named_so) ∙ (none_named to base messages).1 free)

-- a base that no mailbox has, none has after a move
other_base : (message : Message) (from base other : List ℕ) (messages : List Message) → named_message from base messages ≡ Some message → how_many from other messages ≡ 0 → bytes_eq message.base other ≡ false
other_base message from base other messages named none = elim (cases_Bool (bytes_eq message.base other)) [
  | inl same ↦ absurd (let so : base ≡ other = sym (named_base from base message messages named) ∙ (bytes_eq-Decides message.base other).0 same in
      let e : None ≡ Some message = sym ((none_named from other messages).0 none) ∙ ap (λ b. named_message from b messages) (sym so) ∙ named in cc)
  | inr differs ↦ differs
]

fresh_step : (m moved : Bool) (after before : ℕ) → after + cond m 1 0 ≡ before + cond moved 1 0 → before ≡ 0 → moved ≡ false → after ≡ 0
fresh_step m true after before e none no_move = absurd (cc)
fresh_step m false after before e none no_move = omega arith

pub fresh_moved : (message : Message) (from base to other : List ℕ) (messages : List Message) → named_message from base messages ≡ Some message
    → ((mailbox : List ℕ) → how_many mailbox other messages ≡ 0) → (mailbox : List ℕ) → how_many mailbox other (changed from base (with_mailbox to) messages) ≡ 0
fresh_moved message from base to other messages named fresh mailbox =
    fresh_step (is_message mailbox other message) (is_message mailbox other (with_mailbox to message)) _ (how_many mailbox other messages)
    (changed_sum (told_of mailbox other) message (with_mailbox to) from base messages named) (fresh mailbox)
    (and_right _ _ (other_base message from base other messages named (fresh from)))
