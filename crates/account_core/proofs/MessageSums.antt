-- Sums over the messages of an account, and what a delivery, a removal, a mark and a move make of them.
use Rattle.std.proofs.Common.{◌≡◌, ◌↔◌, ◌≤◌, ℕ, ◌+◌, Bool, true, false, cond, List, [], ◌∷◌, ◌++◌, Option, Some, None, refl, sym, ap, ◌∙◌, arith, sum_by}
use Rattle.std.proofs.lemmas.Bool.{and_parts}
use Rattle.std.proofs.lemmas.List.Sums.{sum_by_push, sum_by-cons}
use Rattle.std.proofs.lemmas.Slice.Eq.{bytes_eq-Decides}
use Rattle.quota_units.specs.declared.flags.Flags.{Flags}
use Rattle.quota_roots.specs.declared.root.RootSpec.{RootSpec}
use Rattle.quota_roots.specs.Governing.{governs}
use Rattle.account_core.specs.Account.{Message, counted}
use Rattle.account_core.specs.Messages.{is_message, named_message, how_many, removed, changed, with_flags, with_mailbox}

some_is : (x y : Message) → Some x ≡ Some y → x ≡ y
some_is x y e = cc

-- the named message has this mailbox and this base
named_step : (mailbox base : List ℕ) (message first : Message) (b : Bool) (o : Option Message) → is_message mailbox base first ≡ b → cond b (Some first) o ≡ Some message
    → (o ≡ Some message → is_message mailbox base message ≡ true) → is_message mailbox base message ≡ true
named_step mailbox base message first true o is named more = ap (is_message mailbox base) (sym (some_is first message named)) ∙ is
named_step mailbox base message first false o is named more = more named

pub named_is : (mailbox base : List ℕ) (message : Message) (messages : List Message) → named_message mailbox base messages ≡ Some message → is_message mailbox base message ≡ true
named_is mailbox base message [] named = absurd (cc)
named_is mailbox base message (first ∷ messages) named =
    named_step mailbox base message first (is_message mailbox base first) (named_message mailbox base messages) refl named (named_is mailbox base message messages)

pub named_mailbox : (mailbox base : List ℕ) (message : Message) (messages : List Message) → named_message mailbox base messages ≡ Some message → message.mailbox ≡ mailbox
named_mailbox mailbox base message messages named = (bytes_eq-Decides message.mailbox mailbox).0 (and_parts _ _ (named_is mailbox base message messages named)).0

pub named_base : (mailbox base : List ℕ) (message : Message) (messages : List Message) → named_message mailbox base messages ≡ Some message → message.base ≡ base
named_base mailbox base message messages named = (bytes_eq-Decides message.base base).0 (and_parts _ _ (named_is mailbox base message messages named)).1

-- no message is of a mailbox and base exactly where they name none
none_step : (b : Bool) (first : Message) (o : Option Message) (n : ℕ) → ((n ≡ 0) ↔ (o ≡ None)) → (cond b 1 0 + n ≡ 0) ↔ (cond b (Some first) o ≡ None)
none_step true first o n both = (λ e. absurd (omega arith), λ e. absurd (cc))
none_step false first o n both = (λ e. both.0 (omega arith), λ e. let zero = both.1 e in omega arith)

pub none_named : (mailbox base : List ℕ) (messages : List Message) → (how_many mailbox base messages ≡ 0) ↔ (named_message mailbox base messages ≡ None)
none_named mailbox base [] = (λ e. refl, λ e. refl)
none_named mailbox base (first ∷ messages) =
    let both = none_step (is_message mailbox base first) first (named_message mailbox base messages) (how_many mailbox base messages) (none_named mailbox base messages) in
    let cons = sum_by-cons (λ (m : Message). cond (is_message mailbox base m) 1 0) first messages in
    (λ e. both.0 (sym cons ∙ e), λ e. cons ∙ both.1 e)

-- where no message is named, none is removed or changed
removed_none_step : (b : Bool) (first : Message) (rest less : List Message) (o : Option Message) → cond b (Some first) o ≡ None → (o ≡ None → less ≡ rest) → cond b rest (first ∷ less) ≡ first ∷ rest
removed_none_step true first rest less o none more = absurd (cc)
removed_none_step false first rest less o none more = ap (λ ms. first ∷ ms) (more none)

pub removed_none : (mailbox base : List ℕ) (messages : List Message) → named_message mailbox base messages ≡ None → removed mailbox base messages ≡ messages
removed_none mailbox base [] none = refl
removed_none mailbox base (first ∷ messages) none =
    removed_none_step (is_message mailbox base first) first messages (removed mailbox base messages) (named_message mailbox base messages) none (removed_none mailbox base messages)

module _ (weight : Message → ℕ) (message : Message) where
  removed_step : (b : Bool) (first : Message) (rest less : List Message) (o : Option Message) → cond b (Some first) o ≡ Some message
      → (o ≡ Some message → sum_by weight less + weight message ≡ sum_by weight rest)
      → sum_by weight (cond b rest (first ∷ less)) + weight message ≡ weight first + sum_by weight rest
  removed_step true first rest less o named more = let same : weight first ≡ weight message = ap weight (some_is first message named) in omega arith
  removed_step false first rest less o named more = let less_is = more named in let cons = sum_by-cons weight first less in omega arith

  -- a sum without the named message
  pub removed_sum : (mailbox base : List ℕ) (messages : List Message) → named_message mailbox base messages ≡ Some message
      → sum_by weight (removed mailbox base messages) + weight message ≡ sum_by weight messages
  removed_sum mailbox base [] named = absurd (cc)
  removed_sum mailbox base (first ∷ messages) named =
      removed_step (is_message mailbox base first) first messages (removed mailbox base messages) (named_message mailbox base messages) named (removed_sum mailbox base messages)
      ∙ sym (sum_by-cons weight first messages)

  changed_step : (change : Message → Message) (b : Bool) (first : Message) (rest rest' : List Message) (o : Option Message) → cond b (Some first) o ≡ Some message
      → (o ≡ Some message → sum_by weight rest' + weight message ≡ sum_by weight rest + weight (change message))
      → sum_by weight (cond b (change first ∷ rest) (first ∷ rest')) + weight message ≡ weight first + sum_by weight rest + weight (change message)
  changed_step change true first rest rest' o named more =
      let same : weight first ≡ weight message = ap weight (some_is first message named) in
      let same' : weight (change first) ≡ weight (change message) = ap (λ m. weight (change m)) (some_is first message named) in
      let cons = sum_by-cons weight (change first) rest in
      omega arith
  changed_step change false first rest rest' o named more = let more_is = more named in let cons = sum_by-cons weight first rest' in omega arith

  -- a sum with the named message changed
  pub changed_sum : (change : Message → Message) (mailbox base : List ℕ) (messages : List Message) → named_message mailbox base messages ≡ Some message
      → sum_by weight (changed mailbox base change messages) + weight message ≡ sum_by weight messages + weight (change message)
  changed_sum change mailbox base [] named = absurd (cc)
  changed_sum change mailbox base (first ∷ messages) named =
      changed_step change (is_message mailbox base first) first messages (changed mailbox base change messages) (named_message mailbox base messages) named (changed_sum change mailbox base messages)
      ∙ ap (λ n. n + weight (change message)) (sym (sum_by-cons weight first messages))

  -- where at most one message is of the mailbox and base, a sum over those that are is the named message's part
  only_step : (b : Bool) (first : Message) (o : Option Message) (n total : ℕ) → cond b (Some first) o ≡ Some message → cond b 1 0 + n ≤ 1 → (n ≡ 0 → total ≡ 0) → (o ≡ Some message → n ≤ 1 → total ≡ weight message)
      → cond b (weight first) 0 + total ≡ weight message
  only_step true first o n total named few none more = let same : weight first ≡ weight message = ap weight (some_is first message named) in let zero : total ≡ 0 = none (omega arith) in omega arith
  only_step false first o n total named few none more = let is = more named (omega arith) in omega arith

none_sum_step : (b : Bool) (n w total : ℕ) → cond b 1 0 + n ≡ 0 → (n ≡ 0 → total ≡ 0) → cond b w 0 + total ≡ 0
none_sum_step true n w total none more = absurd (omega arith)
none_sum_step false n w total none more = let is = more (omega arith) in omega arith

pub none_sum : (weight : Message → ℕ) (mailbox base : List ℕ) (messages : List Message) → how_many mailbox base messages ≡ 0 → sum_by (λ (m : Message). cond (is_message mailbox base m) (weight m) 0) messages ≡ 0
none_sum weight mailbox base [] none = refl
none_sum weight mailbox base (first ∷ messages) none =
    sum_by-cons (λ (m : Message). cond (is_message mailbox base m) (weight m) 0) first messages
    ∙ none_sum_step (is_message mailbox base first) (how_many mailbox base messages) (weight first) _
    (sym (sum_by-cons (λ (m : Message). cond (is_message mailbox base m) 1 0) first messages) ∙ none) (none_sum weight mailbox base messages)

pub only_sum : (weight : Message → ℕ) (message : Message) (mailbox base : List ℕ) (messages : List Message) → named_message mailbox base messages ≡ Some message → how_many mailbox base messages ≤ 1
    → sum_by (λ (m : Message). cond (is_message mailbox base m) (weight m) 0) messages ≡ weight message
only_sum weight message mailbox base [] named few = absurd (cc)
only_sum weight message mailbox base (first ∷ messages) named few =
    let cons = sum_by-cons (λ (m : Message). cond (is_message mailbox base m) 1 0) first messages in
    sum_by-cons (λ (m : Message). cond (is_message mailbox base m) (weight m) 0) first messages
    ∙ only_step weight message (is_message mailbox base first) first (named_message mailbox base messages) (how_many mailbox base messages) _ named (omega arith)
    (none_sum weight mailbox base messages) (only_sum weight message mailbox base messages)

-- what a root counts, after each event

pub counted_push : (root : RootSpec) (weight : Message → ℕ) (messages : List Message) (message : Message) (b : Bool) → governs root message.mailbox ≡ b
    → counted root weight (messages ++ message ∷ []) ≡ counted root weight messages + cond b (weight message) 0
counted_push root weight messages message b is =
    sum_by_push (λ (m : Message). cond (governs root m.mailbox) (weight m) 0) messages message ∙ ap (λ (c : Bool). counted root weight messages + cond c (weight message) 0) is

-- what the root counts of a message
abbrev pub part : RootSpec → (Message → ℕ) → Message → ℕ
part root weight message = cond (governs root message.mailbox) (weight message) 0

pub counted_removed : (root : RootSpec) (weight : Message → ℕ) (message : Message) (mailbox base : List ℕ) (messages : List Message) → named_message mailbox base messages ≡ Some message
    → counted root weight (removed mailbox base messages) + cond (governs root mailbox) (weight message) 0 ≡ counted root weight messages
counted_removed root weight message mailbox base messages named =
    ap (λ (name : List ℕ). counted root weight (removed mailbox base messages) + cond (governs root name) (weight message) 0) (sym (named_mailbox mailbox base message messages named))
    ∙ removed_sum (part root weight) message mailbox base messages named

pub counted_moved : (root : RootSpec) (weight : Message → ℕ) (message : Message) (from base to : List ℕ) (messages : List Message) → named_message from base messages ≡ Some message
    → counted root weight (changed from base (with_mailbox to) messages) + cond (governs root from) (weight message) 0
    ≡ counted root weight messages + cond (governs root to) (weight (with_mailbox to message)) 0
counted_moved root weight message from base to messages named =
    ap (λ (name : List ℕ). counted root weight (changed from base (with_mailbox to) messages) + cond (governs root name) (weight message) 0) (sym (named_mailbox from base message messages named))
    ∙ changed_sum (part root weight) message (with_mailbox to) from base messages named

-- a mark changes no sum that leaves the flags out
pub marked_sum : (weight : Message → ℕ) (flags : Flags) → ((m : Message) → weight (with_flags flags m) ≡ weight m)
    → (mailbox base : List ℕ) (messages : List Message) → sum_by weight (changed mailbox base (with_flags flags) messages) ≡ sum_by weight messages
marked_sum weight flags same mailbox base [] = refl
marked_sum weight flags same mailbox base (first ∷ messages) =
    marked_step (is_message mailbox base first) (marked_sum weight flags same mailbox base messages) ∙ sym (sum_by-cons weight first messages)
  where
    marked_step : (b : Bool) → sum_by weight (changed mailbox base (with_flags flags) messages) ≡ sum_by weight messages
        → sum_by weight (cond b (with_flags flags first ∷ messages) (first ∷ changed mailbox base (with_flags flags) messages)) ≡ weight first + sum_by weight messages
    marked_step true more = sum_by-cons weight (with_flags flags first) messages ∙ ap (λ n. n + sum_by weight messages) (same first)
    marked_step false more = sum_by-cons weight first (changed mailbox base (with_flags flags) messages) ∙ ap (λ n. weight first + n) more

pub counted_marked : (root : RootSpec) (weight : Message → ℕ) (flags : Flags) → ((m : Message) → weight (with_flags flags m) ≡ weight m)
    → (mailbox base : List ℕ) (messages : List Message) → counted root weight (changed mailbox base (with_flags flags) messages) ≡ counted root weight messages
counted_marked root weight flags same mailbox base messages = marked_sum (part root weight) flags (λ m. ap (λ n. cond (governs root m.mailbox) n 0) (same m)) mailbox base messages

-- two lists over which any number told of each message adds up to as much: what names one message in the one names it in the other

abbrev bit : Bool → ℕ
bit b = cond b 1 0

bit_is : (b c : Bool) → bit b ≡ bit c → b ≡ c
bit_is true true e = refl
bit_is true false e = absurd (omega arith)
bit_is false true e = absurd (omega arith)
bit_is false false e = refl

-- any number that is told of each message is the same of both
told_alike : (x y : Message) → ((weight : Message → ℕ) → weight x ≡ weight y) → x.mailbox ≡ y.mailbox → x.base ≡ y.base → x ≡ y
told_alike x y alike mailbox base =
    let octets : x.octets ≡ y.octets = alike (λ m. m.octets) in
    let draft : x.flags.draft ≡ y.flags.draft = bit_is _ _ (alike (λ m. bit m.flags.draft)) in
    let flagged : x.flags.flagged ≡ y.flags.flagged = bit_is _ _ (alike (λ m. bit m.flags.flagged)) in
    let passed : x.flags.passed ≡ y.flags.passed = bit_is _ _ (alike (λ m. bit m.flags.passed)) in
    let replied : x.flags.replied ≡ y.flags.replied = bit_is _ _ (alike (λ m. bit m.flags.replied)) in
    let seen : x.flags.seen ≡ y.flags.seen = bit_is _ _ (alike (λ m. bit m.flags.seen)) in
    let trashed : x.flags.trashed ≡ y.flags.trashed = bit_is _ _ (alike (λ m. bit m.flags.trashed)) in
    λ i. record {
      mailbox = mailbox i;
      base = base i;
      octets = octets i;
      flags = record { draft = draft i; flagged = flagged i; passed = passed i; replied = replied i; seen = seen i; trashed = trashed i };
    }

named_or : (o : Option Message) → ((o ≡ None) → ⊥) → (message : Message) × (o ≡ Some message)
named_or None some = absurd (some refl)
named_or (Some message) some = (message, refl)

pub same_named : (messages others : List Message) → ((weight : Message → ℕ) → sum_by weight messages ≡ sum_by weight others) → (mailbox base : List ℕ) (message : Message)
    → how_many mailbox base messages ≤ 1 → named_message mailbox base messages ≡ Some message → named_message mailbox base others ≡ Some message
same_named messages others same mailbox base message few named =
    let many : how_many mailbox base messages ≡ how_many mailbox base others = same (λ m. cond (is_message mailbox base m) 1 0) in
    let there = named_or (named_message mailbox base others)
    (λ none. let zero : how_many mailbox base others ≡ 0 = (none_named mailbox base others).1 none in
    let e : None ≡ Some message = sym ((none_named mailbox base messages).0 (many ∙ zero)) ∙ named in cc) in
    let other = there.0 in
    let alike : (weight : Message → ℕ) → weight other ≡ weight message = λ weight.
    sym (only_sum weight other mailbox base others there.1 (omega arith))
    ∙ sym (same (λ m. cond (is_message mailbox base m) (weight m) 0)) ∙ only_sum weight message mailbox base messages named few in
    there.1 ∙ ap (λ m. Some m) (told_alike other message alike
    (named_mailbox mailbox base other others there.1 ∙ sym (named_mailbox mailbox base message messages named))
    (named_base mailbox base other others there.1 ∙ sym (named_base mailbox base message messages named)))
