-- Which request the bytes are that came from a feed.
use Rattle.std.proofs.Common.{◌≡◌, ◌≢◌, ℕ, ◌+◌, ◌<◌, ◌≤◌, true, false, nat_le, List, [], ◌∷◌, ◌++◌, length, take, Option, Some, None, Ok, refl, ap, sym, ◌∙◌, inl, inr, arith, append_assoc, append-nil, length-append, Bor}
use Rattle.std.proofs.lemmas.Bool.{cond-true, cond-false}
use Rattle.std.proofs.lemmas.Bool.Decides.{nat_tests}
use Rattle.std.proofs.lemmas.List.{take_all, append_cancel_left}
use Rattle.quota_units.specs.declared.flags.Flags.{Flags}
use Rattle.wire_io.specs.Protocol.{IsFirst}
use Rattle.wire_io.proofs.Prefixes.{prefixes}
use Rattle.accounts_file.specs.Hosts.{Hosts}
use Rattle.front_core.specs.Taking.{Came}
use Rattle.policy_front.specs.Attributes.{is_closed}
use Rattle.policy_front.specs.Texts.{delivers, asked_of, max_text, reading_of}
use Rattle.policy_front.specs.Requests.{deliver, bad, Parted, parted_from, with_message, request_of, whole_of, whole}
use Rattle.policy_front.specs.Policy.{policy}
use Rattle.policy_front.specs.Taking.{request_taken, IsNotClosedBefore, IsText, IsEndless}
use Rattle.policy_front.specs.declared.reading.PolicyRequest.{PolicyRequest}
use Rattle.policy_front.specs.declared.reading.PolicyRequest.TheVariants.{Check, Deliver, Remove, Mark, Move, Stop, Other}

-- the text and the bytes after it
abbrev parts : (text rest : List ℕ) → Parted
parts text rest = record { text = text; rest = rest }

-- no prefix of the text is closed, and so it has no part that is
parted_open : (text : List ℕ) → IsNotClosedBefore text → is_closed text ≡ false → (come rest : List ℕ) → text ≡ come ++ rest → parted_from come rest ≡ None
parted_open text first unclosed come [] e =
    cond-false (is_closed come) (Some (parts come [])) None (ap is_closed (sym (e ∙ append-nil come)) ∙ unclosed)
parted_open text first unclosed come (b ∷ bs) e =
    cond-false (is_closed come) (Some (parts come (b ∷ bs))) (parted_from (come ++ b ∷ []) bs) (first come b bs e)
    ∙ parted_open text first unclosed (come ++ b ∷ []) bs (e ∙ sym (append_assoc come (b ∷ []) bs))

-- a text that is closed is parted from the bytes after it
parted_closed : (text : List ℕ) → IsNotClosedBefore text → is_closed text ≡ true → (rest come more : List ℕ) → text ≡ come ++ more → parted_from come (more ++ rest) ≡ Some (parts text rest)
parted_closed text first closed [] come [] e =
    let same : text ≡ come = e ∙ append-nil come in
    cond-true (is_closed come) (Some (parts come [])) None (ap is_closed (sym same) ∙ closed) ∙ ap (λ t. Some (parts t [])) (sym same)
parted_closed text first closed (b ∷ bs) come [] e =
    let same : text ≡ come = e ∙ append-nil come in
    cond-true (is_closed come) (Some (parts come (b ∷ bs))) (parted_from (come ++ b ∷ []) bs) (ap is_closed (sym same) ∙ closed) ∙ ap (λ t. Some (parts t (b ∷ bs))) (sym same)
parted_closed text first closed rest come (m ∷ ms) e =
    cond-false (is_closed come) (Some (parts come (m ∷ (ms ++ rest)))) (parted_from (come ++ m ∷ []) (ms ++ rest)) (first come m ms e)
    ∙ parted_closed text first closed rest (come ++ m ∷ []) ms (e ∙ sym (append_assoc come (m ∷ []) ms))

-- less than a text is no request
pub whole_open : (text : List ℕ) → IsNotClosedBefore text → is_closed text ≡ false → length text < max_text → whole text ≡ None
whole_open text first unclosed short =
    let few : nat_le max_text (length text) ≡ false = grind (arith, nat_tests) in
    ap (whole_of text) (parted_open text first unclosed [] text refl) ∙ cond-false (nat_le max_text (length text)) (Some bad) None few

-- bytes that hold no empty line in time are a bad one
pub whole_endless : (text : List ℕ) → IsEndless text → whole text ≡ Some bad
whole_endless text is =
    let full : length text ≡ max_text = is.full in
    let many : nat_le max_text (length text) ≡ true = grind (arith, nat_tests) in
    ap (whole_of text) (parted_open text is.first is.unclosed [] text refl) ∙ cond-true (nat_le max_text (length text)) (Some bad) None many

-- and a text, with bytes after it, is the request that it asks for
pub whole_text : (text : List ℕ) → IsText text → (rest : List ℕ) → whole (text ++ rest) ≡ request_of (reading_of text) rest
whole_text text is rest = ap (whole_of (text ++ rest)) (parted_closed text is.first is.closed rest [] text refl)

-- a part of a text that is closed nowhere before
not_closed_in : (text : List ℕ) → IsNotClosedBefore text → (prefix more : List ℕ) → text ≡ prefix ++ more → IsNotClosedBefore prefix
not_closed_in text first prefix more e own b rest i = first own b (rest ++ more) (e ∙ ap (λ l. l ++ more) i ∙ append_assoc own (b ∷ rest) more)

less_than_text : (text : List ℕ) → IsNotClosedBefore text → length text ≤ max_text → (prefix : List ℕ) (b : ℕ) (more : List ℕ) → text ≡ prefix ++ b ∷ more → whole prefix ≡ None
less_than_text text first within prefix b more e =
    let sized : length text ≡ length prefix + length (b ∷ more) = ap length e ∙ length-append prefix (b ∷ more) in
    whole_open prefix (not_closed_in text first prefix (b ∷ more) e) (first prefix b more e) (omega (arith, sized, within))

module _ (hosts : Hosts) (login : Option ℕ) where
  -- bytes of a text came
  pub came_text : (text : List ℕ) → IsNotClosedBefore text → length text ≤ max_text → Came (policy hosts) login text []
  came_text text first within = record { early = less_than_text text first within; asked = refl }

  -- a delivery's text came, and octets of its message
  module _ (text : List ℕ) (is : IsText text) (account mailbox : List ℕ) (octets : ℕ) (flags : Flags) (reads : reading_of text ≡ Ok (delivers account mailbox octets flags)) where
    delivery : (rest : List ℕ) → whole (text ++ rest) ≡ with_message account mailbox octets flags rest
    delivery rest = whole_text text is rest ∙ ap (λ r. request_of r rest) reads

    pub message_less : (rest : List ℕ) → length rest < octets → whole (text ++ rest) ≡ None
    message_less rest lt =
        let few : nat_le octets (length rest) ≡ false = grind (arith, nat_tests) in
        delivery rest ∙ cond-false (nat_le octets (length rest)) (Some (deliver account mailbox flags (take octets rest))) None few

    pub message_all : (message : List ℕ) → length message ≡ octets → whole (text ++ message) ≡ Some (deliver account mailbox flags message)
    message_all message sized =
        let all : nat_le octets (length message) ≡ true = grind (arith, nat_tests) in
        delivery message ∙ cond-true (nat_le octets (length message)) (Some (deliver account mailbox flags (take octets message))) None all
        ∙ ap (λ m. Some (deliver account mailbox flags m)) (take_all octets message (omega (arith, sized)))

    pub came_message : (message : List ℕ) → length message ≤ octets → Came (policy hosts) login (text ++ message) []
    came_message message le = record { early = early; asked = refl }
      where
        early : IsFirst (policy hosts) login (text ++ message)
        early prefix b more e = elim (prefixes text prefix message (b ∷ more) e) [
          | inl h ↦
              let parted : message ≡ h.0 ++ b ∷ more = append_cancel_left text message (h.0 ++ b ∷ more) (e ∙ ap (λ l. l ++ b ∷ more) h.1 ∙ append_assoc text h.0 (b ∷ more)) in
              let sized : length message ≡ length h.0 + length (b ∷ more) = ap length parted ∙ length-append h.0 (b ∷ more) in
              ap whole h.1 ∙ message_less h.0 (omega (arith, sized, le))
          | inr h ↦ less_than_text text is.first is.within prefix h.0 h.1 h.2
        ]

-- any request but a delivery is whole with its text
pub whole_alone : (q : PolicyRequest) (message : List ℕ) → ((account mailbox : Bor (List ℕ)) (octets : ℕ) (flags : Flags) → q ≢ Deliver account mailbox octets flags)
    → request_of (Ok (asked_of q)) [] ≡ Some (request_taken message (Ok q))
whole_alone (Check recipient size) message not = refl
whole_alone (Deliver account mailbox octets flags) message not = absurd (not account mailbox octets flags refl)
whole_alone (Remove account mailbox name) message not = refl
whole_alone (Mark account mailbox name flags) message not = refl
whole_alone (Move account mailbox name to) message not = refl
whole_alone Stop message not = refl
whole_alone Other message not = refl
