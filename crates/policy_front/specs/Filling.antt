-- Each text goes on to a request.
use Rattle.std.proofs.Common.{◌≡◌, ℕ, ◌≤◌, Bool, true, false, leb, le-leb, List, [], ◌∷◌, ◌++◌, length, take, replicate, Option, Some, None, Result, Ok, Err, refl, sym, ap, ◌∙◌, arith, append_assoc, append-nil, length-append}
use Rattle.std.proofs.lemmas.Bool.{cond-true, cond-false}
use Rattle.std.proofs.lemmas.List.{length-replicate}
use Rattle.policy_front.specs.declared.reading.PolicyFault.{PolicyFault}
use Rattle.policy_front.specs.Attributes.{is_closed}
use Rattle.policy_front.specs.Texts.{Asked, checks, delivers, removes, marks, moves, stops, unknown, max_text, reading_of}
use Rattle.policy_front.specs.Requests.{Request, check, deliver, remove, mark, move, stop, other, bad, Parted, parted_from, parted, request_of, whole_of, whole}

abbrev pub parts_are : (text rest : List ℕ) → Option Parted
parts_are text rest = Some (record { text = text; rest = rest })

-- what comes first of the bytes is closed
pub closed_parted : (come bytes : List ℕ) → is_closed come ≡ true
    → parted_from come bytes ≡ parts_are come bytes
closed_parted come [] e = cond-true (is_closed come) (parts_are come []) None e
closed_parted come (b ∷ bs) e = cond-true (is_closed come) (parts_are come (b ∷ bs))
    (parted_from (come ++ b ∷ []) bs) e

-- or not yet
pub open_parted : (come : List ℕ) (b : ℕ) (bs : List ℕ) → is_closed come ≡ false
    → parted_from come (b ∷ bs) ≡ parted_from (come ++ b ∷ []) bs
open_parted come b bs e = cond-false (is_closed come) (parts_are come (b ∷ bs))
    (parted_from (come ++ b ∷ []) bs) e

pub open_parted-end : (come : List ℕ) → is_closed come ≡ false → parted_from come [] ≡ None
open_parted-end come e = cond-false (is_closed come) (parts_are come []) None e

-- a text that is parted from the bytes after it is parted from more of them
parted_more : (come bytes more : List ℕ) (parts : Parted) → parted_from come bytes ≡ Some parts
    → parted_from come (bytes ++ more) ≡ parts_are parts.text (parts.rest ++ more)
parted_more come [] more parts e = go (is_closed come) refl
  where
    go : (c : Bool) → is_closed come ≡ c
        → parted_from come more ≡ parts_are parts.text (parts.rest ++ more)
    go true i =
        let same : parts_are come [] ≡ Some parts = sym (closed_parted come [] i) ∙ e in
        let is : record { text = come; rest = [] } ≡ parts = cc in
        closed_parted come more i ∙ ap (λ (p : Parted). parts_are p.text (p.rest ++ more)) is
    go false i = let none = sym (open_parted-end come i) ∙ e in absurd cc
parted_more come (b ∷ bs) more parts e =
    go (is_closed come) refl (parted_more (come ++ b ∷ []) bs more parts)
  where
    go : (c : Bool) → is_closed come ≡ c
        → (parted_from (come ++ b ∷ []) bs ≡ Some parts
        → parted_from (come ++ b ∷ []) (bs ++ more) ≡ parts_are parts.text (parts.rest ++ more))
        → parted_from come (b ∷ (bs ++ more)) ≡ parts_are parts.text (parts.rest ++ more)
    go true i later =
        let same : parts_are come (b ∷ bs) ≡ Some parts =
        sym (closed_parted come (b ∷ bs) i) ∙ e in
        let is : record { text = come; rest = b ∷ bs } ≡ parts = cc in
        closed_parted come (b ∷ (bs ++ more)) i
        ∙ ap (λ (p : Parted). parts_are p.text (p.rest ++ more)) is
    go false i later = open_parted come b (bs ++ more) i ∙ later (sym (open_parted come b bs i) ∙ e)

-- how many bytes a text needs after it, and that it is a request with at least so many
abbrev IsSettled : Result Asked PolicyFault → List ℕ → ℕ → Type 0
IsSettled reading rest need = (more : List ℕ) → need ≤ length more
    → (request : Request) × (request_of reading (rest ++ more) ≡ Some request)

settled : (reading : Result Asked PolicyFault) (rest : List ℕ)
    → (need : ℕ) × IsSettled reading rest need
settled (Ok (checks recipient size)) rest = (0, λ more le. (check recipient size, refl))
settled (Ok (delivers account mailbox octets flags)) rest = (
  octets,
  λ more le.
      let own = deliver account mailbox flags (take octets (rest ++ more)) in
      let parts = length-append rest more in (
        own,
        cond-true (leb octets (length (rest ++ more))) (Some own) None
            (le-leb octets (length (rest ++ more)) (omega arith)),
      ),
)
settled (Ok (removes account mailbox name)) rest =
    (0, λ more le. (remove account mailbox name, refl))
settled (Ok (marks account mailbox name flags)) rest =
    (0, λ more le. (mark account mailbox name flags, refl))
settled (Ok (moves account mailbox name to)) rest =
    (0, λ more le. (move account mailbox name to, refl))
settled (Ok stops) rest = (0, λ more le. (stop, refl))
settled (Ok unknown) rest = (0, λ more le. (other, refl))
settled (Err fault) rest = (0, λ more le. (bad, refl))

-- bytes, as many as are wanted
some_bytes : (n : ℕ) → (l : List ℕ) × (n ≤ length l)
some_bytes n =
    let sized : length (replicate n 0) ≡ n = length-replicate {A = ℕ} n 0 in
    (replicate n 0, omega (arith, sized))

-- a text of the most bytes goes on to a request
long_fills : (bytes : List ℕ) → max_text ≤ length bytes
    → (more : List ℕ) × (request : Request) × (whole (bytes ++ more) ≡ Some request)
long_fills bytes long = go (parted bytes) refl
  where
    go : (found : Option Parted) → parted bytes ≡ found
        → (more : List ℕ) × (request : Request) × (whole (bytes ++ more) ≡ Some request)
    go None e = (
      [],
      bad,
      ap whole (append-nil bytes) ∙ ap (whole_of bytes) e
          ∙ cond-true (leb max_text (length bytes)) (Some bad) None
          (le-leb max_text (length bytes) long),
    )
    go (Some parts) e =
        let need = settled (reading_of parts.text) parts.rest in
        let pad = some_bytes need.0 in
        let own = need.1 pad.0 pad.1 in (
          pad.0,
          own.0,
          ap (whole_of (bytes ++ pad.0)) (parted_more [] bytes pad.0 parts e) ∙ own.1,
        )

pub fills : (text : List ℕ)
    → (more : List ℕ) × (request : Request) × (whole (text ++ more) ≡ Some request)
fills text =
    let pad = some_bytes max_text in
    let parts = length-append text pad.0 in
    let padded = pad.1 in
    let own = long_fills (text ++ pad.0) (omega (arith, parts, padded)) in
    (pad.0 ++ own.0, own.1, ap whole (sym (append_assoc text pad.0 own.0)) ∙ own.2)
