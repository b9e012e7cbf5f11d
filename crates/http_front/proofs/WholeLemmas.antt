-- Which request bytes are, and what is written for them.
use Rattle.std.proofs.Common.{◌≡◌, ℕ, ◌+◌, ◌<◌, ◌≤◌, true, false, nat_le, leb, le-leb, if◌then◌else◌, List, [], ◌∷◌, ◌++◌, length, take, replicate, Option, Some, None, Result, Ok, Err, refl, ap, sym, ◌∙◌, inl, inr, arith, append_assoc, append-nil, length-append}
use Rattle.std.proofs.lemmas.Bool.{cond-true, cond-false}
use Rattle.std.proofs.lemmas.Bool.Decides.{nat_tests}
use Rattle.std.proofs.lemmas.List.{take_all, append_cancel_left, length-replicate}
use Rattle.wire_io.specs.Work.{Work}
use Rattle.wire_io.specs.Protocol.{IsFilled}
use Rattle.wire_io.proofs.Prefixes.{prefixes}
use Rattle.http_front.specs.declared.refusal.Refusal.{Refusal}
use Rattle.http_front.specs.declared.refusal.Refusal.TheVariants.{HeadTooLarge}
use Rattle.http_front.specs.Heads.{max_head, ends_head, Cut, cut_head}
use Rattle.http_front.specs.Judging.{Asked, judged}
use Rattle.http_front.specs.Requests.{Request, refused, asked, with_body, whole_of, whole, IsRequest, IsBegun, continue_text, prompt_of, prompts_of, prompts}
use Rattle.http_front.specs.Http.{http}
use Rattle.http_front.specs.Taking.{IsUnendedBefore, IsHead, IsEndless, IsPartOfHead, IsPartOrAll}
use Rattle.http_front.proofs.CutLemmas.{cut_more, cut_none, cut_head_off, unended_in}

-- no proper prefix of the bytes is a whole request
abbrev pub IsFirst : List ℕ → Type 0
IsFirst bytes = (prefix : List ℕ) (b : ℕ) (more : List ℕ) → bytes ≡ prefix ++ b ∷ more → whole prefix ≡ None

pub begun_from : (bytes : List ℕ) → IsFirst bytes → whole bytes ≡ None → IsBegun bytes
begun_from bytes first none prefix [] e = ap whole (sym (append-nil prefix) ∙ sym e) ∙ none
begun_from bytes first none prefix (b ∷ more) e = first prefix b more e

pub part_or_all : (bytes : List ℕ) → IsFirst bytes → IsPartOrAll bytes
part_or_all bytes first = by (whole bytes) refl
  where
    by : (o : Option Request) → whole bytes ≡ o → IsPartOrAll bytes
    by None e = inl (begun_from bytes first e)
    by (Some request) e = inr (request, record { all = e; first = first })

-- less than a head is no request
part_whole : (text : List ℕ) → ends_head text ≡ false → IsUnendedBefore text → length text < max_head → whole text ≡ None
part_whole text unended first short =
    let few : nat_le max_head (length text) ≡ false = grind (arith, nat_tests) in
    ap (whole_of text) (cut_none text first unended [] text refl) ∙ cond-false (nat_le max_head (length text)) (Some (refused HeadTooLarge)) None few

pub first_in_head : (text : List ℕ) → IsUnendedBefore text → length text ≤ max_head → IsFirst text
first_in_head text first within prefix b more e =
    let sized : length text ≡ length prefix + length (b ∷ more) = ap length e ∙ length-append prefix (b ∷ more) in
    part_whole prefix (first prefix b more e) (unended_in text prefix (b ∷ more) first e) (omega (arith, sized, within))

pub part_begun : (text : List ℕ) → IsPartOfHead text → IsBegun text
part_begun text is =
    let short : length text < max_head = is.short in
    begun_from text (first_in_head text is.first (omega (arith, short))) (part_whole text is.unended is.first short)

pub part_prompts : (text : List ℕ) → IsUnendedBefore text → ends_head text ≡ false → [] ≡ prompts text
part_prompts text first unended = sym (ap prompts_of (cut_none text first unended [] text refl))

-- bytes that hold no head in time are refused
pub endless_request : (text : List ℕ) → IsEndless text → IsRequest text (refused HeadTooLarge)
endless_request text is =
    let full : length text ≡ max_head = is.full in
    let many : nat_le max_head (length text) ≡ true = grind (arith, nat_tests) in
    record {
      all = ap (whole_of text) (cut_none text is.first is.unended [] text refl) ∙ cond-true (nat_le max_head (length text)) (Some (refused HeadTooLarge)) None many;
      first = first_in_head text is.first (omega (arith, full));
    }

module _ (text : List ℕ) (is : IsHead text) where
  whole_head : (rest : List ℕ) → whole (text ++ rest) ≡ with_body (judged text) rest
  whole_head rest = ap (whole_of (text ++ rest)) (cut_head_off text is.first is.ended rest [] text refl)

  prompts_head : (rest : List ℕ) → prompts (text ++ rest) ≡ prompt_of (judged text)
  prompts_head rest = ap prompts_of (cut_head_off text is.first is.ended rest [] text refl)

  pub head_first : IsFirst text
  head_first = first_in_head text is.first is.within

  module _ (refusal : Refusal) (judges : judged text ≡ Err refusal) where
    pub refused_request : IsRequest text (refused refusal)
    refused_request = record {
      all = ap whole (sym (append-nil text)) ∙ whole_head [] ∙ ap (λ j. with_body j []) judges;
      first = head_first;
    }

    pub refused_prompts : [] ≡ prompts text
    refused_prompts = sym (ap prompts (sym (append-nil text)) ∙ prompts_head [] ∙ ap prompt_of judges)

  module _ (a : Asked) (judges : judged text ≡ Ok a) where
    whole_with : (rest : List ℕ) → whole (text ++ rest) ≡ with_body (Ok a) rest
    whole_with rest = whole_head rest ∙ ap (λ j. with_body j rest) judges

    pub prompts_are : (rest : List ℕ) → (if a.expects then continue_text else []) ≡ prompts (text ++ rest)
    prompts_are rest = sym (prompts_head rest ∙ ap prompt_of judges)

    pub head_prompts : (if a.expects then continue_text else []) ≡ prompts text
    head_prompts = prompts_are [] ∙ ap prompts (append-nil text)

    less_whole : (rest : List ℕ) → length rest < a.size → whole (text ++ rest) ≡ None
    less_whole rest lt =
        let few : nat_le a.size (length rest) ≡ false = grind (arith, nat_tests) in
        whole_with rest ∙ cond-false (nat_le a.size (length rest)) (Some (asked a (take a.size rest))) None few

    body_first : (body : List ℕ) → length body ≤ a.size → IsFirst (text ++ body)
    body_first body le prefix b more e = elim (prefixes text prefix body (b ∷ more) e) [
      | inl h ↦
          let parted : body ≡ h.0 ++ b ∷ more = append_cancel_left text body (h.0 ++ b ∷ more) (e ∙ ap (λ l. l ++ b ∷ more) h.1 ∙ append_assoc text h.0 (b ∷ more)) in
          let sized : length body ≡ length h.0 + length (b ∷ more) = ap length parted ∙ length-append h.0 (b ∷ more) in
          ap whole h.1 ∙ less_whole h.0 (omega (arith, sized, le))
      | inr h ↦ head_first prefix h.0 h.1 h.2
    ]

    pub body_begun : (body : List ℕ) → length body < a.size → IsBegun (text ++ body)
    body_begun body lt = begun_from (text ++ body) (body_first body (omega (arith, lt))) (less_whole body lt)

    pub body_request : (body : List ℕ) → length body ≡ a.size → IsRequest (text ++ body) (asked a body)
    body_request body sized =
        let all : nat_le a.size (length body) ≡ true = grind (arith, nat_tests) in
        record {
          all = whole_with body ∙ cond-true (nat_le a.size (length body)) (Some (asked a (take a.size body))) None all
              ∙ ap (λ m. Some (asked a m)) (take_all a.size body (omega (arith, sized)));
          first = body_first body (omega (arith, sized));
        }

-- ---- each text goes on to a request

-- bytes, as many as are wanted
some_bytes : (n : ℕ) → (l : List ℕ) × (n ≤ length l)
some_bytes n =
    let sized : length (replicate n 0) ≡ n = length-replicate {A = ℕ} n 0 in
    (replicate n 0, omega (arith, sized))

-- how many bytes have to come after a head, and that it is a request with at least so many
abbrev IsSettled : Result Asked Refusal → List ℕ → ℕ → Type 0
IsSettled judgement rest need = (more : List ℕ) → need ≤ length more → (request : Request) × (with_body judgement (rest ++ more) ≡ Some request)

settled : (judgement : Result Asked Refusal) (rest : List ℕ) → (need : ℕ) × IsSettled judgement rest need
settled (Ok a) rest = (
  a.size,
  λ more le.
      let own = asked a (take a.size (rest ++ more)) in
      let parts = length-append rest more in
      (own, cond-true (leb a.size (length (rest ++ more))) (Some own) None (le-leb a.size (length (rest ++ more)) (omega arith))),
)
settled (Err refusal) rest = (0, λ more le. (refused refusal, refl))

abbrev GoesOn : List ℕ → Type 0
GoesOn text = (more : List ℕ) × (request : Request) × (whole (text ++ more) ≡ Some request)

-- bytes as many as a head may have go on to a request
long_fills : (bytes : List ℕ) → max_head ≤ length bytes → GoesOn bytes
long_fills bytes long = go (cut_head bytes) refl
  where
    go : (o : Option Cut) → cut_head bytes ≡ o → GoesOn bytes
    go None e = (
      [],
      refused HeadTooLarge,
      ap whole (append-nil bytes) ∙ ap (whole_of bytes) e
          ∙ cond-true (leb max_head (length bytes)) (Some (refused HeadTooLarge)) None (le-leb max_head (length bytes) long),
    )
    go (Some cut) e =
        let need = settled (judged cut.head) cut.rest in
        let pad = some_bytes need.0 in
        let own = need.1 pad.0 pad.1 in
        (pad.0, own.0, ap (whole_of (bytes ++ pad.0)) (cut_more [] bytes pad.0 cut e) ∙ own.1)

pub fills : (text : List ℕ) → GoesOn text
fills text =
    let pad = some_bytes max_head in
    let parts = length-append text pad.0 in
    let padded = pad.1 in
    let own = long_fills (text ++ pad.0) (omega (arith, parts, padded)) in
    (pad.0 ++ own.0, own.1, ap whole (sym (append_assoc text pad.0 own.0)) ∙ own.2)

pub http_filled : {State Call Answer : Type 0} (work : State → Request → Work Call Answer) → IsFilled (http work)
http_filled work = record { starts = λ state. refl; fills = λ state text. fills text }
