-- The requests of a session, in all of its bytes: a head, and after a head that is not refused the
-- octets of its body. A head that is refused is a request too.
use Rattle.std.specs.Prelude.{◌≡◌, ℕ, nat_le, if◌then◌else◌, List, [], ◌∷◌, ◌++◌, length, take, codes, Option, Some, None, Result, Ok, Err}
use Rattle.wire_io.specs.declared.ends.After.{After}
use Rattle.wire_io.specs.declared.ends.After.TheVariants.{Open, Closing}
use Rattle.http_front.specs.declared.refusal.Refusal.{Refusal}
use Rattle.http_front.specs.declared.refusal.Refusal.TheVariants.{HeadTooLarge}
use Rattle.http_front.specs.Heads.{max_head, Cut, cut_head}
use Rattle.http_front.specs.Judging.{Asked, judged}

pub data Request : Type 0 where
  refused : Refusal → Request
  asked : Asked → (body : List ℕ) → Request

-- the request of a head, if these bytes after it hold all of its body
abbrev pub with_body : Result Asked Refusal → (rest : List ℕ) → Option Request
with_body (Ok a) rest =
    if nat_le a.size (length rest) then Some (asked a (take a.size rest)) else None
with_body (Err refusal) rest = Some (refused refusal)

abbrev pub whole_of : List ℕ → Option Cut → Option Request
whole_of bytes (Some cut) = with_body (judged cut.head) cut.rest
whole_of bytes None =
    if nat_le max_head (length bytes) then Some (refused HeadTooLarge) else None

-- the request that these bytes of a session are, if no shorter prefix of them is one; none if more
-- bytes have to come
abbrev pub whole : List ℕ → Option Request
whole bytes = whole_of bytes (cut_head bytes)

-- the bytes are a whole request, and no proper prefix of them is one
pub record IsRequest (bytes : List ℕ) (request : Request) : Type 0 where
  pub all : whole bytes ≡ Some request
  pub first : (prefix : List ℕ) (b : ℕ) (more : List ℕ) → bytes ≡ prefix ++ b ∷ more
      → whole prefix ≡ None

-- no prefix of the bytes is a whole request
abbrev pub IsBegun : List ℕ → Type 0
IsBegun bytes = (prefix more : List ℕ) → bytes ≡ prefix ++ more → whole prefix ≡ None

-- the answer that asks for the body (RFC 9110, section 15.2.1)
abbrev pub continue_text : List ℕ
continue_text = codes "HTTP/1.1 100 Continue\r\n\r\n"

abbrev pub prompt_of : Result Asked Refusal → List ℕ
prompt_of (Ok a) = if a.expects then continue_text else []
prompt_of (Err refusal) = []

abbrev pub prompts_of : Option Cut → List ℕ
prompts_of (Some cut) = prompt_of (judged cut.head)
prompts_of None = []

-- what is written once these bytes of a request have come, before it is answered (RFC 9110, section
-- 10.1.1)
abbrev pub prompts : List ℕ → List ℕ
prompts bytes = prompts_of (cut_head bytes)

-- what the session does after its answer: it closes if the head was refused or says so
abbrev pub after : Request → After
after (refused refusal) = Closing
after (asked a body) = if a.closes then Closing else Open
