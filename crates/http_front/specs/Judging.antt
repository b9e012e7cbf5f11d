-- What a head asks for, or its refusal. Both are decided by the head's bytes.
use Rattle.std.specs.Prelude.{ℕ, Bool, ◌||◌, nat_lt, nat_le, ◌==◌, if◌then◌else◌, List, map, count_by, codes, bytes_eq, Option, Some, None, option_and_then, Result, Ok, Err}
use Rattle.std.specs.List.{list_all, list_any}
use Rattle.httparse.specs.Grammar.{RequestHead}
use Rattle.httparse.specs.Spans.{name_and_value}
use Rattle.http1.specs.Fields.{Header, is_named, known_fields}
use Rattle.http1.specs.declared.fields.ContentLength.{ContentLength}
use Rattle.http1.specs.declared.fields.ContentLength.TheVariants.{Absent, Value, Invalid}
use Rattle.http_front.specs.declared.refusal.Refusal.{Refusal}
use Rattle.http_front.specs.declared.refusal.Refusal.TheVariants.{HeadTooLarge, BadRequest, TransferCoding, LengthMissing, BodyTooLarge}
use Rattle.http_front.specs.Reading.{read_head}
use Rattle.http_front.specs.Fields.{first_named, is_short, bearer_token}

-- the most bytes LF of a head: the request line, 64 fields and the empty line
abbrev pub max_lines : ℕ
max_lines = 66

-- the most octets of a body
abbrev pub max_body : ℕ
max_body = 1048576

-- what a head asks for
pub record Asked : Type 0 where
  pub method : List ℕ
  pub target : List ℕ
  -- the token of the first Authorization field
  pub token : Option (List ℕ)
  -- an Expect field lists 100-continue
  pub expects : Bool
  -- it is HTTP/1.0, or a Connection field lists close
  pub closes : Bool
  -- the octets of the body
  pub size : ℕ

abbrev pub is_post : List ℕ → Bool
is_post method = bytes_eq method (codes "POST")

-- the octets of the body: a POST must say them, and another method has none if it does not
abbrev pub sized : (post : Bool) → ContentLength → Result ℕ Refusal
sized post Absent = if post then Err LengthMissing else Ok 0
sized post (Value size) = if nat_le size max_body then Ok size else Err BodyTooLarge
sized post Invalid = Err BadRequest

-- A field Transfer-Encoding is refused first. Each Content-Length is 1 to 15 digits, and all are
-- one number (RFC 9110, section 8.6).
abbrev pub body_size : (post : Bool) → List Header → Result ℕ Refusal
body_size post fields =
    if list_any (is_named (codes "transfer-encoding")) fields then Err TransferCoding
    else (if list_all is_short fields then sized post (known_fields fields).content_length
    else Err BadRequest)

abbrev pub asked_with : (method target : List ℕ) → (minor : ℕ) → List Header → Result ℕ Refusal
    → Result Asked Refusal
asked_with method target minor fields (Ok size) = Ok (record {
  method = method;
  target = target;
  token = option_and_then bearer_token (first_named (codes "authorization") fields);
  expects = (known_fields fields).expect_continue;
  closes = (minor == 0) || (known_fields fields).close;
  size = size;
})
asked_with method target minor fields (Err refusal) = Err refusal

-- the same from the head's parts
abbrev pub judged_parts : (method target : List ℕ) → (minor : ℕ) → List Header
    → Result Asked Refusal
judged_parts method target minor fields =
    asked_with method target minor fields (body_size (is_post method) fields)

abbrev pub judged_read : Option RequestHead → Result Asked Refusal
judged_read None = Err BadRequest
judged_read (Some h) = judged_parts h.method h.target h.minor (map name_and_value h.fields)

-- what the bytes of a head ask for, or their first refusal
abbrev pub judged : List ℕ → Result Asked Refusal
judged head =
    if nat_lt max_lines (count_by (λ b. b == 10) head) then Err HeadTooLarge
    else judged_read (read_head head)
