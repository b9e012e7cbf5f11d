-- The answers to requests, byte for byte (RFC 9112, section 4).
use Rattle.std.specs.Prelude.{ℕ, List, [], ◌++◌, length, codes, decimal}
use Rattle.http.specs.StatusCode.{status_text}
use Rattle.wire_io.specs.declared.ends.After.{After}
use Rattle.wire_io.specs.declared.ends.After.TheVariants.{Open, Closing, Stopping}
use Rattle.http_front.specs.declared.refusal.Refusal.{Refusal}
use Rattle.http_front.specs.declared.refusal.Refusal.TheVariants.{HeadTooLarge, BadRequest, TransferCoding, LengthMissing, BodyTooLarge}
use Rattle.http_front.specs.declared.responses.Reply.{Reply}
use Rattle.http_front.specs.declared.responses.Reply.TheVariants as R

abbrev pub code_of : Reply → ℕ
code_of R.Answered = 200
code_of R.BadRequest = 400
code_of R.Unauthorized = 401
code_of R.NotFound = 404
code_of R.WantsGet = 405
code_of R.WantsPost = 405
code_of R.LengthMissing = 411
code_of R.HeadTooLarge = 431
code_of R.NotImplemented = 501

-- the media type of the body; an answer other than 200 has a problem (RFC 9457)
abbrev pub type_of : Reply → List ℕ
type_of R.Answered = codes "application/json"
type_of R.BadRequest = codes "application/problem+json"
type_of R.Unauthorized = codes "application/problem+json"
type_of R.NotFound = codes "application/problem+json"
type_of R.WantsGet = codes "application/problem+json"
type_of R.WantsPost = codes "application/problem+json"
type_of R.LengthMissing = codes "application/problem+json"
type_of R.HeadTooLarge = codes "application/problem+json"
type_of R.NotImplemented = codes "application/problem+json"

-- the field that the status asks for, if any
abbrev pub field_line : Reply → List ℕ
field_line R.Answered = []
field_line R.BadRequest = []
field_line R.Unauthorized = codes "WWW-Authenticate: Bearer\r\n"
field_line R.NotFound = []
field_line R.WantsGet = codes "Allow: GET\r\n"
field_line R.WantsPost = codes "Allow: POST\r\n"
field_line R.LengthMissing = []
field_line R.HeadTooLarge = []
field_line R.NotImplemented = []

abbrev pub closing_line : After → List ℕ
closing_line Open = []
closing_line Closing = codes "Connection: close\r\n"
closing_line Stopping = codes "Connection: close\r\n"

-- the head of an answer with a body of so many octets, of a session that then does this
abbrev pub response_head : Reply → After → (size : ℕ) → List ℕ
response_head reply after size =
    codes "HTTP/1.1 " ++ (status_text (code_of reply)
    ++ (codes "\r\nContent-Type: " ++ (type_of reply
    ++ (codes "\r\nContent-Length: " ++ (decimal size
    ++ (codes "\r\n" ++ (field_line reply ++ (closing_line after ++ codes "\r\n"))))))))

-- an answer with this body
unfoldable pub response : Reply → After → (body : List ℕ) → List ℕ
response reply after body = response_head reply after (length body) ++ body

-- the body of a refusal that is no problem of JMAP
abbrev pub blank_problem : Reply → List ℕ
blank_problem reply =
    codes "{\"status\":" ++ (decimal (code_of reply) ++ codes ",\"type\":\"about:blank\"}")

-- how a head's refusal is answered
abbrev pub refusal_reply : Refusal → Reply
refusal_reply HeadTooLarge = R.HeadTooLarge
refusal_reply BadRequest = R.BadRequest
refusal_reply TransferCoding = R.NotImplemented
refusal_reply LengthMissing = R.LengthMissing
refusal_reply BodyTooLarge = R.BadRequest
