-- The requests of a session, in all of its bytes: a request's text, and after the text of a
-- delivery the octets of its message.
use Rattle.std.specs.Prelude.{ℕ, nat_le, if◌then◌else◌, List, [], ◌∷◌, ◌++◌, length, take, Option, Some, None, Result, Ok, Err}
use Rattle.quota_units.specs.declared.flags.Flags.{Flags}
use Rattle.policy_front.specs.Attributes.{is_closed}
use Rattle.policy_front.specs.Texts.{Asked, checks, delivers, removes, marks, moves, stops, unknown, max_text, reading_of}
use Rattle.policy_front.specs.declared.reading.PolicyFault.{PolicyFault}

pub data Request : Type 0 where
  check : (recipient : Option (List ℕ)) (size : ℕ) → Request
  deliver : (account mailbox : List ℕ) (flags : Flags) (message : List ℕ) → Request
  remove : (account mailbox name : List ℕ) → Request
  mark : (account mailbox name : List ℕ) (flags : Flags) → Request
  move : (account mailbox name to : List ℕ) → Request
  stop : Request
  -- a request that this service does not know
  other : Request
  -- what is no request: bytes that hold no empty line in time, or a text that asks for nothing
  bad : Request

-- a request's text, and the bytes after it
pub record Parted : Type 0 where
  pub text : List ℕ
  pub rest : List ℕ

-- of `come` followed by these bytes, the shortest prefix that is closed by an empty line and is no
-- shorter than `come`
abbrev pub parted_from : (come : List ℕ) → List ℕ → Option Parted
parted_from come [] = if is_closed come then Some (record { text = come; rest = [] }) else None
parted_from come (b ∷ bs) =
    if is_closed come then Some (record { text = come; rest = b ∷ bs })
    else parted_from (come ++ b ∷ []) bs

abbrev pub parted : List ℕ → Option Parted
parted bytes = parted_from [] bytes

-- the message of a delivery, if these bytes after its text hold all of it
abbrev pub with_message : (account mailbox : List ℕ) → (octets : ℕ) → Flags → (rest : List ℕ)
    → Option Request
with_message account mailbox octets flags rest =
    if nat_le octets (length rest) then Some (deliver account mailbox flags (take octets rest))
    else None

-- the request that a text and the bytes after it are
abbrev pub request_of : Result Asked PolicyFault → (rest : List ℕ) → Option Request
request_of (Ok (checks recipient size)) rest = Some (check recipient size)
request_of (Ok (delivers account mailbox octets flags)) rest =
    with_message account mailbox octets flags rest
request_of (Ok (removes account mailbox name)) rest = Some (remove account mailbox name)
request_of (Ok (marks account mailbox name flags)) rest = Some (mark account mailbox name flags)
request_of (Ok (moves account mailbox name to)) rest = Some (move account mailbox name to)
request_of (Ok stops) rest = Some stop
request_of (Ok unknown) rest = Some other
request_of (Err fault) rest = Some bad

abbrev pub whole_of : List ℕ → Option Parted → Option Request
whole_of bytes (Some parts) = request_of (reading_of parts.text) parts.rest
whole_of bytes None = if nat_le max_text (length bytes) then Some bad else None

-- the request that these bytes of a session are, if no shorter prefix of them is one; none if more
-- bytes have to come
abbrev pub whole : List ℕ → Option Request
whole bytes = whole_of bytes (parted bytes)
