-- What the text of a request asks for, up to and with its closing empty line. smtpd_access_policy
-- is a request of Postfix (SMTPD_POLICY_README); the requests that begin with quotad_ are this
-- project's own.
use Rattle.std.specs.Prelude.{ℕ, min, ◌&&◌, nat_le, nat_lt, nat_eq, bytes_eq, if◌then◌else◌, List, [], length, codes, Option, Some, None, Result, unwrap_or, ok_or}
use Rattle.std.specs.List.{list_all, starts_with}
use Rattle.std.specs.Option.{option_map, option_and_then}
use Rattle.std.specs.Char.{is_ascii_digit}
use Rattle.std.specs.Str.Parse.{digits_value}
use Rattle.quota_units.specs.declared.flags.Flags.{Flags}
use Rattle.quota_units.specs.Digits.{number_of}
use Rattle.quota_units.specs.Flagging.{is_flag_letter, flags_among}
use Rattle.policy_front.specs.Attributes.{attribute, has_form}
use Rattle.policy_front.specs.declared.reading.PolicyFault.{PolicyFault}
use Rattle.policy_front.specs.declared.reading.PolicyFault.TheVariants.{BadRequest}
use Rattle.policy_front.specs.declared.reading.PolicyRequest.{PolicyRequest}
use Rattle.policy_front.specs.declared.reading.PolicyRequest.TheVariants.{Check, Deliver, Remove, Mark, Move, Stop, Other}

pub data Asked : Type 0 where
  -- whether a message of this size may come for a recipient
  checks : (recipient : Option (List ℕ)) (size : ℕ) → Asked
  -- a message of this many octets, which follow the text
  delivers : (account mailbox : List ℕ) (octets : ℕ) (flags : Flags) → Asked
  removes : (account mailbox name : List ℕ) → Asked
  marks : (account mailbox name : List ℕ) (flags : Flags) → Asked
  moves : (account mailbox name to : List ℕ) → Asked
  stops : Asked
  -- a request that this service does not know
  unknown : Asked

-- a text has at most this many bytes, its empty line included
abbrev pub max_text : ℕ
max_text = 8192

-- a message has at most this many octets
abbrev pub max_message : ℕ
max_message = 67108864

-- a size is cut at 2 ^ 40 - 1
abbrev pub max_size : ℕ
max_size = 1099511627775

-- the number that one or more digits stand for, cut; 0 for other bytes
abbrev pub size_of : List ℕ → ℕ
size_of value =
    if nat_lt 0 (length value) && list_all is_ascii_digit value
    then min (digits_value 10 value) max_size else 0

abbrev pub at_most : (most n : ℕ) → Option ℕ
at_most most n = if nat_le n most then Some n else None

-- the number that 1 to 10 digits stand for, if a message may have so many octets
abbrev pub octets_of : List ℕ → Option ℕ
octets_of value =
    if nat_le (length value) 10 then option_and_then (at_most max_message) (number_of value)
    else None

-- the flags of these letters, if each names a flag
abbrev pub flags_of : List ℕ → Option Flags
flags_of letters = if list_all is_flag_letter letters then Some (flags_among letters) else None

-- the attributes of a text
module _ (text : List ℕ) where
  abbrev pub size : ℕ
  size = size_of (unwrap_or (attribute text (codes "size")) [])

  abbrev pub octets : Option ℕ
  octets = option_and_then octets_of (attribute text (codes "octets"))

  abbrev pub account : Option (List ℕ)
  account = attribute text (codes "account")

  abbrev pub mailbox : Option (List ℕ)
  mailbox = attribute text (codes "mailbox")

  abbrev pub name : Option (List ℕ)
  name = attribute text (codes "name")

  abbrev pub given_flags : Option Flags
  given_flags = option_and_then flags_of (attribute text (codes "flags"))

  -- the defaults of a delivery: INBOX, and no flags
  abbrev pub mailbox_or_inbox : List ℕ
  mailbox_or_inbox = unwrap_or mailbox (codes "INBOX")

  abbrev pub flags_or_none : Option Flags
  flags_or_none = flags_of (unwrap_or (attribute text (codes "flags")) [])

  -- what each request asks for; none if an attribute that it needs is missing or wrong
  abbrev pub check_in : Asked
  check_in = checks (attribute text (codes "recipient")) size

  abbrev pub deliver_in : Option Asked
  deliver_in = option_and_then (λ owner. option_and_then (λ count.
      option_map (λ flags. delivers owner mailbox_or_inbox count flags) flags_or_none)
      octets) account

  -- the message that a request names: its account, mailbox and name
  abbrev pub message_in : {A : Type 0} → ((account mailbox name : List ℕ) → Option A) → Option A
  message_in next = option_and_then (λ owner. option_and_then (λ folder.
      option_and_then (λ base. next owner folder base) name) mailbox) account

  abbrev pub remove_in : Option Asked
  remove_in = message_in (λ owner folder base. Some (removes owner folder base))

  abbrev pub mark_in : Option Asked
  mark_in = message_in (λ owner folder base. option_map (marks owner folder base) given_flags)

  abbrev pub move_in : Option Asked
  move_in = message_in (λ owner folder base.
      option_map (moves owner folder base) (attribute text (codes "to")))

  -- what the request of this kind asks for
  abbrev pub asked_by : (kind : List ℕ) → Option Asked
  asked_by kind =
      if bytes_eq kind (codes "smtpd_access_policy") then Some check_in
      else if bytes_eq kind (codes "quotad_deliver") then deliver_in
      else if bytes_eq kind (codes "quotad_remove") then remove_in
      else if bytes_eq kind (codes "quotad_mark") then mark_in
      else if bytes_eq kind (codes "quotad_move") then move_in
      else if bytes_eq kind (codes "quotad_stop") then Some stops
      else if starts_with nat_eq kind (codes "quotad_") then None
      else Some unknown

  -- what the text asks for, if it is a request's text
  abbrev pub asked_in : Option Asked
  asked_in =
      if nat_le (length text) max_text && has_form text
      then option_and_then asked_by (attribute text (codes "request")) else None

-- what is read in a text: any other text than one of at most 8192 bytes that is attributes and one
-- empty line at its end, with the attributes that its request needs, is a bad request
abbrev pub reading_of : List ℕ → Result Asked PolicyFault
reading_of text = ok_or (asked_in text) BadRequest

-- what the code's `PolicyRequest` stands for
abbrev pub asked_of : PolicyRequest → Asked
asked_of (Check recipient size) = checks (option_map (λ value. value.now) recipient) size
asked_of (Deliver account mailbox octets flags) = delivers account.now mailbox.now octets flags
asked_of (Remove account mailbox name) = removes account.now mailbox.now name.now
asked_of (Mark account mailbox name flags) = marks account.now mailbox.now name.now flags
asked_of (Move account mailbox name to) = moves account.now mailbox.now name.now to.now
asked_of Stop = stops
asked_of Other = unknown
