-- Mailbox names. INBOX is one name in any ASCII case (RFC 9051, section 5.1); which other bytes
-- make a name is this project's own choice.
use Rattle.std.specs.Prelude.{ℕ, Bool, false, not, ◌&&◌, ◌||◌, List, [], ◌∷◌, length, codes, nat_eq, nat_le, if◌then◌else◌}
use Rattle.std.specs.List.{list_all, list_any, starts_with, ends_with}
use Rattle.std.specs.Str.{str_eq_ignore_ascii_case}
use Rattle.quota_units.specs.Bytes.{is_printable}

-- the canonical spelling of a name
abbrev pub canonical : List ℕ → List ℕ
canonical name = if str_eq_ignore_ascii_case name (codes "INBOX") then codes "INBOX" else name

abbrev pub is_mailbox_byte : ℕ → Bool
is_mailbox_byte byte = is_printable byte && not (list_any (nat_eq byte) (codes "/*%\"\\"))

-- two dots are next to each other
abbrev pub has_double_dot : List ℕ → Bool
has_double_dot [] = false
has_double_dot (byte ∷ rest) = starts_with nat_eq (byte ∷ rest) (codes "..") || has_double_dot rest

-- 1 to 200 mailbox bytes, with no dot at the start, at the end or next to another dot
abbrev pub is_mailbox_name : List ℕ → Bool
is_mailbox_name name =
    (nat_le 1 (length name) && nat_le (length name) 200) && (list_all is_mailbox_byte name
    && (not (starts_with nat_eq name (codes "."))
    && (not (ends_with nat_eq name (codes ".")) && not (has_double_dot name))))
