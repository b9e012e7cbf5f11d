-- What a key of an accounts file may have as its value. The ranges are this project's own choice.
use Rattle.std.specs.Prelude.{ℕ, Bool, false, not, ◌&&◌, ◌||◌, List, length, codes, nat_eq, nat_le, bytes_eq}
use Rattle.std.specs.List.{list_all, starts_with}
use Rattle.std.specs.Char.{is_ascii_alphanumeric}
use Rattle.quota_roots.specs.MailboxNames.{canonical, is_mailbox_name}
use Rattle.quota_units.specs.declared.limits.TheConstants.{MAX_LIMIT}
use Rattle.quota_roots.specs.RootLists.{is_root_name}
use Rattle.accounts_file.specs.declared.key.Key.{Key}
use Rattle.accounts_file.specs.declared.key.Key.TheVariants.{Workers, AccountName, Password, Token, Journal, Recipients, Mailboxes, RootName, Prefix, Storage, Messages}

-- a byte of a JMAP Id (RFC 8620, section 1.2): a letter, a digit, `-` or `_`
abbrev pub is_id_byte : ℕ → Bool
is_id_byte byte = is_ascii_alphanumeric byte || (nat_eq byte 0x2D || nat_eq byte 0x5F)

-- a JMAP Id of 1 to 64 characters that does not begin with `-`
abbrev pub is_account_name : List ℕ → Bool
is_account_name name = (nat_le 1 (length name) && nat_le (length name) 64)
    && (list_all is_id_byte name && not (starts_with nat_eq name (codes "-")))

-- a byte of a password or a token: printing ASCII but the space
abbrev pub is_secret_byte : ℕ → Bool
is_secret_byte byte = nat_le 0x21 byte && nat_le byte 0x7E

-- 1 to 64 bytes of a password or a token
abbrev pub is_secret : List ℕ → Bool
is_secret secret =
    (nat_le 1 (length secret) && nat_le (length secret) 64) && list_all is_secret_byte secret

-- a mailbox name other than Trash
abbrev pub is_prefix : List ℕ → Bool
is_prefix prefix = is_mailbox_name prefix && not (bytes_eq prefix (codes "Trash"))

-- how a text at the key is kept: mailbox names in canonical spelling, and other texts as they are
abbrev pub spelling : Key → List ℕ → List ℕ
spelling Mailboxes text = canonical text
spelling Prefix text = canonical text
spelling _ text = text

-- the key may have this text, which is spelled as it is kept; keys of numbers, flags and tables
-- have no texts
abbrev pub is_right : Key → List ℕ → Bool
is_right AccountName text = is_account_name text
is_right Password text = is_secret text
is_right Token text = is_secret text
is_right Recipients text = nat_le 1 (length text)
is_right Mailboxes text = is_mailbox_name text
is_right RootName text = is_root_name text
is_right Prefix text = is_prefix text
is_right _ text = false

-- the key may have this text; no text may have more than 255 bytes
abbrev pub fits : Key → List ℕ → Bool
fits key text = nat_le (length text) 255 && is_right key (spelling key text)

-- the largest number at the key; each key's numbers begin at 1
abbrev pub largest : Key → ℕ
largest Workers = 16
largest Journal = 524288
largest Storage = MAX_LIMIT
largest Messages = MAX_LIMIT
largest _ = 65535

abbrev pub is_number : Key → ℕ → Bool
is_number key n = nat_le 1 n && nat_le n (largest key)
