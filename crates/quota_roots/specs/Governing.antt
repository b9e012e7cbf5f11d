-- Which roots govern which mailbox. Maildir++ counts every folder but Trash; the roots with a
-- prefix are this project's own.
use Rattle.std.specs.Prelude.{ℕ, Bool, false, not, ◌&&◌, ◌||◌, List, ◌++◌, length, filter, slice_get, codes, bytes_eq, nat_eq, Option, None, Some}
use Rattle.std.specs.List.{starts_with, range_with_len}
use Rattle.std.specs.Option.{option_map_or}
use Rattle.quota_roots.specs.declared.root.RootSpec.{RootSpec}

-- the mailbox has the name of the prefix, or is below that mailbox
abbrev pub is_under : List ℕ → List ℕ → Bool
is_under prefix mailbox =
    bytes_eq mailbox prefix || starts_with nat_eq mailbox (prefix ++ codes ".")

abbrev pub governs_by : Option (List ℕ) → List ℕ → Bool
governs_by None mailbox = not (bytes_eq mailbox (codes "Trash"))
governs_by (Some prefix) mailbox = is_under prefix mailbox

-- the root governs the mailbox
abbrev pub governs : RootSpec → List ℕ → Bool
governs root mailbox = governs_by root.prefix mailbox

-- the root of this number governs the mailbox; a number that no root has governs none
abbrev pub governs_at : List RootSpec → ℕ → List ℕ → Bool
governs_at roots root mailbox =
    option_map_or (λ spec. governs spec mailbox) (slice_get roots root) false

-- the numbers of the roots that govern the mailbox, in order
abbrev pub governing : List RootSpec → List ℕ → List ℕ
governing roots mailbox =
    filter (λ root. governs_at roots root mailbox) (range_with_len 0 (length roots))

-- the root governs the target of a move and not its source
abbrev pub gains : RootSpec → List ℕ → List ℕ → Bool
gains root from to = governs root to && not (governs root from)

abbrev pub gains_at : List RootSpec → ℕ → List ℕ → List ℕ → Bool
gains_at roots root from to = governs_at roots root to && not (governs_at roots root from)

-- the numbers of the roots that gain the message, in order
abbrev pub gaining : List RootSpec → List ℕ → List ℕ → List ℕ
gaining roots from to =
    filter (λ root. gains_at roots root from to) (range_with_len 0 (length roots))

-- the root gains a message: it governs the mailbox that the message comes to, and does not govern
-- the mailbox that it comes from, if there is one
abbrev pub gains_by : List RootSpec → Option (List ℕ) → List ℕ → ℕ → Bool
gains_by roots None to root = governs_at roots root to
gains_by roots (Some from) to root = gains_at roots root from to

-- the numbers of the roots that gain the message, in order
abbrev pub gainers : List RootSpec → Option (List ℕ) → List ℕ → List ℕ
gainers roots None to = governing roots to
gainers roots (Some from) to = gaining roots from to
