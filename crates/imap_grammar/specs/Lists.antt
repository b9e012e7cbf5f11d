-- The reading of lists: items separated by spaces, and a closing parenthesis.
use Rattle.std.specs.Prelude.{ℕ, zero, suc, ◌==◌, if◌then◌else◌, List, [], ◌∷◌, length, Option, Some, None}
use Rattle.imap_grammar.specs.Reading.{Reader, got, wrong, short, ◌>>=◌, gives, fails}

-- a space and an item, or the closing parenthesis
abbrev pub next_item : {A : Type 0} → Reader A → Reader (Option A)
next_item item [] = short
next_item item (b ∷ bs) =
    if b == 41 then got None bs
    else if b == 32 then (item >>= (λ own. gives (Some own))) bs else wrong (b ∷ bs)

-- the item and the items that `others` reads, or none
abbrev pub with_others : {A : Type 0} → Reader (List A) → Option A → Reader (List A)
with_others others None = gives []
with_others others (Some own) = others >>= (λ items. gives (own ∷ items))

-- items, each after a space, up to the closing parenthesis, in this many rounds
abbrev pub more_items : {A : Type 0} → Reader A → (rounds : ℕ) → Reader (List A)
more_items item zero = fails
more_items item (suc rounds) = next_item item >>= with_others (more_items item rounds)

-- the space before an item takes a byte, so as many rounds as bytes are enough
abbrev pub items_after : {A : Type 0} → Reader A → Reader (List A)
items_after item text = more_items item (length text) text

-- one item or more, separated by spaces, and the closing parenthesis
abbrev pub some_items : {A : Type 0} → Reader A → Reader (List A)
some_items item = do
  first ← item
  others ← items_after item
  gives (first ∷ others)

-- any number of items, separated by spaces, and the closing parenthesis
abbrev pub any_items : {A : Type 0} → Reader A → Reader (List A)
any_items item [] = short
any_items item (b ∷ bs) = if b == 41 then got [] bs else some_items item (b ∷ bs)
