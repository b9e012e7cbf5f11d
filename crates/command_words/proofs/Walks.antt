-- What the parser of command lines makes of words after a command was met.
use Rattle.std.proofs.Common.{◌≡◌, ◌==◌, ◌&&◌, ℕ, Bool, true, false, List, [], ◌∷◌, ◌++◌, Some, None, refl, sym, ap, ◌∙◌, append_assoc, append-nil, codes}
use Rattle.std.proofs.lemmas.Bool.{ne_eqb}
use Rattle.std.specs.List.{fold}
use Rattle.std.specs.Str.{bytes_eq}
use Rattle.clap.specs.Words.{Kinds, Rule, Shape, Text, first_of}
use Rattle.clap.specs.Kinds.{or_else}
use Rattle.clap.specs.Faults.{level_fault, walk_fault}
use Rattle.clap.specs.Lexer.{long_of, short_of}
use Rattle.clap.specs.Simple.{built_leaf, inherited, new_shape}
use Rattle.clap.specs.Walk.{Names, Walk, nothing_held, rows_after, walked}
use Rattle.clap.specs.declared.error.kind.ErrorKind.TheVariants.{MissingRequiredArgument, UnknownArgument}
use Rattle.clap.proofs.OnLiterals.{clap_on_literals}
use Rattle.command_words.specs.Commands.{IsUndashed, bare, one_word}

-- the walk where it met a command of this name, and these words came after it
abbrev pub at_command : Walk → Text → List Text → Walk
at_command w name words = record w { stopped = Some (name, words) }

-- further words are the command's
pub stays : (c : List Rule) (names : Names) (w : Walk) (name : Text) (before rest : List Text) → fold (walked c names) (at_command w name before) rest ≡ at_command w name (before ++ rest)
unfolding walked
stays c names w name before [] = ap (at_command w name) (sym (append-nil before))
stays c names w name before (word ∷ rest) = stays c names w name (before ++ word ∷ []) rest ∙ ap (at_command w name) (append_assoc before (word ∷ []) rest)

-- and the program has no fault at them
pub quiet : (s : Shape) (names : Names) (w : Walk) (name : Text) (before rest : List Text) → walk_fault s names (at_command w name before) rest ≡ []
unfolding walked walk_fault
quiet s names w name before [] = refl
quiet s names w name before (word ∷ rest) = quiet s names w name (before ++ word ∷ []) rest

pub or_else_none : (kinds : Kinds) → or_else kinds [] ≡ kinds
or_else_none [] = refl
or_else_none (k ∷ ks) = refl

-- ---- words that do not begin with `-`

not_hyphen : (x : ℕ) (xs : List ℕ) → IsUndashed (x ∷ xs) → (x == 45) ≡ false
not_hyphen x xs h = ne_eqb x 45 (λ e. h (ap Some e))

pub no_end : (word : Text) → IsUndashed word → bytes_eq word (45 ∷ 45 ∷ []) ≡ false
no_end [] h = refl
no_end (x ∷ xs) h = ap (λ b. b && bytes_eq xs (45 ∷ [])) (not_hyphen x xs h)

pub no_long : (word : Text) → IsUndashed word → long_of word ≡ None
no_long [] h = refl
no_long (x ∷ xs) h = rw (not_hyphen x xs h) refl

pub no_short : (word : Text) → IsUndashed word → short_of word ≡ None
no_short [] h = refl
no_short (x ∷ xs) h = rw (not_hyphen x xs h) refl

-- ---- one command

-- a command as the program builds it
abbrev pub made : Shape → Shape
made s = built_leaf (inherited bare.top s)

abbrev pub own_fault : Shape → List Text → Kinds
own_fault s words = level_fault (made s) [] nothing_held words false []

pub missing : (name : Text) → own_fault (one_word name true) [] ≡ MissingRequiredArgument ∷ []
unfolding clap_on_literals
missing name = refl

pub left_out : (name : Text) → (own_fault (one_word name false) [] ≡ []) × (first_of (codes "word") (rows_after (made (one_word name false)).rules [] []) ≡ None)
unfolding clap_on_literals
left_out name = (refl, refl)

pub given : (name : Text) (needed : Bool) (word : Text) → IsUndashed word
    → (own_fault (one_word name needed) (word ∷ []) ≡ []) × (first_of (codes "word") (rows_after (made (one_word name needed)).rules [] (word ∷ [])) ≡ Some word)
unfolding clap_on_literals
given name true word h = (rw (no_end word h, no_long word h, no_short word h) refl, rw (no_end word h, no_long word h, no_short word h) refl)
given name false word h = (rw (no_end word h, no_long word h, no_short word h) refl, rw (no_end word h, no_long word h, no_short word h) refl)

pub too_many : (name : Text) (needed : Bool) (word more : Text) (rest : List Text) → IsUndashed word → IsUndashed more
    → own_fault (one_word name needed) (word ∷ more ∷ rest) ≡ UnknownArgument ∷ []
unfolding clap_on_literals
too_many name needed word more rest h i =
    rw (no_end word h, no_long word h, no_short word h) (rw (no_end more i, no_long more i, no_short more i) refl)

pub alone : (name : Text) → (own_fault (new_shape name) [] ≡ []) × (first_of (codes "word") (rows_after (made (new_shape name)).rules [] []) ≡ None)
unfolding clap_on_literals
alone name = (refl, refl)

pub any_more : (name : Text) (word : Text) (rest : List Text) → IsUndashed word → own_fault (new_shape name) (word ∷ rest) ≡ UnknownArgument ∷ []
unfolding clap_on_literals
any_more name word rest h = rw (no_end word h, no_long word h, no_short word h) refl
