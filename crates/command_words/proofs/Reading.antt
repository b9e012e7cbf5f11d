-- What the parser of command lines makes of the words of the program.
use Rattle.std.proofs.Common.{◌≡◌, ◌⊎◌, Bool, true, false, List, [], ◌∷◌, Option, Some, None, refl, sym, ap, ap₂, ◌∙◌, subst, inl, inr, codes, is_some, option_map, find}
use Rattle.std.proofs.lemmas.Bool.{cases_Bool}
use Rattle.std.proofs.lemmas.List.Elements.{All-head, All-tail}
use Rattle.std.proofs.lemmas.Slice.Eq.{bytes_eq-Decides}
use Rattle.std.specs.List.{All, fold}
use Rattle.std.specs.Option.{option_map_or}
use Rattle.std.specs.Fmt.{decimal}
use Rattle.std.specs.Str.{bytes_eq}
use Rattle.clap.specs.Words.{IsAmong, Kinds, Shape, Text, fault_of, first_of, is_simple, is_simple_and_free, subcommand_of}
use Rattle.clap.specs.Kinds.{or_else}
use Rattle.clap.specs.Faults.{check_fault, defaults_fault, entered_fault, level_fault, settle_fault, turn_fault, walk_fault}
use Rattle.clap.specs.Simple.{built, entered, label_of, names_of, new_shape, rows_at}
use Rattle.clap.specs.Walk.{Names, Walk, answers_to, finished, nothing_held, rows_after, settled, walk, walk_from, walked}
use Rattle.clap.specs.declared.error.kind.ErrorKind.{ErrorKind}
use Rattle.clap.specs.declared.error.kind.ErrorKind.TheVariants.{InvalidSubcommand, MissingSubcommand, UnknownArgument}
use Rattle.clap.proofs.OnLiterals.{clap_on_literals}
use Rattle.command_words.specs.Commands.{IsUndashed, line_found, line_of, one_word, program}
use Rattle.command_words.specs.Words.{IsImapForm, IsNoForm}
use Rattle.command_words.proofs.Walks.{alone, any_more, at_command, given, left_out, made, missing, no_end, no_long, no_short, or_else_none, own_fault, quiet, stays, too_many}

pub simple : is_simple_and_free program ≡ true
unfolding clap_on_literals
simple = refl

pub simple_words : is_simple program ≡ true
unfolding clap_on_literals
simple_words = refl

pub not_among : (k : ErrorKind) (kinds : Kinds) → IsAmong k kinds → kinds ≡ [] → ⊥
not_among k kinds among e = let none : IsAmong k [] = subst (IsAmong k) e among in none

-- ---- the program at the name of a command

abbrev top : Shape
top = (built program).top

abbrev names : Names
names = names_of (built program)

abbrev begun : Walk
begun = walk_from nothing_held

-- the program's fault, by that of its walk over the words, and by where the walk ended
abbrev fault_at : Kinds → Walk → Kinds
fault_at kinds end = or_else kinds
    (or_else (entered_fault (built program) end.stopped)
    (or_else (settle_fault top.rules top.args_override_self end.held)
    (or_else (defaults_fault (settled top.rules end.held).rows top.rules)
    (check_fault top (finished top.rules end.held) (is_some (entered (built program) end.stopped))))))

by_walk : (words : List Text) → fault_of program words ≡ fault_at (walk_fault top names begun words) (walk top.rules names nothing_held words)
by_walk words = refl

-- the command is met by this name, and the words after it are the command's
record Meets (name : Text) (leaf : Shape) : Type 0 where
  pub met : walked top.rules names begun name ≡ at_command begun name []
  pub no_fault : turn_fault top names begun name ≡ []
  pub is_found : find (λ s. answers_to name (label_of s)) (built program).subs ≡ Some leaf

walks_on : (name : Text) (leaf : Shape) → Meets name leaf → (rest : List Text) → walk top.rules names nothing_held (name ∷ rest) ≡ at_command begun name rest
walks_on name leaf m rest = ap (λ w. fold (walked top.rules names) w rest) m.met ∙ stays top.rules names begun name [] rest

no_walk_fault : (name : Text) (leaf : Shape) → Meets name leaf → (rest : List Text) → walk_fault top names begun (name ∷ rest) ≡ []
unfolding walk_fault
no_walk_fault name leaf m rest = ap₂ or_else m.no_fault (ap (λ w. walk_fault top names w rest) m.met ∙ quiet top names begun name [] rest)

enters : (name : Text) (leaf : Shape) → Meets name leaf → (rest : List Text) → subcommand_of program (name ∷ rest) ≡ Some (rows_at leaf rest)
enters name leaf m rest = ap (λ (w : Walk). entered (built program) w.stopped) (walks_on name leaf m rest) ∙ ap (option_map (λ s. rows_at s rest)) m.is_found

below : (name : Text) (leaf : Shape) → Meets name leaf → (rest : List Text) → entered_fault (built program) (Some (name, rest)) ≡ level_fault leaf [] nothing_held rest false []
below name leaf m rest = ap (λ found. option_map_or (λ s. level_fault s [] nothing_held rest false []) found []) m.is_found

fault_below : (name : Text) (leaf : Shape) → Meets name leaf → (rest : List Text) → fault_of program (name ∷ rest) ≡ level_fault leaf [] nothing_held rest false []
unfolding clap_on_literals
fault_below name leaf m rest =
    let at_end : fault_of program (name ∷ rest) ≡ fault_at [] (at_command begun name rest) =
    by_walk (name ∷ rest) ∙ ap₂ fault_at (no_walk_fault name leaf m rest) (walks_on name leaf m rest) in
    let entered_is : entered (built program) (Some (name, rest)) ≡ Some (rows_at leaf rest) = ap (option_map (λ s. rows_at s rest)) m.is_found in
    let rest_is : check_fault top (finished top.rules nothing_held) (is_some (entered (built program) (Some (name, rest)))) ≡ [] =
    ap (λ e. check_fault top (finished top.rules nothing_held) (is_some e)) entered_is in
    at_end ∙ ap₂ or_else (below name leaf m rest) rest_is ∙ or_else_none _

-- ---- the commands

abbrev one_made : Text → Bool → Shape
one_made name needed = made (one_word name needed)

meets_session : Meets (codes "session") (one_made (codes "session") true)
unfolding clap_on_literals
meets_session = record { met = refl; no_fault = refl; is_found = refl }

meets_imap : Meets (codes "imap") (one_made (codes "imap") false)
unfolding clap_on_literals
meets_imap = record { met = refl; no_fault = refl; is_found = refl }

meets_policy : Meets (codes "policy") (made (new_shape (codes "policy")))
unfolding clap_on_literals
meets_policy = record { met = refl; no_fault = refl; is_found = refl }

meets_check : Meets (codes "check") (made (new_shape (codes "check")))
unfolding clap_on_literals
meets_check = record { met = refl; no_fault = refl; is_found = refl }

meets_workload : Meets (codes "workload") (one_made (codes "workload") true)
unfolding clap_on_literals
meets_workload = record { met = refl; no_fault = refl; is_found = refl }

unknown : (name : Text) (rest : List Text) → IsUndashed name
    → bytes_eq (codes "session") name ≡ false → bytes_eq (codes "imap") name ≡ false → bytes_eq (codes "policy") name ≡ false
    → bytes_eq (codes "check") name ≡ false → bytes_eq (codes "workload") name ≡ false
    → fault_of program (name ∷ rest) ≡ UnknownArgument ∷ InvalidSubcommand ∷ []
unfolding clap_on_literals
unknown name rest h s i p c w = rw (s, i, p, c, w, no_end name h, no_long name h, no_short name h) refl

none_named : fault_of program [] ≡ MissingSubcommand ∷ []
unfolding clap_on_literals
none_named = refl

-- ---- what is taken

some_fault : (k : ErrorKind) (ks kinds : Kinds) → kinds ≡ k ∷ ks → kinds ≡ [] → ⊥
some_fault k ks kinds e n = let bad : k ∷ ks ≡ [] = sym e ∙ n in absurd cc

word_line : (name : Text) (needed : Bool) (rest : List Text) → All IsUndashed rest → own_fault (one_word name needed) rest ≡ []
    → line_of name (first_of (codes "word") (rows_after (one_made name needed).rules [] rest)) ≡ name ∷ rest
word_line name true [] all none = absurd (some_fault _ _ _ (missing name) none)
word_line name false [] all none = ap (line_of name) (left_out name).1
word_line name needed (word ∷ []) all none = ap (line_of name) (given name needed word (All-head IsUndashed word [] all)).1
word_line name needed (word ∷ more ∷ rest) all none =
    let after : All IsUndashed (more ∷ rest) = All-tail IsUndashed word (more ∷ rest) all in
    absurd (some_fault _ _ _ (too_many name needed word more rest (All-head IsUndashed word (more ∷ rest) all) (All-head IsUndashed more rest after)) none)

alone_line : (name : Text) (rest : List Text) → All IsUndashed rest → own_fault (new_shape name) rest ≡ []
    → line_of name (first_of (codes "word") (rows_after (made (new_shape name)).rules [] rest)) ≡ name ∷ rest
alone_line name [] all none = ap (line_of name) (alone name).1
alone_line name (word ∷ rest) all none = absurd (some_fault _ _ _ (any_more name word rest (All-head IsUndashed word rest all)) none)

-- the words that name a command that takes one, if the program has no fault
word_taken : (name : Text) (needed : Bool) → Meets name (one_made name needed) → (rest : List Text) → All IsUndashed rest → fault_of program (name ∷ rest) ≡ []
    → line_found (subcommand_of program (name ∷ rest)) ≡ Some (name ∷ rest)
word_taken name needed m rest all none =
    ap line_found (enters name (one_made name needed) m rest) ∙ ap Some (word_line name needed rest all (sym (fault_below name (one_made name needed) m rest) ∙ none))

alone_taken : (name : Text) → Meets name (made (new_shape name)) → (rest : List Text) → All IsUndashed rest → fault_of program (name ∷ rest) ≡ []
    → line_found (subcommand_of program (name ∷ rest)) ≡ Some (name ∷ rest)
alone_taken name m rest all none =
    ap line_found (enters name (made (new_shape name)) m rest) ∙ ap Some (alone_line name rest all (sym (fault_below name (made (new_shape name)) m rest) ∙ none))

same_or_not : (a b : Text) → (a ≡ b) ⊎ (bytes_eq a b ≡ false)
same_or_not a b = elim (cases_Bool (bytes_eq a b)) [ inl h ↦ inl ((bytes_eq-Decides a b).0 h) | inr h ↦ inr h ]

abbrev TakenAt : List Text → Text → Type 0
TakenAt rest name = All IsUndashed rest → fault_of program (name ∷ rest) ≡ [] → line_found (subcommand_of program (name ∷ rest)) ≡ Some (name ∷ rest)

-- words that are taken are those of the command that was found
pub taken : (words : List Text) → All IsUndashed words → fault_of program words ≡ [] → line_found (subcommand_of program words) ≡ Some words
taken [] all none = absurd (some_fault _ _ _ none_named none)
taken (name ∷ rest) all none = session (same_or_not (codes "session") name)
  where
    use_it : (n : Text) → n ≡ name → TakenAt rest n → line_found (subcommand_of program (name ∷ rest)) ≡ Some (name ∷ rest)
    use_it n e g = subst (TakenAt rest) e g (All-tail IsUndashed name rest all) none

    workload : bytes_eq (codes "session") name ≡ false → bytes_eq (codes "imap") name ≡ false → bytes_eq (codes "policy") name ≡ false
        → bytes_eq (codes "check") name ≡ false → (codes "workload" ≡ name) ⊎ (bytes_eq (codes "workload") name ≡ false)
        → line_found (subcommand_of program (name ∷ rest)) ≡ Some (name ∷ rest)
    workload s i p c (inl e) = use_it _ e (word_taken (codes "workload") true meets_workload rest)
    workload s i p c (inr w) = absurd (some_fault _ _ _ (unknown name rest (All-head IsUndashed name rest all) s i p c w) none)

    check : bytes_eq (codes "session") name ≡ false → bytes_eq (codes "imap") name ≡ false → bytes_eq (codes "policy") name ≡ false
        → (codes "check" ≡ name) ⊎ (bytes_eq (codes "check") name ≡ false)
        → line_found (subcommand_of program (name ∷ rest)) ≡ Some (name ∷ rest)
    check s i p (inl e) = use_it _ e (alone_taken (codes "check") meets_check rest)
    check s i p (inr c) = workload s i p c (same_or_not (codes "workload") name)

    policy : bytes_eq (codes "session") name ≡ false → bytes_eq (codes "imap") name ≡ false
        → (codes "policy" ≡ name) ⊎ (bytes_eq (codes "policy") name ≡ false)
        → line_found (subcommand_of program (name ∷ rest)) ≡ Some (name ∷ rest)
    policy s i (inl e) = use_it _ e (alone_taken (codes "policy") meets_policy rest)
    policy s i (inr p) = check s i p (same_or_not (codes "check") name)

    imap : bytes_eq (codes "session") name ≡ false → (codes "imap" ≡ name) ⊎ (bytes_eq (codes "imap") name ≡ false)
        → line_found (subcommand_of program (name ∷ rest)) ≡ Some (name ∷ rest)
    imap s (inl e) = use_it _ e (word_taken (codes "imap") false meets_imap rest)
    imap s (inr i) = policy s i (same_or_not (codes "policy") name)

    session : (codes "session" ≡ name) ⊎ (bytes_eq (codes "session") name ≡ false) → line_found (subcommand_of program (name ∷ rest)) ≡ Some (name ∷ rest)
    session (inl e) = use_it _ e (word_taken (codes "session") true meets_session rest)
    session (inr s) = imap s (same_or_not (codes "imap") name)

-- ---- what is refused

passes : (words line : List Text) → All IsUndashed words → words ≡ line → (All IsUndashed line → fault_of program line ≡ []) → fault_of program words ≡ []
passes words line all e f = ap (fault_of program) e ∙ f (subst (All IsUndashed) e all)

second : (name word : Text) → All IsUndashed (name ∷ word ∷ []) → IsUndashed word
second name word all = All-head IsUndashed word [] (All-tail IsUndashed name (word ∷ []) all)

word_passes : (name : Text) (needed : Bool) → Meets name (one_made name needed) → (word : Text) → All IsUndashed (name ∷ word ∷ []) → fault_of program (name ∷ word ∷ []) ≡ []
word_passes name needed m word all = fault_below name (one_made name needed) m (word ∷ []) ∙ (given name needed word (second name word all)).0

alone_passes : (name : Text) → Meets name (made (new_shape name)) → fault_of program (name ∷ []) ≡ []
alone_passes name m = fault_below name (made (new_shape name)) m [] ∙ (alone name).0

imap_passes : fault_of program (codes "imap" ∷ []) ≡ []
imap_passes = fault_below (codes "imap") (one_made (codes "imap") false) meets_imap [] ∙ (left_out (codes "imap")).0

-- words that are refused have no form
pub no_form : (words : List Text) → All IsUndashed words → (fault_of program words ≡ [] → ⊥) → IsNoForm words
no_form words all refused = record {
  no_session = λ n form. refused (passes words _ all form.words_are (word_passes (codes "session") true meets_session (decimal n)));
  no_imap = no_imap;
  no_policy = λ e. refused (passes words _ all e (λ _. alone_passes (codes "policy") meets_policy));
  no_check = λ e. refused (passes words _ all e (λ _. alone_passes (codes "check") meets_check));
  no_workload = λ n form. refused (passes words _ all form.words_are (word_passes (codes "workload") true meets_workload (decimal n)));
}
  where
    no_imap : (account : Option Text) → IsImapForm words account → ⊥
    no_imap None e = refused (passes words _ all e (λ _. imap_passes))
    no_imap (Some name) e = refused (passes words _ all e.0 (word_passes (codes "imap") false meets_imap name))
