-- What the program takes of the parser's answer.
use Rattle.std.proofs.Common.{◌≡◌, true, List, [], Option, Some, None, IfSome, IfNone, sym, ap, ◌∙◌, inl, inr, codes, option_map, Box}
use Rattle.std.specs.Box.{box_value}
use Rattle.std.specs.List.{All}
use Rattle.clap.specs.Words.{App, HasKind, HasMatchesOf, Text, fault_of, first_of, found_of, is_simple, is_simple_and_free, kind_of, rows_of, subcommand_of, subcommand_rows, subcommand_rows_of}
use Rattle.clap.specs.declared.error.Error.{Error}
use Rattle.clap.specs.declared.error.kind.ErrorKind.TheVariants.{OutOfMemory}
use Rattle.clap.specs.declared.parser.matches.ArgMatches.{ArgMatches}
use Rattle.clap.specs.declared.parser.matches.ArgMatches.TheViews.{out-SubCommand}
use Rattle.clap.specs.declared.parser.matches.Found.{Found}
use Rattle.clap.specs.declared.parser.matches.SubCommand.{SubCommand}
use Rattle.command_words.specs.Commands.{IsUndashed, asked_words, line_found, line_of, program}
use Rattle.command_words.specs.Words.{IsNoForm}
use Rattle.command_words.specs.declared.commands.Asked.{Asked}
use Rattle.command_words.proofs.Reading.{no_form, not_among, simple, simple_words, taken}

pub found_line : {Z : Type 0} (o : Option (Box SubCommand Z)) (command : Text) (inner : Found)
    → Some command ≡ option_map (λ b. (out-SubCommand (box_value b)).name.now) o → Some (rows_of inner) ≡ option_map (λ p. p.1) (subcommand_rows o)
    → Some (line_of command (first_of (codes "word") (rows_of inner))) ≡ line_found (subcommand_rows o)
found_line None command inner name rows = absurd cc
found_line (Some b) command inner name rows =
    let name_is : command ≡ (out-SubCommand (box_value b)).name.now = cc in
    let rows_are : rows_of inner ≡ rows_of (found_of (out-SubCommand (box_value b)).matches) = cc in
    ap (λ n. Some (line_of n (first_of (codes "word") (rows_of inner)))) name_is
    ∙ ap (λ r. Some (line_of (out-SubCommand (box_value b)).name.now (first_of (codes "word") r))) rows_are

-- what was asked for are the words that the parser took
pub asked_line : (a : App) → a ≡ program → (words : List Text) (m : ArgMatches) (r : Option Asked) → All IsUndashed words
    → option_map asked_words r ≡ line_found (subcommand_rows_of m) → HasMatchesOf a words m → (is_simple_and_free a ≡ true → fault_of a words ≡ [])
    → option_map asked_words r ≡ Some words
asked_line a is words m r all found matches kinds =
    let none : fault_of program words ≡ [] = sym (ap (λ x. fault_of x words) is) ∙ kinds (ap is_simple_and_free is ∙ simple) in
    let same : subcommand_rows_of m ≡ subcommand_of program words = (matches (ap is_simple is ∙ simple_words)).1 ∙ ap (λ x. subcommand_of x words) is in
    found ∙ ap line_found same ∙ taken words all none

pub some_asked : (r : Option Asked) (words : List Text) → option_map asked_words r ≡ Some words → IfSome r (λ asked. words ≡ asked_words asked)
some_asked None words e = tt
some_asked (Some asked) words e = let same : asked_words asked ≡ words = cc in sym same

pub none_asked : (r : Option Asked) (words : List Text) → option_map asked_words r ≡ Some words → IfNone r (IsNoForm words)
none_asked None words e = absurd cc
none_asked (Some asked) words e = tt

-- an error that does not come of memory says that the words have no form
pub refused : (a : App) → a ≡ program → (words : List Text) (e : Error) → All IsUndashed words
    → (is_simple_and_free a ≡ true → HasKind (fault_of a words) e) → (kind_of e ≡ OutOfMemory → ⊥) → IsNoForm words
refused a is words e all kinds memory = no_form words all (λ none. elim (kinds (ap is_simple_and_free is ∙ simple)) [
  | inl h ↦ memory h
  | inr h ↦ not_among (kind_of e) (fault_of a words) h (ap (λ x. fault_of x words) is ∙ none)
])
