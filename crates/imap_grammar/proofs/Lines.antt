-- What follows a word, all of it: its arguments, and the line's end after the marker of a message.
use Rattle.std.proofs.Common.{◌≡◌, ℕ, Bool, true, List, [], ◌∷◌, ◌++◌, Option, Some, None, refl, sym, ap, ◌∙◌, append_assoc, append-nil}
use Rattle.imap_grammar.specs.declared.command.Command.{Command}
use Rattle.imap_grammar.specs.declared.word.Word.{Word}
use Rattle.imap_grammar.specs.declared.word.Word.TheVariants.{Capability as CapabilityWord, Noop as NoopWord, Logout as LogoutWord, Login as LoginWord, GetQuota as GetQuotaWord, GetQuotaRoot as GetQuotaRootWord, SetQuota as SetQuotaWord, Status as StatusWord, Append as AppendWord}
use Rattle.imap_grammar.specs.Grammar.{IsTag, IsLineEnd, IsWord, IsBody, IsCommand}
use Rattle.imap_grammar.specs.Reading.{Reader, got, short, ◌>>=◌, gives}
use Rattle.imap_grammar.specs.Commands.{ended, arguments_after, is_allowed}
use Rattle.imap_grammar.specs.Progressing.{message_size}
use Rattle.imap_grammar.proofs.ReaderLaws.{IsReader, reads_then, reads_gives}
use Rattle.imap_grammar.proofs.Steps.{reads_ended}
use Rattle.imap_grammar.proofs.Spelled.{end_spelled}
use Rattle.imap_grammar.proofs.Words.{letters_of}
use Rattle.imap_grammar.proofs.Arguments.{EndOf, Arguments, reads_arguments}
use Rattle.imap_grammar.proofs.Table.{RestOf}

-- the line's end after a message, which the text does not have
abbrev pub finish_by : Option ℕ → Command → Reader Command
finish_by None command = gives command
finish_by (Some size) command = ended command

abbrev pub finish : Command → Reader Command
finish command = finish_by (message_size command) command

abbrev pub line_after : Word → Reader Command
line_after word = arguments_after word >>= finish

-- what follows these letters in a command
abbrev pub Line : Bool → List ℕ → List ℕ → Command → Type 0
Line login letters bytes command = (rest end : List ℕ) × IsBody login (letters ++ rest) command × IsLineEnd end × (bytes ≡ rest ++ end)

pub reads_line : (login : Bool) (letters : List ℕ) (word : Word) → is_allowed word login ≡ true → IsWord (letters_of word) letters
    → IsReader (Line login letters) (line_after word)
reads_line login letters word allowed is =
    reads_then (Arguments login letters) (Line login letters) (arguments_after word) finish (reads_arguments login letters word allowed is) finishes
  where
    finishes : (bytes : List ℕ) (command : Command) → Arguments login letters bytes command → IsReader (λ b. Line login letters (bytes ++ b)) (finish command)
    finishes bytes command (rest, end, body, is_end, e) = go (message_size command) is_end
      where
        go : (o : Option ℕ) → EndOf o end → IsReader (λ b. Line login letters (bytes ++ b)) (finish_by o command)
        go None is_line = reads_gives (λ b. Line login letters (bytes ++ b)) command (rest, end, body, is_line, append-nil bytes ∙ e)
        go (Some size) none = reads_ended (λ b. Line login letters (bytes ++ b)) command
            (λ l is_l. (rest, l, body, is_l, ap (λ t. t ++ l) (e ∙ ap (λ t. rest ++ t) none ∙ append-nil rest)))

-- a tag, a space, letters and such a line are a command
pub line_command : (login : Bool) (tag letters bytes : List ℕ) (command : Command) → IsTag tag → Line login letters bytes command
    → IsCommand login (tag ++ 32 ∷ (letters ++ bytes)) (record { tag = tag; command = command })
line_command login tag letters bytes command is (rest, end, body, is_end, e) =
    (letters ++ rest, end, is, body, is_end, ap (λ l. tag ++ 32 ∷ l) (ap (λ l. letters ++ l) e ∙ sym (append_assoc letters rest end)))

-- what is left of a command after its arguments finishes it
pub finished : (command : Command) (rest : List ℕ) → RestOf (message_size command) rest → finish command rest ≡ got command []
finished command rest is = go (message_size command) is
  where
    go : (o : Option ℕ) → RestOf o rest → finish_by o command rest ≡ got command []
    go None none = ap (got command) none
    go (Some size) is_end = ap (ended command) (sym (append-nil rest)) ∙ end_spelled command rest [] is_end

-- nothing follows a word
pub no_arguments : (word : Word) → arguments_after word [] ≡ short
no_arguments CapabilityWord = refl
no_arguments NoopWord = refl
no_arguments LogoutWord = refl
no_arguments LoginWord = refl
no_arguments GetQuotaWord = refl
no_arguments GetQuotaRootWord = refl
no_arguments SetQuotaWord = refl
no_arguments StatusWord = refl
no_arguments AppendWord = refl
