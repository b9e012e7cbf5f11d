-- What the texts of a session have in common.
use Rattle.std.specs.Prelude.{◌≡◌, ◌≢◌, ℕ, List, [], ◌++◌, Option}
use Rattle.wire_io.specs.declared.ends.After.{After}
use Rattle.wire_io.specs.Work.{Does}
use Rattle.imap_grammar.specs.declared.command.Command.{Command}
use Rattle.imap_grammar.specs.Requests.{Request, command}
use Rattle.accounts_file.specs.Hosts.{Hosts}
use Rattle.account_core.specs.History.{Answer}
use Rattle.desk.specs.Asking.{DeskCall}
use Rattle.imap_front.specs.Texts.{tagged_line}
use Rattle.imap_front.specs.Imap.{work}

-- the last line answers the command with this tag
abbrev pub EndsTagged : (tag text : List ℕ) → Type 0
EndsTagged tag text = (before words : List ℕ) × (text ≡ before ++ tagged_line tag words)

-- Whatever the answers to its calls, a request is answered with a text that is not empty.
abbrev pub RequestsHaveTexts : Type 0
RequestsHaveTexts = (hosts : Hosts) (login : Option ℕ) (request : Request)
    (log : List (DeskCall × Answer)) (text : List ℕ) (after : After)
    → Does (work hosts login request) log text after → text ≢ []

-- Whatever the answers to its calls, the last line of the text that answers a command has the
-- command's tag.
abbrev pub CommandsEndTagged : Type 0
CommandsEndTagged = (hosts : Hosts) (login : Option ℕ) (tag : List ℕ) (own : Command)
    (message : List ℕ) (log : List (DeskCall × Answer)) (text : List ℕ) (after : After)
    → Does (work hosts login (command tag own message)) log text after → EndsTagged tag text
