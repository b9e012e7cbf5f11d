-- The sessions over the accounts of the accounts file that arguments ask for.
use Rattle.std.specs.Prelude.{◌≡◌, ℕ, List, [], ◌∷◌, codes, Option}
use Rattle.std.specs.Option.{option_copied}
use Rattle.command_words.specs.Words.{IsImapForm}
use Rattle.quotactl.specs.declared.accounts.HostSession.{HostSession}
use Rattle.quotactl.specs.declared.accounts.HostSession.TheVariants.{Imap, Policy}

-- a session over the accounts of the accounts file
pub data HostedForm : Type 0 where
  -- of IMAP; if an account is named, its owner is logged in at the start
  imap_of : (account : Option (List ℕ)) → HostedForm
  -- of the policy protocol
  policy_socket : HostedForm

-- the arguments ask for this session
abbrev pub IsHostedForm : List (List ℕ) → HostedForm → Type 0
IsHostedForm words (imap_of account) = IsImapForm words account
IsHostedForm words policy_socket = words ≡ codes "policy" ∷ []

-- the session that the code's `HostSession` stands for
abbrev pub hosted_form : HostSession → HostedForm
hosted_form (Imap account) = imap_of (option_copied account)
hosted_form Policy = policy_socket
