-- The arguments of the program.
use Rattle.std.specs.Prelude.{◌≡◌, ◌≢◌, ◌≤◌, ◌<◌, ℕ, List, [], ◌∷◌, codes, slice_get, Option, Some, None}
use Rattle.std.specs.Option.{option_copied}
use Rattle.std.specs.Fmt.{decimal}
use Rattle.command_words.specs.declared.form.Form.{Form}
use Rattle.command_words.specs.declared.form.Form.TheVariants.{Session, Imap, Policy, Check}
use Rattle.command_words.specs.declared.form.Form.TheVariants.{Workload}

-- the arguments `session N`: N in decimal digits, with no sign and no leading zero
pub record IsSessionForm (words : List (List ℕ)) (n : ℕ) : Type 0 where
  pub words_are : words ≡ codes "session" ∷ decimal n ∷ []
  pub some : 0 < n
  pub bounded : n ≤ 8796093022207

-- the arguments `imap`, or `imap ACCOUNT`; the name of the account does not begin with `-`
abbrev pub IsImapForm : List (List ℕ) → (account : Option (List ℕ)) → Type 0
IsImapForm words None = words ≡ codes "imap" ∷ []
IsImapForm words (Some name) = (words ≡ codes "imap" ∷ name ∷ []) × (slice_get name 0 ≢ Some 45)

-- the arguments `workload N`: N in decimal digits, with no sign and no leading zero
pub record IsWorkloadForm (words : List (List ℕ)) (n : ℕ) : Type 0 where
  pub words_are : words ≡ codes "workload" ∷ decimal n ∷ []
  pub some : 0 < n
  pub bounded : n ≤ 4096

-- the arguments have this form
abbrev pub IsForm : List (List ℕ) → Form → Type 0
IsForm words (Session n) = IsSessionForm words n
IsForm words (Imap account) = IsImapForm words (option_copied account)
IsForm words Policy = words ≡ codes "policy" ∷ []
IsForm words Check = words ≡ codes "check" ∷ []
IsForm words (Workload n) = IsWorkloadForm words n

-- the arguments are unrecognised: they have none of the forms
pub record IsNoForm (words : List (List ℕ)) : Type 0 where
  pub no_session : (n : ℕ) → IsSessionForm words n → ⊥
  pub no_imap : (account : Option (List ℕ)) → IsImapForm words account → ⊥
  pub no_policy : words ≢ codes "policy" ∷ []
  pub no_check : words ≢ codes "check" ∷ []
  pub no_workload : (n : ℕ) → IsWorkloadForm words n → ⊥
