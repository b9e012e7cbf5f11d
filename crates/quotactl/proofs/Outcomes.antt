-- What the program does with an accounts file, as a function of the file, the files of the accounts
-- and the input, if nothing fails.
use Rattle.std.proofs.Common.{◌≡◌, ◌≢◌, ℕ, List, [], ◌∷◌, map, codes, refl, Option, Some, None, IfSome, sym, ap, ◌∙◌, subst, inl, inr}
use Rattle.std.specs.Option.{option_map}
use Rattle.keeper.specs.Calls.{Told, Changes}
use Rattle.wire_io.specs.declared.ends.SessionEnd.{SessionEnd}
use Rattle.wire_io.specs.declared.ends.SessionEnd.TheVariants.{NoMemory}
use Rattle.wire_io.specs.Session.{IsQuiet}
use Rattle.account_opening.specs.declared.error.OpenError.{OpenError}
use Rattle.account_opening.specs.declared.error.OpenError.TheVariants.{Store, NoMemory as open_no_memory}
use Rattle.accounts_file.specs.declared.error.AccountsError.{AccountsError}
use Rattle.accounts_file.specs.Files.{hosts_of}
use Rattle.accounts_file.specs.Hosts.{Hosts}
use Rattle.desk.specs.Shares.{Share}
use Rattle.host_opening.specs.Opening.{OpensEach}
use Rattle.host_opening.specs.Refusing.{RefusesFirst}
use Rattle.plain_desk.specs.Owning.{share_of}
use Rattle.sessions.specs.declared.front.Front.{Front}
use Rattle.sessions.specs.declared.front.Front.TheVariants.{ImapAs}
use Rattle.owner_sessions.proofs.Alone.{all_undisturbed}
use Rattle.owner_sessions.proofs.Sessions.{inputs_decide_sessions}
use Rattle.quotactl.specs.Ends.{exit_status}
use Rattle.quotactl.specs.Hosting.{ServesAccounts, ServesFile, ServesTable, accepted, file_refused, no_account, not_opened, served, front_in}
use Rattle.quotactl.specs.Lines.{MayEndWith, cut_short, file_line, file_status, in_full, no_account_line, opening_line, opening_status}
use Rattle.quotactl.specs.Outcome.{HasOutcome, HaveNoneDue, IsUnbroken, Outcome, file_outcome, file_refused_outcome, first_refusal, no_account_outcome, not_opened_outcome, or_else_outcome, session_outcome, share_in, table_outcome}
use Rattle.quotactl.specs.Words.{HostedForm, imap_of, policy_socket, IsHostedForm}
use Rattle.quotactl.proofs.Openings.{none_due_never_fails, opened_none, refused_some, shares_opened, shares_told}

module _ {R W : Type 0} {status : ℕ} (of_read : status ≡ 4 → R) (of_write : status ≡ 5 → W) (unbroken : IsUnbroken R W status) where
  -- a line is written in full
  line_outcome : (written written' : Option (List ℕ)) (line : List ℕ) (due : ℕ) → MayEndWith written written' line due status → HasOutcome written written' status (record { text = line; status = due })
  line_outcome written written' line due (inl (in_full appended is)) = record { status_is = is; appended = appended }
  line_outcome written written' line due (inl (cut_short part is)) = absurd (unbroken.writes (of_write is))
  line_outcome written written' line due (inr (kept, is)) = absurd (unbroken.memory is)

  quiet_end : (end : SessionEnd) → status ≡ exit_status end → IsQuiet end × (end ≢ NoMemory)
  quiet_end end is = (
    (λ same. unbroken.reads (of_read (is ∙ ap exit_status same)), λ same. unbroken.writes (of_write (is ∙ ap exit_status same))),
    λ same. unbroken.memory (is ∙ ap exit_status same),
  )

module _ {K : Type 0} (told : K → Option Told) (faults append_faults lists : K → ℕ) where
  module _ {R W : Type 0} {status : ℕ} (of_read : status ≡ 4 → R) (of_write : status ≡ 5 → W)
      (unbroken : IsUnbroken R W status) (accounts : List (List ℕ × Option K)) (none_due : HaveNoneDue told accounts) (input : List ℕ) where
    -- the table's outcome, if no account is refused, or one is
    none_refused : (hosts : Hosts) (front : Front) (shares : List Share) → first_refusal told hosts.epoch accounts hosts.accounts ≡ None → shares ≡ map (share_in told hosts.epoch accounts) hosts.accounts
        → table_outcome told hosts front accounts input ≡ session_outcome hosts front shares input
    none_refused hosts front shares none same =
        ap (λ (o : Option OpenError). or_else_outcome o not_opened_outcome (session_outcome hosts front (map (share_in told hosts.epoch accounts) hosts.accounts) input)) none
        ∙ ap (λ (xs : List Share). session_outcome hosts front xs input) (sym same)

    one_refused : (hosts : Hosts) (front : Front) (cause : OpenError) → first_refusal told hosts.epoch accounts hosts.accounts ≡ Some cause
        → table_outcome told hosts front accounts input ≡ not_opened_outcome cause
    one_refused hosts front cause some =
        ap (λ (o : Option OpenError). or_else_outcome o not_opened_outcome (session_outcome hosts front (map (share_in told hosts.epoch accounts) hosts.accounts) input)) some

    -- a session was served
    served_outcome : (hosts : Hosts) (front : Front) (stores' : Option (List (List ℕ × Option K))) (left' written written' : Option (List ℕ))
        → ServesAccounts told faults append_faults lists hosts front (Some accounts) stores' (Some input) left' written written' status
        → HasOutcome written written' status (table_outcome told hosts front accounts input)
    served_outcome hosts front stores' left' written written' s = by s.between s.opens
      where
        by : (between : Option (List (List ℕ × Option K))) → Changes (OpensEach told hosts.epoch hosts.accounts s.opened) (Some accounts) between
            → HasOutcome written written' status (table_outcome told hosts front accounts input)
        by None opens = absurd opens
        by (Some accounts') opens =
            let shares = map share_of s.opened in
            let none = opened_none told hosts.epoch accounts none_due hosts.accounts s.opened accounts' opens in
            let same = shares_opened told hosts.epoch accounts hosts.accounts s.opened accounts' opens in
            let fresh = shares_told told hosts.epoch accounts none_due hosts.accounts s.opened accounts' opens in
            let never = none_due_never_fails told hosts.epoch accounts none_due hosts.accounts s.opened accounts' opens in
            let alone = all_undisturbed s.opened s.closed never s.continues s.owned in
            let (quiet, memory) = quiet_end of_read of_write unbroken s.end s.status_is in
            let given = inputs_decide_sessions hosts front shares (map share_of s.closed) (Some input) left' written written' s.end s.session fresh alone quiet memory in
            subst (HasOutcome written written' status) (sym (none_refused hosts front shares none same)) (record { status_is = s.status_is ∙ ap exit_status given.end_is; appended = given.appended })

    module _ {M : Type 0} (of_store : status ≡ 7 → M) (stored : M → ⊥) where
      -- an account was not opened
      refused_outcome : (hosts : Hosts) (front : Front) (cause : OpenError) (stores' : Option (List (List ℕ × Option K))) (written written' : Option (List ℕ))
          → Changes (RefusesFirst told hosts.epoch cause hosts.accounts) (Some accounts) stores' → MayEndWith written written' (opening_line cause) (opening_status cause) status
          → HasOutcome written written' status (table_outcome told hosts front accounts input)
      refused_outcome hosts front cause None written written' refuses line = absurd refuses
      refused_outcome hosts front cause (Some accounts') written written' refuses line =
          let said = line_outcome of_read of_write unbroken written written' (opening_line cause) (opening_status cause) line in
          let memory : cause ≢ open_no_memory = λ same. unbroken.memory (said.status_is ∙ ap opening_status same) in
          let no_store : cause ≢ Store = λ same. stored (of_store (said.status_is ∙ ap opening_status same)) in
          let some = refused_some told hosts.epoch accounts none_due cause hosts.accounts accounts' refuses no_store memory in
          subst (HasOutcome written written' status) (sym (one_refused hosts front cause some)) said

      table_outcome_is : (hosts : Hosts) (front : Front) (stores' : Option (List (List ℕ × Option K))) (left' written written' : Option (List ℕ))
          → ServesTable told faults append_faults lists hosts front (Some accounts) stores' (Some input) left' written written' status
          → HasOutcome written written' status (table_outcome told hosts front accounts input)
      table_outcome_is hosts front stores' left' written written' (not_opened cause refuses kept line) = refused_outcome hosts front cause stores' written written' refuses line
      table_outcome_is hosts front stores' left' written written' (served s) = served_outcome hosts front stores' left' written written' s

      module _ (file : List ℕ) (epoch : ℕ) (session : HostedForm) where
        -- the outcome for the table that the file gives
        abbrev of_front : Front → Outcome
        of_front front = table_outcome told (hosts_of file epoch) front accounts input

        abbrev of_table : Outcome
        of_table = or_else_outcome (front_in (hosts_of file epoch).accounts session) of_front (no_account_outcome session)

        with_input : (stores' : Option (List (List ℕ × Option K))) (left' written written' : Option (List ℕ))
            → ServesFile told faults append_faults lists file epoch session (Some accounts) stores' (Some input) left' written written' status
            → HasOutcome written written' status (file_outcome told file epoch session accounts input)
        with_input stores' left' written written' (file_refused fault (inl memory) same kept line) =
            let said = line_outcome of_read of_write unbroken written written' (file_line fault) (file_status fault) line in
            absurd (unbroken.memory (said.status_is ∙ ap file_status memory))
        with_input stores' left' written written' (file_refused fault (inr refused) same kept line) =
            let is : file_outcome told file epoch session accounts input ≡ file_refused_outcome fault = ap (λ (o : Option AccountsError). or_else_outcome o file_refused_outcome of_table) refused in
            subst (HasOutcome written written' status) (sym is) (line_outcome of_read of_write unbroken written written' (file_line fault) (file_status fault) line)
        with_input stores' left' written written' (no_account name fine nobody same kept line) =
            let none : front_in (hosts_of file epoch).accounts session ≡ None = ap (front_in (hosts_of file epoch).accounts) nobody.is_named ∙ ap (λ (o : Option ℕ). option_map (λ (n : ℕ). ImapAs n) o) nobody.absent in
            let is : file_outcome told file epoch session accounts input ≡ no_account_outcome (imap_of (Some name)) =
            ap (λ (o : Option AccountsError). or_else_outcome o file_refused_outcome of_table) fine
            ∙ ap (λ (o : Option Front). or_else_outcome o of_front (no_account_outcome session)) none ∙ ap no_account_outcome nobody.is_named in
            subst (HasOutcome written written' status) (sym is) (line_outcome of_read of_write unbroken written written' (no_account_line name) 8 line)
        with_input stores' left' written written' (accepted hosts front gives table) =
            let begins : front_in (hosts_of file epoch).accounts session ≡ Some front = ap (λ (h : Hosts). front_in h.accounts session) (sym gives.table) ∙ gives.front_is in
            let is : file_outcome told file epoch session accounts input ≡ table_outcome told hosts front accounts input =
            ap (λ (o : Option AccountsError). or_else_outcome o file_refused_outcome of_table) gives.accepted
            ∙ ap (λ (o : Option Front). or_else_outcome o of_front (no_account_outcome session)) begins
            ∙ ap (λ (h : Hosts). table_outcome told h front accounts input) (sym gives.table) in
            subst (HasOutcome written written' status) (sym is) (table_outcome_is hosts front stores' left' written written' table)

  -- the program writes what the file, the files of its accounts and the input give, if no read, no
  -- write and no store failed, and memory did not run out
  pub file_outcome_is : (R W M : Type 0) (file : List ℕ) (epoch : ℕ) (session : HostedForm)
      (accounts : List (List ℕ × Option K)) (stores' : Option (List (List ℕ × Option K))) (left left' written written' : Option (List ℕ)) (status : ℕ)
      → ServesFile told faults append_faults lists file epoch session (Some accounts) stores' left left' written written' status → HaveNoneDue told accounts
      → (status ≡ 4 → R) → (status ≡ 5 → W) → (status ≡ 7 → M) → (M → ⊥)
      → IfSome left (λ input. IsUnbroken R W status → HasOutcome written written' status (file_outcome told file epoch session accounts input))
  file_outcome_is R W M file epoch session accounts stores' None left' written written' status serves none_due of_read of_write of_store stored = tt
  file_outcome_is R W M file epoch session accounts stores' (Some input) left' written written' status serves none_due of_read of_write of_store stored =
      λ unbroken. with_input of_read of_write unbroken accounts none_due input of_store stored file epoch session stores' left' written written' serves

  -- the arguments ask for one session
  same_session : (words : List (List ℕ)) (own session : HostedForm) → IsHostedForm words own → IsHostedForm words session → own ≡ session
  same_session words (imap_of None) (imap_of None) one other = refl
  same_session words (imap_of None) (imap_of (Some name)) one other = let both : codes "imap" ∷ [] ≡ codes "imap" ∷ name ∷ [] = sym one ∙ other.0 in absurd cc
  same_session words (imap_of (Some name)) (imap_of None) one other = let both : codes "imap" ∷ name ∷ [] ≡ codes "imap" ∷ [] = sym one.0 ∙ other in absurd cc
  same_session words (imap_of (Some name)) (imap_of (Some second)) one other =
      let both : codes "imap" ∷ name ∷ [] ≡ codes "imap" ∷ second ∷ [] = sym one.0 ∙ other.0 in
      let same : name ≡ second = cc in
      ap (λ (x : List ℕ). imap_of (Some x)) same
  same_session words policy_socket policy_socket one other = refl
  same_session words policy_socket (imap_of None) one other = let both : codes "policy" ∷ [] ≡ codes "imap" ∷ [] = sym one ∙ other in absurd cc
  same_session words policy_socket (imap_of (Some name)) one other = let both : codes "policy" ∷ [] ≡ codes "imap" ∷ name ∷ [] = sym one ∙ other.0 in absurd cc
  same_session words (imap_of None) policy_socket one other = let both : codes "imap" ∷ [] ≡ codes "policy" ∷ [] = sym one ∙ other in absurd cc
  same_session words (imap_of (Some name)) policy_socket one other = let both : codes "imap" ∷ name ∷ [] ≡ codes "policy" ∷ [] = sym one.0 ∙ other in absurd cc

  -- the same of the session that the arguments ask for
  pub words_outcome : (R W M : Type 0) (words : List (List ℕ)) (file : List ℕ) (epoch : ℕ) (own session : HostedForm)
      (stores stores' : Option (List (List ℕ × Option K))) (left left' written written' : Option (List ℕ)) (status : ℕ)
      → IsHostedForm words own → IsHostedForm words session → ServesFile told faults append_faults lists file epoch own stores stores' left left' written written' status
      → (status ≡ 4 → R) → (status ≡ 5 → W) → (status ≡ 7 → M)
      → IfSome stores (λ accounts. HaveNoneDue told accounts → (M → ⊥) → IfSome left (λ input. IsUnbroken R W status → HasOutcome written written' status (file_outcome told file epoch session accounts input)))
  words_outcome R W M words file epoch own session None stores' left left' written written' status one other serves of_read of_write of_store = tt
  words_outcome R W M words file epoch own session (Some accounts) stores' left left' written written' status one other serves of_read of_write of_store = λ none_due stored.
      file_outcome_is R W M file epoch session accounts stores' left left' written written' status
      (subst (λ (s : HostedForm). ServesFile told faults append_faults lists file epoch s (Some accounts) stores' left left' written written' status) (same_session words own session one other) serves)
      none_due of_read of_write of_store stored
