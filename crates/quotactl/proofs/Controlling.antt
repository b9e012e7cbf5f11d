-- What the program writes for `session`, as a function of its words and its input.
use Rattle.std.proofs.Common.{◌≡◌, ◌≢◌, ◌<◌, ◌≤◌, ◌^◌, ◌⊎◌, ℕ, zero, suc, List, [], ◌∷◌, Option, Some, None, IfSome, refl, sym, ap, ◌∙◌, subst, inl, inr, arith, codes}
use Rattle.std.proofs.lemmas.Fmt.{decimal_injective}
use Rattle.std.proofs.lemmas.List.Elements.{All-cons, All-nil}
use Rattle.std.specs.Fmt.{decimal}
use Rattle.std.specs.List.{All, slice_get}
use Rattle.quota_units.specs.Limiting.{LimitNumbers}
use Rattle.wire_io.specs.declared.ends.SessionEnd.TheVariants.{NoMemory}
use Rattle.wire_io.specs.Session.{IsQuiet}
use Rattle.accounts_file.specs.declared.entry.AccountEntry.{AccountEntry}
use Rattle.accounts_file.specs.Hosts.{plain_account, plain_hosts}
use Rattle.desk.specs.Shares.{Share, share_at}
use Rattle.desk.specs.Logs.{IsLog}
use Rattle.front_core.specs.Desks.{IsDeskOf, IsOpenedAs}
use Rattle.sessions.specs.declared.front.Front.TheVariants.{ImapAs}
use Rattle.sessions.specs.Fronts.{IsSessionOf}
use Rattle.owner_sessions.specs.Owner.{HasAccount}
use Rattle.owner_sessions.specs.Plain.{empty_account, plain_share}
use Rattle.owner_sessions.proofs.Sessions.{inputs_decide_sessions}
use Rattle.quotactl.specs.Control.{Runs, served, no_account, units_of_storage, hosts_with, fresh}
use Rattle.quotactl.specs.Ends.{exit_status}
use Rattle.quotactl.specs.Lines.{MayEndWith, cut_short, in_full, summary_lines}
use Rattle.quotactl.specs.Outcome.{HasOutcome, IsUnbroken, session_outcome, workload_outcome}
use Rattle.command_words.specs.declared.form.Form.{Form}
use Rattle.command_words.specs.Words.{IsForm, IsSessionForm, IsWorkloadForm}

-- a desk of the one account of the plain table fits the table
pub plain_fits : (limits : LimitNumbers) (shares : List Share) → shares ≡ plain_share limits ∷ [] → IsDeskOf (plain_hosts limits) shares
plain_fits limits shares is = subst (IsDeskOf (plain_hosts limits)) (sym is) (record { count = refl; each = each })
  where
    each : (account : ℕ) (entry : AccountEntry) → slice_get (plain_hosts limits).accounts account ≡ Some entry
        → IsOpenedAs entry (plain_hosts limits).epoch (share_at (plain_share limits ∷ []) account)
    each zero entry e =
        let same : plain_account limits ≡ entry = cc in
        subst (λ (x : AccountEntry). IsOpenedAs x 0 (plain_share limits)) same (record { roots = refl; journal = refl; epoch_is = refl })
    each (suc account) entry e = absurd cc

-- its opening account is told
fresh_told : (n : ℕ) → All HasAccount (fresh n)
fresh_told n = All-cons HasAccount (plain_share (units_of_storage n)) [] (record { account = empty_account (units_of_storage n); is_told = refl }) (All-nil HasAccount)

pub form_number : (words : List (List ℕ)) (n m : ℕ) → IsSessionForm words n → IsSessionForm words m → n ≡ m
form_number words n m a b =
    let both : codes "session" ∷ decimal n ∷ [] ≡ codes "session" ∷ decimal m ∷ [] = sym a.words_are ∙ b.words_are in
    let same : decimal n ≡ decimal m = cc in
    decimal_injective n m (omega (arith, a.bounded)) (omega (arith, b.bounded)) same

-- the status and all that is written, where nothing failed and there was memory
pub run_outcome : (left left' written written' : Option (List ℕ)) (units n status : ℕ) (R W : Type 0) (words : List (List ℕ)) → IsSessionForm words units → IsSessionForm words n
    → Runs left left' written written' units status → (status ≡ 4 → R) → (status ≡ 5 → W)
    → IfSome left (λ input. IsUnbroken R W status → HasOutcome written written' status (session_outcome (hosts_with n) (ImapAs 0) (fresh n) input))
run_outcome None left' written written' units n status R W words form own runs read write = tt
run_outcome (Some input) left' written written' units n status R W words form own (no_account source sink is) read write = λ unbroken. absurd (unbroken.memory is)
run_outcome (Some input) left' written written' units n status R W words form own (served shares' end session alone is) read write = λ unbroken.
    let quiet : IsQuiet end = ((λ e. unbroken.reads (read (is ∙ ap exit_status e))), (λ e. unbroken.writes (write (is ∙ ap exit_status e)))) in
    let memory : end ≢ NoMemory = λ e. unbroken.memory (is ∙ ap exit_status e) in
    let same = form_number words units n form own in
    let out = inputs_decide_sessions (hosts_with n) (ImapAs 0) (fresh n) shares' (Some input) left' written written' end
    (subst (λ k. IsSessionOf (hosts_with k) (ImapAs 0) (IsLog (fresh k) shares') (Some input) left' written written' end) same session) (fresh_told n) alone quiet memory in
    record { status_is = is ∙ ap exit_status out.end_is; appended = out.appended }

-- the words have the form that was read in them
pub form_is : (words : List (List ℕ)) (found : Option Form) (own form : Form) → IfSome found (λ f. IsForm words f) → found ≡ Some own → own ≡ form → IsForm words form
form_is words found own form some is same = subst (IsForm words) same (subst (λ (o : Option Form). IfSome o (λ f. IsForm words f)) is some)

workload_number : (words : List (List ℕ)) (n m : ℕ) → IsWorkloadForm words n → IsWorkloadForm words m → n ≡ m
workload_number words n m a b =
    let both : codes "workload" ∷ decimal n ∷ [] ≡ codes "workload" ∷ decimal m ∷ [] = sym a.words_are ∙ b.words_are in
    let same : decimal n ≡ decimal m = cc in
    decimal_injective n m (omega (arith, a.bounded)) (omega (arith, b.bounded)) same

-- the summary is written in full, if no write fails and there is memory for it
pub summary_outcome : (written written' : Option (List ℕ)) (requests n status : ℕ) (W : Type 0) (words : List (List ℕ)) → IsWorkloadForm words requests → IsWorkloadForm words n
    → MayEndWith written written' (summary_lines requests) 0 status → (status ≡ 5 → W) → status ≢ 6 → (W → ⊥)
    → HasOutcome written written' status (workload_outcome n)
summary_outcome written written' requests n status W words form own ends write memory never =
    let same = workload_number words requests n form own in
    by (subst (λ (k : ℕ). MayEndWith written written' (summary_lines k) 0 status) same ends)
  where
    by : MayEndWith written written' (summary_lines n) 0 status → HasOutcome written written' status (workload_outcome n)
    by (inl (in_full appended is)) = record { status_is = is; appended = appended }
    by (inl (cut_short part is)) = absurd (never (write is))
    by (inr (kept, is)) = absurd (memory is)
