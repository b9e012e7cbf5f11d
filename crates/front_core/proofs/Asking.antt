-- One call on the desk: how its result tells the text that answers a request.
use Rattle.std.proofs.Common.{◌≡◌, ◌<◌, ℕ, List, [], ◌∷◌, length, set, Result, Ok, Err, IfOk, OnErr, refl, sym, ◌∙◌, subst, inl, inr}
use Rattle.quota_units.specs.declared.memory.NoMemory.{NoMemory}
use Rattle.account_core.specs.declared.calls.Call.{Call}
use Rattle.account_core.specs.declared.calls.Reply.{Reply}
use Rattle.account_core.specs.declared.calls.StepError.{StepError}
use Rattle.account_core.specs.Legality.{HasBytes}
use Rattle.account_core.specs.History.{Answer}
use Rattle.desk.specs.Shares.{Share, share_at}
use Rattle.desk.specs.Asking.{Asks, DeskCall, IsDeskCall}
use Rattle.desk.specs.Logs.{IsLog, log_of}
use Rattle.desk.proofs.Logging.{calls_are_logs}
use Rattle.front_core.specs.Works.{call_on, AnswersCall, LeavesCall}

-- the log of a call with these octets
module _ (shares shares' : List Share) (account : ℕ) (call : Call) (octets : List ℕ) (there : account < length shares) (may : IsDeskCall call) (has : HasBytes call octets) where
  pub asked_log : (result : Result Reply StepError) → Asks (share_at shares account) call result (share_at shares' account)
      → shares' ≡ set shares account (share_at shares' account) → IsLog shares shares' (log_of (call_on account call octets) result)
  asked_log result asks others = calls_are_logs shares shares' (call_on account call octets) result (record { account = there; call = may; bytes = has }) asks others

  -- the same of a call that failed with this error
  pub failed_log : (error own : StepError) → error ≡ own → Asks (share_at shares account) call (Err error) (share_at shares' account)
      → shares' ≡ set shares account (share_at shares' account) → IsLog shares shares' (log_of (call_on account call octets) (Err own))
  failed_log error own is asks others = asked_log (Err own) (subst (λ e. Asks (share_at shares account) call (Err e) (share_at shares' account)) is asks) others

module _ (shares shares' : List Share) (asked : DeskCall) where
  -- the call was made, with this answer
  module _ (answer : Answer) (made : IsLog shares shares' ((asked, answer) ∷ [])) where
    pub leaves_called : LeavesCall shares shares' asked
    leaves_called = ((asked, answer) ∷ [], made, inr (answer, refl))

    -- and the text that answers the request was made, or memory ran out
    module _ {T : Type 0} (words : T → List ℕ) (result : Result T NoMemory) where
      pub answered_called : (text_for : Answer → List ℕ) (text : List ℕ) → text_for answer ≡ text → IfOk result (λ t. words t ≡ text)
          → IfOk result (λ t. AnswersCall shares shares' asked text_for (words t))
      answered_called text_for text same is = on_ok result is
        where
          on_ok : (r : Result T NoMemory) → IfOk r (λ t. words t ≡ text) → IfOk r (λ t. AnswersCall shares shares' asked text_for (words t))
          on_ok (Ok t) e = (answer, e ∙ sym same, made)
          on_ok (Err f) e = tt

      pub left_called : OnErr result (LeavesCall shares shares' asked)
      left_called = on_err result
        where
          on_err : (r : Result T NoMemory) → OnErr r (LeavesCall shares shares' asked)
          on_err (Ok t) = tt
          on_err (Err f) = leaves_called

  -- the call was not made
  pub leaves_uncalled : IsLog shares shares' [] → LeavesCall shares shares' asked
  leaves_uncalled made = ([], made, inl refl)
