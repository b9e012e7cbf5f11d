-- What the owner's desk says of each of its accounts, in the words of the headline.
use Rattle.std.proofs.Common.{◌≡◌, ◌<◌, ℕ, zero, suc, List, [], ◌∷◌, length, map, Option, Some, None, IfSome, sym, ap, ◌∙◌, subst, arith}
use Rattle.std.specs.List.{All, slice_get}
use Rattle.keeper.specs.Calls.{Told}
use Rattle.keeper.specs.Files.{ledger_at}
use Rattle.quota_units.specs.declared.totals.Totals.{Totals}
use Rattle.admission.specs.Fitting.{limits_at}
use Rattle.account_core.specs.Account.{Account}
use Rattle.account_core.specs.Histories.{Origin}
use Rattle.account_core.specs.History.{Answer}
use Rattle.root_ledgers.specs.declared.book.Standing.TheVariants.{Settled}
use Rattle.root_ledgers.specs.Ledgers.{IsRight}
use Rattle.account_ledger.specs.States.{State, IsAccount}
use Rattle.account_ledger.specs.Stores.{Agree, fresh_scan, standing_at}
use Rattle.accounts_file.specs.declared.entry.AccountEntry.{AccountEntry}
use Rattle.accounts_file.specs.Hosts.{Hosts}
use Rattle.desk.specs.Asking.{DeskCall}
use Rattle.desk.specs.Logs.{IsLog}
use Rattle.desk.specs.Shares.{HaveNoFailure, Share, share_at}
use Rattle.front_core.specs.Desks.{IsDeskOf, IsOpenedAs}
use Rattle.plain_desk.specs.Continuing.{EachContinues, HasNoneDue, HasRoom}
use Rattle.plain_desk.specs.Owning.{AreOwned, IsOwned, share_of}
use Rattle.plain_desk.proofs.Asked.{none_due_no_failures}
use Rattle.sessions.specs.Fronts.{IsSessionOf}
use Rattle.sessions.specs.declared.front.Front.{Front}
use Rattle.sessions.specs.declared.front.Front.TheVariants.{Imap, ImapAs, Policy}
use Rattle.wire_io.specs.declared.ends.SessionEnd.{SessionEnd}
use Rattle.tests_of_desks.specs.Headline.{HasFreshSums, HasLegalHistory}

pub legal_each : (states : List State) → AreOwned states → All HasLegalHistory states
legal_each states owned k d lt = record { legal = (owned.each k d lt).order.legal; own = (owned.each k d lt).whole }

fresh_one : (s : State) → IsOwned s → HasFreshSums s
fresh_one s owned account is = by s.store.told (owned.order.agrees account is)
  where
    by : (o : Option Told) → IfSome o (λ told. Agree s.store account told.files)
        → IfSome o (λ told. (root : ℕ) → root < length s.store.roots → standing_at s.store.standings root ≡ Settled
        → IsRight (limits_at account.limits root) (fresh_scan s.store.roots root account.mailboxes told.files.rows) (ledger_at told.files root))
    by None agree = tt
    by (Some told) agree = λ root inside settled.
        subst (λ (t : Totals). IsRight (limits_at account.limits root) t (ledger_at told.files root)) (sym (agree.fresh root inside)) (agree.right root inside settled)

pub fresh_each : (states : List State) → AreOwned states → All HasFreshSums states
fresh_each states owned k d lt = fresh_one _ (owned.each k d lt)

pub no_failures : (states states' : List State) → EachContinues states states' → AreOwned states' → All HasNoneDue states → All HasRoom states'
    → HaveNoFailure (map share_of states')
no_failures states states' continues owned none room = none_due_no_failures states states' continues owned none room

-- a desk of one account fits its table
pub one_fits : (hosts : Hosts) (a : State) → length hosts.accounts ≡ 1
    → ((entry : AccountEntry) → slice_get hosts.accounts 0 ≡ Some entry → IsOpenedAs entry hosts.epoch (share_of a))
    → IsDeskOf hosts (share_of a ∷ [])
one_fits hosts a one first = record { count = sym one; each = each }
  where
    past : (xs : List AccountEntry) (k : ℕ) (entry : AccountEntry) → length xs ≡ 1 → slice_get xs (suc k) ≡ Some entry → ⊥
    past [] k entry e is = cc
    past (x ∷ []) k entry e is = cc
    past (x ∷ y ∷ xs) k entry e is = omega (arith, e)

    each : (account : ℕ) (entry : AccountEntry) → slice_get hosts.accounts account ≡ Some entry
        → IsOpenedAs entry hosts.epoch (share_at (share_of a ∷ []) account)
    each zero entry is = first entry is
    each (suc k) entry is = absurd (past hosts.accounts k entry one is)

-- a desk of three accounts fits their table
pub three_fit : (hosts : Hosts) (a b c : State) → length hosts.accounts ≡ 3
    → ((entry : AccountEntry) → slice_get hosts.accounts 0 ≡ Some entry → IsOpenedAs entry hosts.epoch (share_of a))
    → ((entry : AccountEntry) → slice_get hosts.accounts 1 ≡ Some entry → IsOpenedAs entry hosts.epoch (share_of b))
    → ((entry : AccountEntry) → slice_get hosts.accounts 2 ≡ Some entry → IsOpenedAs entry hosts.epoch (share_of c))
    → IsDeskOf hosts (share_of a ∷ share_of b ∷ share_of c ∷ [])
three_fit hosts a b c three first second third = record { count = sym three; each = each }
  where
    past : (xs : List AccountEntry) (k : ℕ) (entry : AccountEntry) → length xs ≡ 3 → slice_get xs (suc (suc (suc k))) ≡ Some entry → ⊥
    past [] k entry e is = cc
    past (x ∷ []) k entry e is = cc
    past (x ∷ y ∷ []) k entry e is = cc
    past (x ∷ y ∷ z ∷ []) k entry e is = cc
    past (x ∷ y ∷ z ∷ w ∷ xs) k entry e is = omega (arith, e)

    each : (account : ℕ) (entry : AccountEntry) → slice_get hosts.accounts account ≡ Some entry
        → IsOpenedAs entry hosts.epoch (share_at (share_of a ∷ share_of b ∷ share_of c ∷ []) account)
    each zero entry is = first entry is
    each (suc zero) entry is = second entry is
    each (suc (suc zero)) entry is = third entry is
    each (suc (suc (suc k))) entry is = absurd (past hosts.accounts k entry three is)

-- after a session, a desk that fitted its table fits it still
fits_after_log : (hosts : Hosts) (shares shares' : List Share) (log : List (DeskCall × Answer)) → IsDeskOf hosts shares → IsLog shares shares' log → IsDeskOf hosts shares'
fits_after_log hosts shares shares' log fits logged = record { count = logged.count ∙ fits.count; each = each }
  where
    each : (account : ℕ) (entry : AccountEntry) → slice_get hosts.accounts account ≡ Some entry → IsOpenedAs entry hosts.epoch (share_at shares' account)
    each account entry is =
        let opened = fits.each account entry is in
        let same = (logged.each account).origin in
        record { roots = ap (λ (o : Origin). o.roots) same ∙ opened.roots; journal = ap (λ (o : Origin). o.journal) same ∙ opened.journal; epoch_is = ap (λ (o : Origin). o.epoch) same ∙ opened.epoch_is }

pub desk_stays : (hosts : Hosts) (front : Front) (shares shares' : List Share) (left left' written written' : Option (List ℕ)) (end : SessionEnd)
    → IsDeskOf hosts shares → IsSessionOf hosts front (IsLog shares shares') left left' written written' end → IsDeskOf hosts shares'
desk_stays hosts Imap shares shares' left left' written written' end fits s = fits_after_log hosts shares shares' s.log fits s.logged
desk_stays hosts (ImapAs n) shares shares' left left' written written' end fits s = fits_after_log hosts shares shares' s.log fits s.logged
desk_stays hosts Policy shares shares' left left' written written' end fits s = fits_after_log hosts shares shares' s.log fits s.logged
