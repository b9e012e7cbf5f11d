-- The desk of the accounts of a table, just opened, and the statuses of refusals.
use Rattle.std.proofs.Common.{◌≡◌, ◌≢◌, ◌⊎◌, ℕ, zero, suc, List, [], ◌∷◌, map, length, Option, Some, refl, sym, ◌∙◌, subst, inl, inr, arith}
use Rattle.std.specs.List.{All, AllZip, slice_get}
use Rattle.quota_units.specs.Causes.{HasCause}
use Rattle.account_opening.specs.declared.error.OpenError.{OpenError}
use Rattle.account_opening.specs.declared.error.OpenError.TheVariants.{Store, TooManyMessages, DoubleName, EpochUsed, NoMemory}
use Rattle.wire_io.specs.declared.ends.SessionEnd.{SessionEnd}
use Rattle.wire_io.specs.declared.ends.SessionEnd.TheVariants.{Closed, Stopped, Truncated, InputLimit, ReadFault, WriteFault, NoMemory as SessionNoMemory}
use Rattle.account_ledger.specs.States.{State}
use Rattle.accounts_file.specs.declared.error.AccountsError.{AccountsError}
use Rattle.accounts_file.specs.declared.error.AccountsError.TheVariants.{NotToml, Missing, BadValue, Double, TooMany, NoMemory as FileNoMemory}
use Rattle.accounts_file.specs.declared.entry.AccountEntry.{AccountEntry}
use Rattle.accounts_file.specs.Hosts.{Hosts}
use Rattle.desk.specs.Shares.{share_at}
use Rattle.host_opening.specs.Opening.{WasOpened}
use Rattle.plain_desk.specs.Owning.{IsFresh, share_of}
use Rattle.front_core.specs.Desks.{IsDeskOf, IsOpenedAs}
use Rattle.quotactl.specs.Ends.{exit_status}
use Rattle.quotactl.specs.Lines.{MayEndWith, cut_short, file_status, in_full, opening_status}

-- lists that agree item by item are equally long
pub as_many : {A B : Type 0} (R : A → B → Type 0) (xs : List A) (ys : List B) → AllZip R xs ys → length ys ≡ length xs
as_many R [] [] zipped = refl
as_many R [] (y ∷ ys) zipped = absurd zipped
as_many R (x ∷ xs) [] zipped = absurd zipped
as_many R (x ∷ xs) (y ∷ ys) zipped = let rest : length ys ≡ length xs = as_many R xs ys zipped.1 in omega (arith, rest)

-- accounts that were just opened have empty histories
pub all_fresh : (epoch : ℕ) (entries : List AccountEntry) (states : List State) → AllZip (WasOpened epoch) entries states → All IsFresh states
all_fresh epoch [] [] zipped k d lt = absurd (omega (arith, lt))
all_fresh epoch [] (s ∷ states) zipped k d lt = absurd zipped
all_fresh epoch (entry ∷ entries) [] zipped k d lt = absurd zipped
all_fresh epoch (entry ∷ entries) (s ∷ states) zipped zero d lt = zipped.0.1.opened.history
all_fresh epoch (entry ∷ entries) (s ∷ states) zipped (suc k) d lt = all_fresh epoch entries states zipped.1 k d (omega (arith, lt))

-- they are a desk of the table
pub opened_desk : (hosts : Hosts) (states : List State) → AllZip (WasOpened hosts.epoch) hosts.accounts states → IsDeskOf hosts (map share_of states)
opened_desk hosts states zipped = record { count = count hosts.accounts states zipped; each = each hosts.accounts states zipped }
  where
    count : (entries : List AccountEntry) (all : List State) → AllZip (WasOpened hosts.epoch) entries all → length (map share_of all) ≡ length entries
    count [] [] z = refl
    count [] (s ∷ all) z = absurd z
    count (entry ∷ entries) [] z = absurd z
    count (entry ∷ entries) (s ∷ all) z = let rest : length (map share_of all) ≡ length entries = count entries all z.1 in omega (arith, rest)

    each : (entries : List AccountEntry) (all : List State) → AllZip (WasOpened hosts.epoch) entries all
        → (account : ℕ) (entry : AccountEntry) → slice_get entries account ≡ Some entry → IsOpenedAs entry hosts.epoch (share_at (map share_of all) account)
    each [] [] z account entry at = absurd cc
    each [] (s ∷ all) z account entry at = absurd z
    each (first ∷ entries) [] z account entry at = absurd z
    each (first ∷ entries) (s ∷ all) z zero entry at =
        let same : first ≡ entry = cc in
        subst (λ (x : AccountEntry). IsOpenedAs x hosts.epoch (share_of s)) same (record { roots = z.0.1.opened.roots; journal = z.0.1.opened.journal; epoch_is = z.0.1.opened.epoch_is })
    each (first ∷ entries) (s ∷ all) z (suc account) entry at = each entries all z.1 account entry at

-- a line ends with its own status, or with that of a failed write, or with that of no memory
pub three_statuses : (written written' : Option (List ℕ)) (line : List ℕ) (own status : ℕ) → MayEndWith written written' line own status → (status ≡ own) ⊎ ((status ≡ 5) ⊎ (status ≡ 6))
three_statuses written written' line own status (inl (in_full appended is)) = inl is
three_statuses written written' line own status (inl (cut_short part is)) = inr (inl is)
three_statuses written written' line own status (inr (kept, is)) = inr (inr is)

-- nothing was read before a line, so no read failed
pub not_read : (faults own status : ℕ) → (status ≡ own) ⊎ ((status ≡ 5) ⊎ (status ≡ 6)) → own ≢ 4 → HasCause (status ≡ 4) faults faults
not_read faults own status which other = record {
  later = omega arith;
  rose = λ four. absurd (elim which [ inl is ↦ other (sym is ∙ four) | inr rest ↦ elim rest [ inl five ↦ omega (arith, five, four) | inr six ↦ omega (arith, six, four) ] ]);
  kept = λ no. refl;
}

-- status 7 is that of a failed store alone
pub of_seven : (cause : OpenError) (status : ℕ) → (status ≡ opening_status cause) ⊎ ((status ≡ 5) ⊎ (status ≡ 6)) → status ≡ 7 → cause ≡ Store
of_seven cause status (inl is) seven = by cause (sym is ∙ seven)
  where
    by : (c : OpenError) → opening_status c ≡ 7 → c ≡ Store
    by Store e = refl
    by (TooManyMessages found) e = absurd (omega (arith, e))
    by (DoubleName name) e = absurd (omega (arith, e))
    by (EpochUsed name) e = absurd (omega (arith, e))
    by NoMemory e = absurd (omega (arith, e))
of_seven cause status (inr (inl five)) seven = absurd (omega (arith, five, seven))
of_seven cause status (inr (inr six)) seven = absurd (omega (arith, six, seven))

pub not_four : (cause : OpenError) → opening_status cause ≢ 4
not_four Store e = omega (arith, e)
not_four (TooManyMessages found) e = omega (arith, e)
not_four (DoubleName name) e = omega (arith, e)
not_four (EpochUsed name) e = omega (arith, e)
not_four NoMemory e = omega (arith, e)

-- a session ends with none of the statuses of the stores
pub no_seven : (end : SessionEnd) → exit_status end ≢ 7
no_seven Closed e = omega (arith, e)
no_seven Stopped e = omega (arith, e)
no_seven (Truncated at) e = omega (arith, e)
no_seven InputLimit e = omega (arith, e)
no_seven ReadFault e = omega (arith, e)
no_seven WriteFault e = omega (arith, e)
no_seven SessionNoMemory e = omega (arith, e)

-- a refused file has the status 2, or 6 if memory ran out
pub two_or_six : (fault : AccountsError) → (file_status fault ≡ 2) ⊎ (file_status fault ≡ 6)
two_or_six NotToml = inl refl
two_or_six (Missing key) = inl refl
two_or_six (BadValue key) = inl refl
two_or_six (Double name) = inl refl
two_or_six (TooMany key) = inl refl
two_or_six FileNoMemory = inr refl

pub file_not_four : (fault : AccountsError) → file_status fault ≢ 4
file_not_four fault e = elim (two_or_six fault) [ inl two ↦ omega (arith, two, e) | inr six ↦ omega (arith, six, e) ]

pub file_not_seven : (fault : AccountsError) (status : ℕ) → (status ≡ file_status fault) ⊎ ((status ≡ 5) ⊎ (status ≡ 6)) → status ≢ 7
file_not_seven fault status (inl is) e = elim (two_or_six fault) [ inl two ↦ omega (arith, is, two, e) | inr six ↦ omega (arith, is, six, e) ]
file_not_seven fault status (inr (inl five)) e = omega (arith, five, e)
file_not_seven fault status (inr (inr six)) e = omega (arith, six, e)
