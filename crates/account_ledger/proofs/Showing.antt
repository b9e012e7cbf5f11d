-- Which account a live account stands for, before and after.
use Rattle.std.proofs.Common.{◌≡◌, ℕ, ◌≤◌, List, Option, Some, None, refl, sym, ◌∙◌, subst, arith}
use Rattle.std.specs.Prelude.{IfSome, Result, Ok, Err}
use Rattle.keeper.specs.Files.{Files, ledger_at}
use Rattle.keeper.specs.Calls.{Told, Changes}
use Rattle.admission.specs.Fitting.{limits_at}
use Rattle.account_core.specs.Account.{Account}
use Rattle.root_ledgers.specs.declared.book.Book.{Book}
use Rattle.root_ledgers.specs.Ledgers.{IsRight}
use Rattle.root_ledgers.specs.Settling.{book_at, no_book, standings_of, lengths_of}
use Rattle.account_ledger.specs.Messages.{how_many}
use Rattle.account_ledger.specs.Stores.{Agree, Agrees, standing_at, length_at, usage_at}
use Rattle.account_ledger.specs.Lives.{Live, StandsIfTold, IsShown, IsWhole, Shows, Stands, store_of}
use Rattle.account_ledger.proofs.UsageLemmas.{IsBounded, fresh_is_usage}
use Rattle.std.proofs.Math.ListN.{get_or-map}

pub bounded_of : (l : Live) (account : Account) → Shows l account → IsBounded account
bounded_of l account shows =
    let o = shows.orderly.octets in
    let k = shows.orderly.count in
    let f = shows.few in
    (omega arith, omega arith)

some_is : {X : Type 0} {x y : X} → Some x ≡ Some y → x ≡ y
some_is e = cc

-- what was told is told still
pub told_then : (R : Told → Told → Type 0) (t t' : Option Told) (x : Told) → t ≡ Some x → Changes R t t' → (y : Told) × (t' ≡ Some y) × R x y
told_then R None None x is changes = absurd (cc)
told_then R None (Some b) x is changes = absurd (cc)
told_then R (Some a) None x is changes = absurd changes
told_then R (Some a) (Some b) x is changes = (b, refl, subst (λ z. R z b) (some_is is) changes)

pub shows_then : (R : Told → Told → Type 0) (l m : Live) (account : Account) → Shows l account → IsWhole m → Changes R l.told m.told → StandsIfTold m account → Shows m account
shows_then R l m account shows whole changes is =
    let w = told_then R l.told m.told shows.told shows.is_told changes in
    record {
      told = w.0;
      is_told = w.1;
      whole = whole;
      stands = subst (λ o. IfSome o (λ told. Stands m account told.files)) w.1 is;
      entries = shows.entries;
      few = shows.few;
      orderly = shows.orderly;
    }

-- what is known of what is told
pub known : (l : Live) (account : Account) (Q : Told → Type 0) (shows : Shows l account) → IfSome l.told Q → Q shows.told
known l account Q shows fact = subst (λ o. IfSome o Q) shows.is_told fact

pub of_told : (l : Live) (account : Account) (Q : Told → Type 0) (shows : Shows l account) → Q shows.told → IfSome l.told Q
of_told l account Q shows fact = subst (λ o. IfSome o Q) (sym shows.is_told) fact

pub after_told : (R : Told → Told → Type 0) (t t' : Option Told) (x : Told) (Q : Told → Type 0) → t ≡ Some x → Changes R t t' → ((y : Told) → R x y → Q y) → IfSome t' Q
after_told R t t' x Q is changes fact = let w = told_then R t t' x is changes in subst (λ o. IfSome o Q) (sym w.1) (fact w.0 w.2)

-- what holds of what is told for whatever account is shown
pub of_shown : (l : Live) (Q : Told → Type 0) → ((account : Account) (shows : Shows l account) → Q shows.told) → IsShown l → IfSome l.told Q
of_shown l Q fact shown = by l.told refl shown
  where
    by : (o : Option Told) → l.told ≡ o → IfSome o (λ told. (account : Account) × Shows l account) → IfSome o Q
    by None is given = tt
    by (Some t) is given = subst Q (some_is (sym given.1.is_told ∙ is)) (fact given.0 given.1)

pub shown_then : (R : Told → Told → Type 0) (l m : Live) → IsShown l → IsWhole m → Changes R l.told m.told → ((account : Account) → Shows l account → StandsIfTold m account) → IsShown m
shown_then R l m shown whole changes stands = by l.told m.told refl shown changes
  where
    by : (o p : Option Told) → l.told ≡ o → IfSome o (λ told. (account : Account) × Shows l account) → Changes R o p → IfSome p (λ told. (account : Account) × Shows m account)
    by None None is given moved = tt
    by None (Some b) is given moved = absurd moved
    by (Some a) None is given moved = absurd moved
    by (Some a) (Some b) is given moved = (given.0, shows_then R l m given.0 given.1 whole changes (stands given.0 given.1))

-- what clauses see
pub standing_of : (books : List Book) (root : ℕ) → standing_at (standings_of books) root ≡ (book_at books root).standing
standing_of books root = get_or-map (λ (b : Book). b.standing) books root no_book

pub length_of : (books : List Book) (root : ℕ) → length_at (lengths_of books) root ≡ (book_at books root).length
length_of books root = get_or-map (λ (b : Book). b.length) books root no_book

agree_stands : (l : Live) (account : Account) (files : Files) → Stands l account files → ((mailbox base : List ℕ) → how_many mailbox base account.messages ≤ 1) → Agree (store_of l) account files
agree_stands l account files stands apart = record {
  stand = stands.stand;
  fresh = λ root inside. fresh_is_usage l.roots root inside account account.mailboxes files.rows refl stands.stand;
  apart = apart;
  right = λ root inside settled.
      subst (λ all. IsRight (limits_at all root) (usage_at l.roots root account) (ledger_at files root)) (sym stands.limits_are)
      (stands.kept root inside (sym (standing_of l.books root) ∙ settled)).right;
  long = λ root inside settled. length_of l.books root ∙ (stands.kept root inside (sym (standing_of l.books root) ∙ settled)).long;
}

pub agree_of : (l : Live) (account : Account) → Shows l account → IfSome l.told (λ told. Agree (store_of l) account told.files)
agree_of l account shows =
    of_told l account (λ told. Agree (store_of l) account told.files) shows
    (agree_stands l account shows.told.files shows.stands shows.orderly.apart)

-- what is known of one live account is known of another that stands for the same
pub agrees_then : (R : Told → Told → Type 0) (l m : Live) → IsWhole m → Changes R l.told m.told → ((account : Account) → Shows l account → StandsIfTold m account) → Agrees (Shows l) (store_of m)
agrees_then R l m whole changes stands account shows = agree_of m account (shows_then R l m account shows whole changes (stands account shows))

pub ok_is_no_err : {A B : Type 0} {x : A} {y : B} → (let r : Result A B = Ok x in r) ≡ Err y → ⊥
ok_is_no_err e = absurd (cc)
