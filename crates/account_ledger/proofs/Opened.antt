-- An account that was just opened is in order.
use Rattle.std.proofs.Common.{◌≡◌, ◌⊎◌, ℕ, ◌+◌, ◌*◌, ◌≤◌, ◌-◌, Bool, true, false, not, cond, ◌&&◌, ◌||◌, nat_lt, nat_eq, List, [], ◌∷◌, ◌++◌, length, take, map, find, codes, Option, Some, None, refl, sym, ap, ◌∙◌, subst, inl, inr, arith, sum_by, bytes_eq}
use Rattle.std.specs.List.{list_any, starts_with, ends_with}
use Rattle.std.specs.Cmp.Lexicographic.{pointwise}
use Rattle.std.specs.Fmt.{decimal}
use Rattle.std.specs.Option.{option_map, option_or}
use Rattle.std.proofs.lemmas.Bool.{false≢true, and_parts}
use Rattle.std.proofs.lemmas.Bool.Decides.{nat_tests}
use Rattle.std.proofs.lemmas.List.{take_at, drop_at, append_assoc, length-append}
use Rattle.std.proofs.lemmas.List.Sums.{sum_by-cons, sum_by-append}
use Rattle.std.proofs.lemmas.Slice.Eq.{bytes_eq-Decides}
use Rattle.quota_units.specs.Limiting.{LimitNumbers}
use Rattle.quota_roots.specs.Setups.{IsSound, are_different}
use Rattle.quota_roots.specs.declared.setup.Setup.{Setup}
use Rattle.keeper.specs.Files.{Files, Row, listed}
use Rattle.keeper.specs.declared.rows.FileRow.{FileRow}
use Rattle.message_names.specs.Messages.{octets_of}
use Rattle.message_names.specs.Sizes.{size_or, size_named}
use Rattle.message_names.specs.Parts.{unique_of}
use Rattle.account_core.specs.Account.{Message}
use Rattle.account_core.specs.Delivering.{delivered_base}
use Rattle.root_ledgers.specs.declared.book.Book.{Book}
use Rattle.root_ledgers.specs.declared.book.Standing.TheVariants.{Settled, Doubt}
use Rattle.account_ledger.specs.Messages.{message_in, messages_of, messages_in, is_message, how_many}
use Rattle.root_ledgers.specs.Settling.{book_at}
use Rattle.account_ledger.specs.Opening.{opening_account}
use Rattle.account_opening.specs.Limits.{opening_limits}
use Rattle.account_opening.specs.Bases.{listings, how_many_files, base_in, times_in, double_in, first_double, is_of_epoch, used_in, first_used}
use Rattle.account_opening.specs.Admitting.{CanOpen}
use Rattle.keeper.specs.Calls.{Told, Changes}
use Rattle.account_core.specs.Orderly.{IsOrderly}
use Rattle.account_ledger.specs.Lives.{Live, Stands}
use Rattle.account_ledger.specs.States.{InOrder}
use Rattle.keeper.proofs.Changing.{changes_weaken}
use Rattle.root_ledgers.proofs.Sums.{same_sums, sum_map, sum_flat_map, sum_none, sum_ones}

-- the messages are as many as the files
few_messages : (mailboxes : List (List ℕ)) (rows : List Row) → length (messages_in mailboxes rows) ≡ how_many_files (listings mailboxes rows)
few_messages mailboxes rows =
    sym (sum_ones (messages_in mailboxes rows))
    ∙ sum_flat_map (λ (m : Message). 1) (messages_of rows) mailboxes
    ∙ same_sums (λ m. sum_by (λ (x : Message). 1) (messages_of rows m)) (λ m. length (listed m rows)) mailboxes
    (λ m. sum_map (λ (x : Message). 1) (message_in m) (listed m rows) ∙ sum_ones (listed m rows))
    ∙ sym (sum_map length (λ m. listed m rows) mailboxes)

small_files : (mailbox : List ℕ) (files : List FileRow) → sum_by (λ (m : Message). m.octets) (map (message_in mailbox) files) ≤ length files * 1099511627775
small_files mailbox [] = omega arith
small_files mailbox (file ∷ files) =
    let e = sum_by-cons (λ (m : Message). m.octets) (message_in mailbox file) (map (message_in mailbox) files) in
    let rest = small_files mailbox files in
    let here : (message_in mailbox file).octets ≤ 1099511627775 = small_one file in
    omega arith
  where
    small_cut : (o : Option ℕ) (n : ℕ) → size_or o n ≤ 1099511627775
    small_cut None n = omega arith
    small_cut (Some size) n = omega arith

    small_one : (f : FileRow) → octets_of f.name f.length ≤ 1099511627775
    small_one f = small_cut (size_named (unique_of f.name)) f.length

small_messages : (mailboxes : List (List ℕ)) (rows : List Row) → sum_by (λ (m : Message). m.octets) (messages_in mailboxes rows) ≤ how_many_files (listings mailboxes rows) * 1099511627775
small_messages [] rows = omega arith
small_messages (mailbox ∷ mailboxes) rows =
    let a = sum_by-append (λ (m : Message). m.octets) (messages_of rows mailbox) (messages_in mailboxes rows) in
    let b = sum_by-cons length (listed mailbox rows) (listings mailboxes rows) in
    let here = small_files mailbox (listed mailbox rows) in
    let rest = small_messages mailboxes rows in
    omega arith

-- how many files of a listing have a base
counted_at : (mailbox base m : List ℕ) (b : Bool) → bytes_eq m mailbox ≡ b → (files : List FileRow)
    → sum_by (λ (f : FileRow). cond (bytes_eq m mailbox && bytes_eq (base_in f) base) 1 0) files ≡ cond b (times_in files base) 0
counted_at mailbox base m true is files = same_sums (λ (f : FileRow). cond (bytes_eq m mailbox && bytes_eq (base_in f) base) 1 0) (λ (f : FileRow). cond (bytes_eq (base_in f) base) 1 0) files (λ f. ap (λ (c : Bool). cond (c && bytes_eq (base_in f) base) 1 0) is)
counted_at mailbox base m false is files = same_sums (λ (f : FileRow). cond (bytes_eq m mailbox && bytes_eq (base_in f) base) 1 0) (λ (f : FileRow). 0) files (λ f. ap (λ (c : Bool). cond (c && bytes_eq (base_in f) base) 1 0) is) ∙ sum_none files

how_many_in : (mailbox base : List ℕ) (mailboxes : List (List ℕ)) (rows : List Row)
    → how_many mailbox base (messages_in mailboxes rows) ≡ sum_by (λ m. cond (bytes_eq m mailbox) (times_in (listed m rows) base) 0) mailboxes
how_many_in mailbox base mailboxes rows =
    sum_flat_map (λ (x : Message). cond (is_message mailbox base x) 1 0) (messages_of rows) mailboxes
    ∙ same_sums (λ m. sum_by (λ (x : Message). cond (is_message mailbox base x) 1 0) (messages_of rows m)) (λ m. cond (bytes_eq m mailbox) (times_in (listed m rows) base) 0) mailboxes
    (λ m. sum_map (λ (x : Message). cond (is_message mailbox base x) 1 0) (message_in m) (listed m rows) ∙ counted_at mailbox base m (bytes_eq m mailbox) refl (listed m rows))

module _ {B : Type 0} where
  or_none : (o p : Option B) → option_or o p ≡ None → (o ≡ None) × (p ≡ None)
  or_none None p none = (refl, none)
  or_none (Some b) p none = absurd (cc)

  map_none : {X : Type 0} (f : X → B) (o : Option X) → option_map f o ≡ None → o ≡ None
  map_none f None none = refl
  map_none f (Some x) none = absurd (cc)

-- where no base stands twice, each stands once at most
module _ (all : List FileRow) (base : List ℕ) where
  once : (b : Bool) (n : ℕ) → nat_lt 1 n ≡ b → b ≡ false → n ≤ 1
  once b n e f = let g : nat_lt 1 n ≡ false = e ∙ f in grind (arith, nat_tests)

  none_or_once : (files : List FileRow) → find (λ file. nat_lt 1 (times_in all (base_in file))) files ≡ None → (times_in files base ≡ 0) ⊎ (times_in all base ≤ 1)
  none_or_once [] none = inl refl
  none_or_once (file ∷ files) none =
      step (nat_lt 1 (times_in all (base_in file))) refl (bytes_eq (base_in file) base) refl none (none_or_once files)
    where
      step : (c : Bool) → nat_lt 1 (times_in all (base_in file)) ≡ c → (b : Bool) → bytes_eq (base_in file) base ≡ b
          → cond c (Some file) (find (λ f. nat_lt 1 (times_in all (base_in f))) files) ≡ None
          → (find (λ f. nat_lt 1 (times_in all (base_in f))) files ≡ None → (times_in files base ≡ 0) ⊎ (times_in all base ≤ 1))
          → (times_in (file ∷ files) base ≡ 0) ⊎ (times_in all base ≤ 1)
      step true is b same k rest = absurd (cc)
      step false is true same k rest = inr (subst (λ x. times_in all x ≤ 1) ((bytes_eq-Decides (base_in file) base).0 same) (once false (times_in all (base_in file)) is refl))
      step false is false same k rest = elim (rest k) [
        | inl zero_times ↦ inl (sum_by-cons (λ (f : FileRow). cond (bytes_eq (base_in f) base) 1 0) file files ∙ ap (λ (b : Bool). cond b 1 0 + times_in files base) same ∙ ap (λ n. 0 + n) zero_times)
        | inr few ↦ inr few
      ]

single : (files : List FileRow) (base : List ℕ) → double_in files ≡ None → times_in files base ≤ 1
single files base none = elim (none_or_once files base files (map_none base_in _ none)) [
  | inl zero_times ↦ omega (arith, zero_times)
  | inr few ↦ few
]

no_other : (mailbox m : List ℕ) (ms : List (List ℕ)) (w : List ℕ → ℕ) → bytes_eq m mailbox ≡ true → list_any (λ o. bytes_eq o m) ms ≡ false → sum_by (λ o. cond (bytes_eq o mailbox) (w o) 0) ms ≡ 0
no_other mailbox m [] w is none = refl
no_other mailbox m (o ∷ ms) w is none =
    let same : m ≡ mailbox = (bytes_eq-Decides m mailbox).0 is in
    sum_by-cons (λ k. cond (bytes_eq k mailbox) (w k) 0) o ms
    ∙ step (bytes_eq o m) refl (ap (λ k. bytes_eq o k) same) none (no_other mailbox m ms w is)
  where
    step : (b : Bool) → bytes_eq o m ≡ b → bytes_eq o m ≡ bytes_eq o mailbox → (bytes_eq o m || list_any (λ k. bytes_eq k m) ms) ≡ false
        → (list_any (λ k. bytes_eq k m) ms ≡ false → sum_by (λ k. cond (bytes_eq k mailbox) (w k) 0) ms ≡ 0)
        → cond (bytes_eq o mailbox) (w o) 0 + sum_by (λ k. cond (bytes_eq k mailbox) (w k) 0) ms ≡ 0
    step true is same any rest = absurd (false≢true (sym any ∙ ap (λ b. b || list_any (λ k. bytes_eq k m) ms) is))
    step false is same any rest =
        let r = rest (sym (ap (λ b. b || list_any (λ k. bytes_eq k m) ms) is) ∙ any) in
        ap (λ (b : Bool). cond b (w o) 0 + sum_by (λ k. cond (bytes_eq k mailbox) (w k) 0) ms) (sym same ∙ is) ∙ ap (λ n. 0 + n) r

one_at_most : (mailbox base : List ℕ) (mailboxes : List (List ℕ)) (rows : List Row) → are_different mailboxes ≡ true → first_double (listings mailboxes rows) ≡ None
    → sum_by (λ m. cond (bytes_eq m mailbox) (times_in (listed m rows) base) 0) mailboxes ≤ 1
one_at_most mailbox base [] rows different none = omega arith
one_at_most mailbox base (m ∷ mailboxes) rows different none =
    let parts = or_none (double_in (listed m rows)) (first_double (listings mailboxes rows)) none in
    let e = sum_by-cons (λ o. cond (bytes_eq o mailbox) (times_in (listed o rows) base) 0) m mailboxes in
    let apart = and_parts (not (list_any (λ o. bytes_eq o m) mailboxes)) (are_different mailboxes) different in
    subst (λ n. n ≤ 1) (sym e) (step (bytes_eq m mailbox) refl (single (listed m rows) base parts.0) (one_at_most mailbox base mailboxes rows apart.1 parts.1) (list_any (λ o. bytes_eq o m) mailboxes) refl apart.0)
  where
    step : (b : Bool) → bytes_eq m mailbox ≡ b → times_in (listed m rows) base ≤ 1 → sum_by (λ o. cond (bytes_eq o mailbox) (times_in (listed o rows) base) 0) mailboxes ≤ 1
        → (a : Bool) → list_any (λ o. bytes_eq o m) mailboxes ≡ a → not a ≡ true
        → cond b (times_in (listed m rows) base) 0 + sum_by (λ o. cond (bytes_eq o mailbox) (times_in (listed o rows) base) 0) mailboxes ≤ 1
    step true is here rest false any never = let z = no_other mailbox m mailboxes (λ o. times_in (listed o rows) base) is any in omega arith
    step true is here rest true any never = absurd (false≢true never)
    step false is here rest a any never = omega arith

same_bytes : (bytes : List ℕ) → pointwise nat_eq bytes bytes ≡ true
same_bytes [] = refl
same_bytes (b ∷ bytes) = rw (eq_same b, same_bytes bytes) refl
  where
    eq_same : (n : ℕ) → nat_eq n n ≡ true
    eq_same n = grind (arith, nat_tests)

of_epoch : (epoch number : ℕ) → is_of_epoch epoch (delivered_base epoch number) ≡ true
of_epoch epoch number =
    let prefix = decimal epoch ++ codes "." in
    let a : starts_with nat_eq (delivered_base epoch number) prefix ≡ true =
    ap (λ bs. pointwise nat_eq prefix (take (length prefix) bs)) (append_assoc prefix (decimal number) (codes ".quotad")) ∙ ap (pointwise nat_eq prefix) (take_at prefix (decimal number ++ codes ".quotad") (length prefix) refl) ∙ same_bytes prefix in
    let whole = delivered_base epoch number in
    let long : length (prefix ++ decimal number) ≡ length whole - 7 = let e = length-append (prefix ++ decimal number) (codes ".quotad") in omega arith in
    let b : ends_with nat_eq whole (codes ".quotad") ≡ true = ap (pointwise nat_eq (codes ".quotad")) (drop_at (prefix ++ decimal number) (codes ".quotad") (length whole - 7) long) ∙ same_bytes (codes ".quotad") in
    rw (a, b) refl

unused : (epoch number : ℕ) (files : List FileRow) → find (λ file. is_of_epoch epoch (base_in file)) files ≡ None → times_in files (delivered_base epoch number) ≡ 0
unused epoch number [] none = refl
unused epoch number (file ∷ files) none =
    sum_by-cons (λ (f : FileRow). cond (bytes_eq (base_in f) (delivered_base epoch number)) 1 0) file files
    ∙ step (is_of_epoch epoch (base_in file)) refl (bytes_eq (base_in file) (delivered_base epoch number)) refl none (unused epoch number files)
  where
    step : (c : Bool) → is_of_epoch epoch (base_in file) ≡ c → (b : Bool) → bytes_eq (base_in file) (delivered_base epoch number) ≡ b
        → cond c (Some file) (find (λ f. is_of_epoch epoch (base_in f)) files) ≡ None
        → (find (λ f. is_of_epoch epoch (base_in f)) files ≡ None → times_in files (delivered_base epoch number) ≡ 0)
        → cond b 1 0 + times_in files (delivered_base epoch number) ≡ 0
    step true is b same k rest = absurd (cc)
    step false is true same k rest =
        absurd (false≢true (sym is ∙ ap (is_of_epoch epoch) ((bytes_eq-Decides (base_in file) (delivered_base epoch number)).0 same) ∙ of_epoch epoch number))
    step false is false same k rest = ap (λ n. 0 + n) (rest k)

none_used : (epoch number : ℕ) (mailbox : List ℕ) (mailboxes : List (List ℕ)) (rows : List Row) → first_used epoch (listings mailboxes rows) ≡ None
    → sum_by (λ m. cond (bytes_eq m mailbox) (times_in (listed m rows) (delivered_base epoch number)) 0) mailboxes ≡ 0
none_used epoch number mailbox [] rows none = refl
none_used epoch number mailbox (m ∷ mailboxes) rows none =
    let parts = or_none (used_in epoch (listed m rows)) (first_used epoch (listings mailboxes rows)) none in
    let here = unused epoch number (listed m rows) (map_none base_in _ parts.0) in
    sum_by-cons (λ o. cond (bytes_eq o mailbox) (times_in (listed o rows) (delivered_base epoch number)) 0) m mailboxes
    ∙ ap (λ n. cond (bytes_eq m mailbox) n 0 + sum_by (λ o. cond (bytes_eq o mailbox) (times_in (listed o rows) (delivered_base epoch number)) 0) mailboxes) here
    ∙ ap (λ n. n + sum_by (λ o. cond (bytes_eq o mailbox) (times_in (listed o rows) (delivered_base epoch number)) 0) mailboxes) (neither (bytes_eq m mailbox))
    ∙ ap (λ n. 0 + n) (none_used epoch number mailbox mailboxes rows parts.1)
  where
    neither : (b : Bool) → ◌≡◌ {A = ℕ} (cond b 0 0) 0
    neither true = refl
    neither false = refl

-- the account that files make which may be opened is orderly
orderly_opened : (setup : Setup) (epoch : ℕ) (files : Files) → IsSound setup → CanOpen setup epoch files → IsOrderly 0 (opening_account setup epoch files)
orderly_opened setup epoch files sound can = record {
  octets = let a = small_messages setup.mailboxes files.rows in let b = can.few in omega arith;
  count = let a = few_messages setup.mailboxes files.rows in let b = can.few in omega arith;
  apart = λ mailbox base. subst (λ n. n ≤ 1) (sym (how_many_in mailbox base setup.mailboxes files.rows)) (one_at_most mailbox base setup.mailboxes files.rows sound.mailboxes.different can.apart);
  unused = λ number later small mailbox. how_many_in mailbox (delivered_base epoch number) setup.mailboxes files.rows ∙ none_used epoch number mailbox setup.mailboxes files.rows can.unused;
  deliveries = omega arith;
  generation = omega arith;
}

-- a live account that was just opened
abbrev pub fresh_live : Option Told → (faults appends lists : ℕ) → Setup → ℕ → List LimitNumbers → List Book → Live
fresh_live told faults appends lists setup epoch limits books = record {
  told = told;
  faults = faults;
  append_faults = appends;
  lists = lists;
  roots = setup.roots;
  mailboxes = setup.mailboxes;
  epoch = epoch;
  limits = limits;
  books = books;
  deliveries = 0;
  generation = 0;
}

stands_opened : (told : Option Told) (faults appends lists : ℕ) (setup : Setup) (epoch : ℕ) (limits : List LimitNumbers) (books : List Book) (files : Files) → limits ≡ opening_limits files setup.limits
    → ((root : ℕ) → (book_at books root).standing ≡ Doubt) → Stands (fresh_live told faults appends lists setup epoch limits books) (opening_account setup epoch files) files
stands_opened told faults appends lists setup epoch limits books files are doubt = record {
  limits_are = sym are;
  mailboxes_are = refl;
  epoch_is = refl;
  deliveries_are = refl;
  generation_is = refl;
  stand = λ weight. refl;
  kept = λ root inside settled. absurd (let e : Doubt ≡ Settled = sym (doubt root) ∙ settled in cc);
}

pub order_opened : (then now : Option Told) (first_faults faults appends lists : ℕ) (setup : Setup) (epoch : ℕ) (limits : List LimitNumbers) (books : List Book) → IsSound setup → first_faults ≤ faults
    → ((root : ℕ) → (book_at books root).standing ≡ Doubt)
    → Changes (λ x y. (limits ≡ opening_limits x.files setup.limits) × (y.files ≡ x.files) × CanOpen setup epoch x.files) then now
    → InOrder then first_faults setup setup.journal (fresh_live now faults appends lists setup epoch limits books) []
order_opened then now first_faults faults appends lists setup epoch limits books sound later doubt told = record {
  sound = sound;
  journal_is = refl;
  roots_are = refl;
  legal = record { within = omega arith; served = tt; excused = omega arith };
  delivered = omega arith;
  changed = omega arith;
  held = changes_weaken {X = Told} _ _ (λ (x y : Told) f. record {
    orderly = orderly_opened setup epoch x.files sound f.2;
    stands = subst (Stands (fresh_live now faults appends lists setup epoch limits books) (opening_account setup epoch x.files)) (sym f.1) (stands_opened now faults appends lists setup epoch limits books x.files f.0 doubt);
  }) then now told;
}
