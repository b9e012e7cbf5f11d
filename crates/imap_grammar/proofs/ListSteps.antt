-- Lists, flags and the other arguments, when more bytes come after the text.
use Rattle.std.proofs.Common.{◌≡◌, ℕ, zero, suc, ◌+◌, ◌<◌, ◌≤◌, Bool, true, false, eqb, List, [], ◌∷◌, ◌++◌, length, Option, Some, None, refl, sym, ap, ◌∙◌, subst, arith, length-append, if◌then◌else◌}
use Rattle.quota_units.specs.declared.flags.Flags.{Flags}
use Rattle.quota_units.specs.Resources.{resource_of}
use Rattle.imap_grammar.specs.Reading.{Reading, Reader, got, wrong, short, marked, and_then, ◌>>=◌, gives, byte}
use Rattle.imap_grammar.specs.Numbers.{number}
use Rattle.imap_grammar.specs.Literals.{marker}
use Rattle.imap_grammar.specs.Astrings.{plain, inside}
use Rattle.imap_grammar.specs.Lists.{next_item, with_others, more_items, items_after, some_items, any_items}
use Rattle.imap_grammar.specs.LimitLists.{asked_limit, limits_closed}
use Rattle.imap_grammar.specs.StatusItems.{item_of, status_item, status_items}
use Rattle.imap_grammar.specs.SystemFlags.{letter_of, flags_of}
use Rattle.imap_grammar.specs.AppendArguments.{flag, any_flags, date, message_marker, date_and_marker, dated_marker, flags_and_marker, flagged_marker}
use Rattle.imap_grammar.proofs.Growing.{Within, Pending, GoesOn, Steady, got_on, wrong_on, short_on, if_on, after, within_if, within_steady, within_after, steady_then, steady_byte, steady_gives, steady_fails}
use Rattle.imap_grammar.proofs.Lined.{IsLined, EndsOn, Lined, short_ends, if_ends, ends_after, lined_after, lined_then, lined_gives}
use Rattle.imap_grammar.proofs.LiteralSteps.{steady_plain, steady_inside, steady_number, lined_marker}

-- something was read
abbrev Shortens : {A : Type 0} → List ℕ → Reading A → Type 0
Shortens text (got value rest) = length rest < length text
Shortens text (wrong rest) = Unit {0}
Shortens text short = Unit {0}
Shortens text (marked count) = Unit {0}

module _ {A : Type 0} (item : Reader A) (steady : Steady item) where
  steady_some : Steady (item >>= (λ own. gives (Some own)))
  steady_some = steady_then item (λ own. gives (Some own)) steady (λ own. steady_gives (Some own))

  within_next : (text : List ℕ) → Within text (next_item item text)
  within_next [] = tt
  within_next (b ∷ bs) =
      within_if (b ∷ bs) (eqb b 41) (got None bs) (if eqb b 32 then (item >>= (λ own. gives (Some own))) bs else wrong (b ∷ bs)) (b ∷ [], refl)
      (within_if (b ∷ bs) (eqb b 32) ((item >>= (λ own. gives (Some own))) bs) (wrong (b ∷ bs))
      (within_after (b ∷ []) bs ((item >>= (λ own. gives (Some own))) bs) (within_steady (item >>= (λ own. gives (Some own))) steady_some bs)) ([], refl))

  next_on : (text more : List ℕ) → GoesOn text more (next_item item text) (next_item item (text ++ more))
  next_on [] more = short_on [] more (next_item item more) (within_next more)
  next_on (b ∷ bs) more =
      if_on (b ∷ bs) more (eqb b 41) (got None bs) (if eqb b 32 then (item >>= (λ own. gives (Some own))) bs else wrong (b ∷ bs))
      (got None (bs ++ more)) (if eqb b 32 then (item >>= (λ own. gives (Some own))) (bs ++ more) else wrong (b ∷ (bs ++ more)))
      (λ e. got_on (b ∷ bs) more (b ∷ []) bs None refl)
      (λ e. if_on (b ∷ bs) more (eqb b 32) ((item >>= (λ own. gives (Some own))) bs) (wrong (b ∷ bs)) ((item >>= (λ own. gives (Some own))) (bs ++ more)) (wrong (b ∷ (bs ++ more)))
      (λ f. after (b ∷ []) bs more ((item >>= (λ own. gives (Some own))) bs) ((item >>= (λ own. gives (Some own))) (bs ++ more)) (steady_some.goes_on bs more))
      (λ f. wrong_on (b ∷ bs) more [] (b ∷ bs) refl))

  steady_next : Steady (next_item item)
  steady_next = record { idle = tt; goes_on = next_on }

  steady_others : (others : Reader (List A)) → Steady others → (own : Option A) → Steady (with_others others own)
  steady_others others rest None = steady_gives []
  steady_others others rest (Some own) = steady_then others (λ items. gives (own ∷ items)) rest (λ items. steady_gives (own ∷ items))

  steady_more : (rounds : ℕ) → Steady (more_items item rounds)
  steady_more zero = steady_fails
  steady_more (suc rounds) = steady_then (next_item item) (with_others (more_items item rounds)) steady_next (steady_others (more_items item rounds) (steady_more rounds))

  -- each item takes a byte, so more rounds than bytes change nothing
  shortens_next : (text : List ℕ) → Shortens text (next_item item text)
  shortens_next [] = tt
  shortens_next (b ∷ bs) = go (eqb b 41) (eqb b 32)
    where
      some : (now : Reading (Option A)) → Within bs now → Shortens (b ∷ bs) now
      some (got v rest) w = let sized : length bs ≡ length w.0 + length rest = ap length w.1 ∙ length-append w.0 rest in omega (arith, sized)
      some (wrong rest) w = tt
      some short w = tt
      some (marked count) w = tt

      go : (c d : Bool) → Shortens (b ∷ bs) (if c then got None bs else if d then (item >>= (λ own. gives (Some own))) bs else wrong (b ∷ bs))
      go true d = omega arith
      go false true = some ((item >>= (λ own. gives (Some own))) bs) (within_steady (item >>= (λ own. gives (Some own))) steady_some bs)
      go false false = tt

  enough_rounds : (m n : ℕ) (text : List ℕ) → length text ≤ m → length text ≤ n → more_items item m text ≡ more_items item n text
  enough_rounds zero zero text le le' = refl
  enough_rounds zero (suc n) [] le le' = refl
  enough_rounds zero (suc n) (b ∷ bs) le le' = absurd (omega (arith, le))
  enough_rounds (suc m) zero [] le le' = refl
  enough_rounds (suc m) zero (b ∷ bs) le le' = absurd (omega (arith, le'))
  enough_rounds (suc m) (suc n) text le le' = go (next_item item text) (shortens_next text) (λ rest lt. enough_rounds m n rest (omega (arith, lt, le)) (omega (arith, lt, le')))
    where
      others : (own : Option A) (rest : List ℕ) → more_items item m rest ≡ more_items item n rest → with_others (more_items item m) own rest ≡ with_others (more_items item n) own rest
      others None rest e = refl
      others (Some own) rest e = ap (λ r. and_then r (λ items. gives (own ∷ items))) e

      go : (now : Reading (Option A)) → Shortens text now → ((rest : List ℕ) → length rest < length text → more_items item m rest ≡ more_items item n rest)
          → and_then now (with_others (more_items item m)) ≡ and_then now (with_others (more_items item n))
      go (got own rest) lt below = others own rest (below rest lt)
      go (wrong rest) lt below = refl
      go short lt below = refl
      go (marked count) lt below = refl

  steady_after : Steady (items_after item)
  steady_after = record {
    idle = tt;
    goes_on = λ text more.
        let sized : length (text ++ more) ≡ length text + length more = length-append text more in
        subst (λ r. GoesOn text more r (more_items item (length (text ++ more)) (text ++ more)))
        (enough_rounds (length (text ++ more)) (length text) text (omega (arith, sized)) (omega arith)) ((steady_more (length (text ++ more))).goes_on text more);
  }

  pub steady_items : Steady (some_items item)
  steady_items =
      steady_then item (λ first. items_after item >>= (λ others. gives (first ∷ others))) steady
      (λ first. steady_then (items_after item) (λ others. gives (first ∷ others)) steady_after (λ others. steady_gives (first ∷ others)))

  within_any : (text : List ℕ) → Within text (any_items item text)
  within_any [] = tt
  within_any (b ∷ bs) = within_if (b ∷ bs) (eqb b 41) (got [] bs) (some_items item (b ∷ bs)) (b ∷ [], refl) (within_steady (some_items item) steady_items (b ∷ bs))

  any_on : (text more : List ℕ) → GoesOn text more (any_items item text) (any_items item (text ++ more))
  any_on [] more = short_on [] more (any_items item more) (within_any more)
  any_on (b ∷ bs) more =
      if_on (b ∷ bs) more (eqb b 41) (got [] bs) (some_items item (b ∷ bs)) (got [] (bs ++ more)) (some_items item (b ∷ (bs ++ more)))
      (λ e. got_on (b ∷ bs) more (b ∷ []) bs [] refl) (λ e. steady_items.goes_on (b ∷ bs) more)

  pub steady_any : Steady (any_items item)
  steady_any = record { idle = tt; goes_on = any_on }

-- limits
steady_asked : Steady asked_limit
steady_asked =
    steady_then plain (λ name. byte 32 >>= (λ space. number >>= (λ limit. gives (record { resource = resource_of name; limit = limit })))) steady_plain
    (λ name. steady_then (byte 32) (λ space. number >>= (λ limit. gives (record { resource = resource_of name; limit = limit }))) (steady_byte 32)
    (λ space. steady_then number (λ limit. gives (record { resource = resource_of name; limit = limit })) steady_number (λ limit. steady_gives (record { resource = resource_of name; limit = limit }))))

pub steady_limits : Steady limits_closed
steady_limits = steady_any asked_limit steady_asked

-- items of STATUS
pub steady_status : Steady status_items
steady_status = steady_items status_item (steady_then plain (λ name. gives (item_of name)) steady_plain (λ name. steady_gives (item_of name)))

-- flags
steady_letter : Steady (plain >>= (λ name. gives (letter_of name)))
steady_letter = steady_then plain (λ name. gives (letter_of name)) steady_plain (λ name. steady_gives (letter_of name))

steady_word : Steady {A = Option ℕ} (plain >>= (λ name. gives None))
steady_word = steady_then plain (λ name. gives None) steady_plain (λ name. steady_gives None)

within_flag : (text : List ℕ) → Within text (flag text)
within_flag [] = tt
within_flag (b ∷ bs) =
    within_if (b ∷ bs) (eqb b 92) ((plain >>= (λ name. gives (letter_of name))) bs) ((plain >>= (λ name. gives None)) (b ∷ bs))
    (within_after (b ∷ []) bs ((plain >>= (λ name. gives (letter_of name))) bs) (within_steady (plain >>= (λ name. gives (letter_of name))) steady_letter bs))
    (within_steady (plain >>= (λ name. gives None)) steady_word (b ∷ bs))

flag_on : (text more : List ℕ) → GoesOn text more (flag text) (flag (text ++ more))
flag_on [] more = short_on [] more (flag more) (within_flag more)
flag_on (b ∷ bs) more =
    if_on (b ∷ bs) more (eqb b 92) ((plain >>= (λ name. gives (letter_of name))) bs) ((plain >>= (λ name. gives None)) (b ∷ bs))
    ((plain >>= (λ name. gives (letter_of name))) (bs ++ more)) ((plain >>= (λ name. gives None)) (b ∷ (bs ++ more)))
    (λ e. after (b ∷ []) bs more ((plain >>= (λ name. gives (letter_of name))) bs) ((plain >>= (λ name. gives (letter_of name))) (bs ++ more)) (steady_letter.goes_on bs more))
    (λ e. steady_word.goes_on (b ∷ bs) more)

steady_flag : Steady flag
steady_flag = record { idle = tt; goes_on = flag_on }

steady_flags : Steady any_flags
steady_flags = steady_then (any_items flag) (λ letters. gives (flags_of letters)) (steady_any flag steady_flag) (λ letters. steady_gives (flags_of letters))

-- what comes before a message
lined_message : Lined message_marker
lined_message = lined_then (byte 123) (λ opening. marker) (steady_byte 123) (λ opening. lined_marker)

lined_date : Lined date_and_marker
lined_date =
    lined_then date (λ own. byte 32 >>= (λ space. message_marker)) (steady_then (inside false) (λ value. gives tt) steady_inside (λ value. steady_gives tt))
    (λ own. lined_then (byte 32) (λ space. message_marker) (steady_byte 32) (λ space. lined_message))

-- a reader that chooses by the first byte of the text
module _ {A : Type 0} (wanted : ℕ) (one other : Reader A) (lined_one : Lined one) (lined_other : Lined other) where
  abbrev chosen : Reader A
  chosen [] = short
  chosen (b ∷ bs) = if eqb b wanted then one bs else other (b ∷ bs)

  chosen_within : (text : List ℕ) → Within text (chosen text)
  chosen_within [] = tt
  chosen_within (b ∷ bs) =
      within_if (b ∷ bs) (eqb b wanted) (one bs) (other (b ∷ bs)) (within_after (b ∷ []) bs (one bs) (within_steady one lined_one.steady bs)) (within_steady other lined_other.steady (b ∷ bs))

  chosen_on : (text more : List ℕ) → GoesOn text more (chosen text) (chosen (text ++ more))
  chosen_on [] more = short_on [] more (chosen more) (chosen_within more)
  chosen_on (b ∷ bs) more =
      if_on (b ∷ bs) more (eqb b wanted) (one bs) (other (b ∷ bs)) (one (bs ++ more)) (other (b ∷ (bs ++ more)))
      (λ e. after (b ∷ []) bs more (one bs) (one (bs ++ more)) (lined_one.steady.goes_on bs more)) (λ e. lined_other.steady.goes_on (b ∷ bs) more)

  chosen_lined : (text : List ℕ) → IsLined text (chosen text)
  chosen_lined [] = tt
  chosen_lined (b ∷ bs) = go (eqb b wanted)
    where
      go : (c : Bool) → IsLined (b ∷ bs) (if c then one bs else other (b ∷ bs))
      go true = lined_after (b ∷ []) bs (one bs) (lined_one.ends_on bs []).lined
      go false = (lined_other.ends_on (b ∷ bs) []).lined

  chosen_ends : (text more : List ℕ) → EndsOn text more (chosen text) (chosen (text ++ more))
  chosen_ends [] more = short_ends [] more (chosen more) (chosen_lined more)
  chosen_ends (b ∷ bs) more =
      if_ends (b ∷ bs) more (eqb b wanted) (one bs) (other (b ∷ bs)) (one (bs ++ more)) (other (b ∷ (bs ++ more)))
      (λ e. ends_after (b ∷ []) bs more (one bs) (one (bs ++ more)) (lined_one.ends_on bs more)) (λ e. lined_other.ends_on (b ∷ bs) more)

  lined_chosen : Lined chosen
  lined_chosen = record { steady = record { idle = tt; goes_on = chosen_on }; starts = refl; ends_on = chosen_ends }

-- two readers that read alike
lined_same : {A : Type 0} (one other : Reader A) → ((text : List ℕ) → one text ≡ other text) → Lined one → Lined other
lined_same one other same l = record {
  steady = record {
    idle = subst (λ r. Pending r) (same []) l.steady.idle;
    goes_on = λ text more. subst (λ r. GoesOn text more r (other (text ++ more))) (same text) (subst (λ r. GoesOn text more (one text) r) (same (text ++ more)) (l.steady.goes_on text more));
  };
  starts = sym (same []) ∙ l.starts;
  ends_on = λ text more. subst (λ r. EndsOn text more r (other (text ++ more))) (same text) (subst (λ r. EndsOn text more (one text) r) (same (text ++ more)) (l.ends_on text more));
}

lined_dated : Lined dated_marker
lined_dated = lined_same (chosen 34 date_and_marker message_marker lined_date lined_message) dated_marker same (lined_chosen 34 date_and_marker message_marker lined_date lined_message)
  where
    same : (text : List ℕ) → chosen 34 date_and_marker message_marker lined_date lined_message text ≡ dated_marker text
    same [] = refl
    same (b ∷ bs) = refl

lined_flags : Lined flags_and_marker
lined_flags =
    lined_then any_flags (λ flags. byte 32 >>= (λ space. dated_marker >>= (λ size. gives (flags, size)))) steady_flags
    (λ flags. lined_then (byte 32) (λ space. dated_marker >>= (λ size. gives (flags, size))) (steady_byte 32) (λ space. lined_gives dated_marker (λ size. (flags, size)) lined_dated))

lined_unflagged : Lined {A = Flags × ℕ} (dated_marker >>= (λ size. gives (flags_of [], size)))
lined_unflagged = lined_gives dated_marker (λ size. (flags_of [], size)) lined_dated

pub lined_flagged : Lined flagged_marker
lined_flagged =
    lined_same (chosen 40 flags_and_marker (dated_marker >>= (λ size. gives (flags_of [], size))) lined_flags lined_unflagged) flagged_marker same
    (lined_chosen 40 flags_and_marker (dated_marker >>= (λ size. gives (flags_of [], size))) lined_flags lined_unflagged)
  where
    same : (text : List ℕ) → chosen 40 flags_and_marker (dated_marker >>= (λ size. gives (flags_of [], size))) lined_flags lined_unflagged text ≡ flagged_marker text
    same [] = refl
    same (b ∷ bs) = refl
