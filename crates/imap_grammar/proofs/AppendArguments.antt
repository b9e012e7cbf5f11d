-- What follows the mailbox of APPEND: what is read is spelled so, and each spelling is read.
use Rattle.std.proofs.Common.{◌≡◌, ℕ, Bool, true, false, List, [], ◌∷◌, ◌++◌, Option, refl, sym, ap, ◌∙◌, inl, inr, if◌then◌else◌, append_assoc, append-nil, eqb, eqb-true}
use Rattle.std.specs.List.{flat_map}
use Rattle.quota_units.specs.declared.flags.Flags.{Flags}
use Rattle.imap_grammar.specs.Bytes.{is_astring_byte}
use Rattle.imap_grammar.specs.Printing.{escaped}
use Rattle.imap_grammar.specs.Grammar.{IsItems, IsMarker, IsFlag, IsFlagsPart, IsDatePart}
use Rattle.imap_grammar.specs.Reading.{Reader, got, and_then, ◌>>=◌, gives, byte}
use Rattle.imap_grammar.specs.Literals.{marker}
use Rattle.imap_grammar.specs.Astrings.{inside}
use Rattle.imap_grammar.specs.Lists.{any_items}
use Rattle.imap_grammar.specs.SystemFlags.{flags_of}
use Rattle.imap_grammar.specs.AppendArguments.{flag, any_flags, date, message_marker, date_and_marker, dated_marker, flags_and_marker, flagged_marker}
use Rattle.imap_grammar.proofs.ReaderLaws.{IsReader, reads_then, reads_gives}
use Rattle.imap_grammar.proofs.Steps.{reads_same, reads_weaker, reads_byte_then, choice, reads_choice}
use Rattle.imap_grammar.proofs.Astrings.{Closed, reads_closed, inside_spelled}
use Rattle.imap_grammar.proofs.Literals.{MarkerRest, reads_marker, marker_spelled}
use Rattle.imap_grammar.proofs.Lists.{AnyClosed, reads_any, any_spelled}
use Rattle.imap_grammar.proofs.Items.{reads_flag, flag_spelled, flag_begins}

-- flags, after their opening parenthesis
abbrev FlagsRest : List ℕ → Flags → Type 0
FlagsRest bytes flags = (list : List ℕ) × (letters : List (Option ℕ)) × IsItems IsFlag list letters × (flags ≡ flags_of letters) × (bytes ≡ list ++ 41 ∷ [])

reads_flags : IsReader FlagsRest any_flags
reads_flags = reads_then (AnyClosed flag IsFlag) FlagsRest (any_items flag) (λ letters. gives (flags_of letters)) (reads_any flag IsFlag reads_flag)
    (λ bytes letters own. reads_gives (λ b. FlagsRest (bytes ++ b)) (flags_of letters) (own.0, letters, own.1, refl, append-nil bytes ∙ own.2))

reads_message : IsReader IsMarker message_marker
reads_message = reads_byte_then IsMarker 123 marker (reads_weaker MarkerRest (λ b. IsMarker (123 ∷ b)) marker own reads_marker)
  where
    own : (bytes : List ℕ) (n : ℕ) → MarkerRest bytes n → IsMarker (123 ∷ bytes) n
    own bytes n (ds, end, is, is_end, e) = (ds, end, is, is_end, ap (λ l. 123 ∷ l) e)

-- a date if it is there, and a marker, after a space
abbrev Dated : List ℕ → ℕ → Type 0
Dated bytes n = (dated mark : List ℕ) × IsDatePart dated × IsMarker mark n × (32 ∷ bytes ≡ dated ++ 32 ∷ mark)

-- a date, after its opening quote
abbrev DateRest : List ℕ → Unit {0} → Type 0
DateRest bytes u = (v : List ℕ) × Closed bytes v

reads_date : IsReader DateRest date
reads_date = reads_then Closed DateRest (inside false) (λ value. gives tt) reads_closed
    (λ bytes v own. reads_gives (λ b. DateRest (bytes ++ b)) tt (v, (own.0, append-nil bytes ∙ own.1)))

reads_dated : IsReader Dated dated_marker
reads_dated = reads_same Dated (choice 34 date_and_marker message_marker) dated_marker same
    (reads_choice Dated 34 date_and_marker message_marker
    (reads_then DateRest (λ b. Dated (34 ∷ b)) date (λ own. byte 32 >>= (λ space. message_marker)) reads_date
    (λ bytes u own. reads_byte_then (λ b. Dated (34 ∷ (bytes ++ b))) 32 message_marker
    (reads_weaker IsMarker (λ b. Dated (34 ∷ (bytes ++ 32 ∷ b))) message_marker (with_date bytes own) reads_message)))
    (reads_weaker IsMarker Dated message_marker (λ bytes n is. ([], bytes, inl refl, is, refl)) reads_message))
  where
    with_date : (bytes : List ℕ) → (v : List ℕ) × Closed bytes v → (mark : List ℕ) (n : ℕ) → IsMarker mark n → Dated (34 ∷ (bytes ++ 32 ∷ mark)) n
    with_date bytes (v, own) mark n is = (
      32 ∷ 34 ∷ bytes,
      mark,
      inr (34 ∷ bytes, v, record { each = own.0; spelled = ap (λ l. 34 ∷ l) own.1 }, refl),
      is,
      refl,
    )

    same : (text : List ℕ) → choice 34 date_and_marker message_marker text ≡ dated_marker text
    same [] = refl
    same (b ∷ bs) = refl

-- flags and a date if they are there, and a marker, after a space
abbrev pub Flagged : List ℕ → Flags × ℕ → Type 0
Flagged bytes own = (flagged dated mark : List ℕ) × IsFlagsPart flagged own.0 × IsDatePart dated × IsMarker mark own.1
    × (32 ∷ bytes ≡ flagged ++ (dated ++ 32 ∷ mark))

-- the marker, with these flags
abbrev sized : Flags → Reader (Flags × ℕ)
sized flags = dated_marker >>= (λ size. gives (flags, size))

abbrev after_flags : Flags → Reader (Flags × ℕ)
after_flags flags = byte 32 >>= (λ space. sized flags)

abbrev unflagged : Reader (Flags × ℕ)
unflagged = sized (flags_of [])

pub reads_flagged : IsReader Flagged flagged_marker
reads_flagged = reads_same Flagged (choice 40 flags_and_marker unflagged) flagged_marker same
    (reads_choice Flagged 40 flags_and_marker unflagged
    (reads_then FlagsRest (λ b. Flagged (40 ∷ b)) any_flags after_flags reads_flags
    (λ fl flags p. reads_byte_then (λ b. Flagged (40 ∷ (fl ++ b))) 32 (sized flags)
    (reads_then Dated (λ b. Flagged (40 ∷ (fl ++ 32 ∷ b))) dated_marker (λ size. gives (flags, size)) reads_dated
    (λ d size q. reads_gives (λ b. Flagged (40 ∷ (fl ++ 32 ∷ (d ++ b)))) (flags, size) (with_flags fl flags p d size q)))))
    (reads_then Dated Flagged dated_marker (λ size. gives (flags_of [], size)) reads_dated
    (λ d size q. reads_gives (λ b. Flagged (d ++ b)) (flags_of [], size) ([], q.0, q.1, inl (refl, refl), q.2, q.3, ap (λ l. 32 ∷ l) (append-nil d) ∙ q.4))))
  where
    with_flags : (fl : List ℕ) (flags : Flags) → FlagsRest fl flags → (d : List ℕ) (size : ℕ) → Dated d size
        → Flagged (40 ∷ (fl ++ 32 ∷ (d ++ []))) (flags, size)
    with_flags fl flags (list, letters, are, is, e) d size (dated, mark, is_date, is_mark, i) = (
      32 ∷ 40 ∷ fl,
      dated,
      mark,
      inr (list, letters, are, is, ap (λ l. 32 ∷ 40 ∷ l) e),
      is_date,
      is_mark,
      ap (λ l. 32 ∷ 40 ∷ (fl ++ l)) (ap (λ l. 32 ∷ l) (append-nil d) ∙ i),
    )

    same : (text : List ℕ) → choice 40 flags_and_marker unflagged text ≡ flagged_marker text
    same [] = refl
    same (b ∷ bs) = refl

-- each spelling is read
message_spelled : (mark next : List ℕ) (n : ℕ) → IsMarker mark n → dated_marker (mark ++ next) ≡ got n next
message_spelled mark next n (ds, end, is, is_end, e) = ap (λ l. dated_marker (l ++ next)) e ∙ marker_spelled ds end next n is is_end

rest_of : (x : ℕ) (a b : List ℕ) → x ∷ a ≡ x ∷ b → a ≡ b
rest_of x a b e = cc

dated_spelled : (dated mark text next : List ℕ) (n : ℕ) → IsDatePart dated → IsMarker mark n → 32 ∷ text ≡ dated ++ (32 ∷ (mark ++ next))
    → dated_marker text ≡ got n next
dated_spelled dated mark text next n (inl none) is e =
    let own : text ≡ mark ++ next = rest_of 32 text (mark ++ next) (e ∙ ap (λ l. l ++ (32 ∷ (mark ++ next))) none) in
    ap dated_marker own ∙ message_spelled mark next n is
dated_spelled dated mark text next n (inr (own_date, value, is_date, i)) (ds, end, is, is_end, j) e =
    let spelled : dated ≡ 32 ∷ 34 ∷ (flat_map escaped value ++ 34 ∷ []) = i ∙ ap (λ l. 32 ∷ l) is_date.spelled in
    let own : text ≡ 34 ∷ ((flat_map escaped value ++ 34 ∷ []) ++ (32 ∷ (mark ++ next))) =
    rest_of 32 text (34 ∷ ((flat_map escaped value ++ 34 ∷ []) ++ (32 ∷ (mark ++ next)))) (e ∙ ap (λ l. l ++ (32 ∷ (mark ++ next))) spelled) in
    ap dated_marker (own ∙ ap (λ l. 34 ∷ l) (append_assoc (flat_map escaped value) (34 ∷ []) (32 ∷ (mark ++ next))))
    ∙ ap (λ r. and_then (and_then r (λ v. gives tt)) (λ u text2. and_then (byte 32 text2) (λ s. message_marker)))
    (inside_spelled value (32 ∷ (mark ++ next)) is_date.each)
    ∙ ap (λ l. message_marker (l ++ next)) j ∙ marker_spelled ds end next n is is_end

-- a date and a marker do not begin with flags
no_flags : (text : List ℕ) (n : ℕ) (next : List ℕ) → dated_marker text ≡ got n next → flagged_marker text ≡ got (flags_of [], n) next
no_flags [] n next e = absurd cc
no_flags (b ∷ bs) n next e = go (eqb b 40) refl
  where
    is_flag : b ≡ 40 → ⊥
    is_flag i = differs (sym (ap (λ c. dated_marker (c ∷ bs)) i) ∙ e)
      where
        differs : dated_marker (40 ∷ bs) ≡ got n next → ⊥
        differs f = cc

    go : (c : Bool) → eqb b 40 ≡ c → (if c then flags_and_marker bs else unflagged (b ∷ bs)) ≡ got (flags_of [], n) next
    go true i = absurd (is_flag (eqb-true b 40 i))
    go false i = ap (λ r. and_then r (λ size. gives (flags_of [], size))) e

pub flagged_spelled : (flagged dated mark text next : List ℕ) (flags : Flags) (n : ℕ) → IsFlagsPart flagged flags → IsDatePart dated → IsMarker mark n
    → 32 ∷ text ≡ flagged ++ (dated ++ (32 ∷ (mark ++ next))) → flagged_marker text ≡ got (flags, n) next
flagged_spelled flagged dated mark text next flags n (inl (none, same)) is_date is e =
    no_flags text n next (dated_spelled dated mark text next n is_date is (e ∙ ap (λ l. l ++ (dated ++ (32 ∷ (mark ++ next)))) none))
    ∙ ap (λ f. got (f, n) next) (sym same)
flagged_spelled flagged dated mark text next flags n (inr (list, letters, are, same, i)) is_date is e =
    let own : text ≡ 40 ∷ ((list ++ 41 ∷ []) ++ (dated ++ (32 ∷ (mark ++ next)))) =
    rest_of 32 text (40 ∷ ((list ++ 41 ∷ []) ++ (dated ++ (32 ∷ (mark ++ next))))) (e ∙ ap (λ l. l ++ (dated ++ (32 ∷ (mark ++ next)))) i) in
    ap flagged_marker (own ∙ ap (λ l. 40 ∷ l) (append_assoc list (41 ∷ []) (dated ++ (32 ∷ (mark ++ next)))))
    ∙ ap (λ r. and_then (and_then r (λ ls. gives (flags_of ls))) after_flags)
    (any_spelled flag IsFlag (λ b. is_astring_byte b ≡ false) refl refl flag_spelled flag_begins list (dated ++ (32 ∷ (mark ++ next))) letters are)
    ∙ ap (λ fl. after_flags fl (dated ++ (32 ∷ (mark ++ next)))) (sym same)
    ∙ dated_then (dated ++ (32 ∷ (mark ++ next))) refl is_date
  where
    dated_then : (l : List ℕ) → l ≡ dated ++ (32 ∷ (mark ++ next)) → IsDatePart dated → after_flags flags l ≡ got (flags, n) next
    dated_then l j (inl none) =
        let spaced : l ≡ 32 ∷ (mark ++ next) = j ∙ ap (λ d. d ++ (32 ∷ (mark ++ next))) none in
        ap (after_flags flags) spaced
        ∙ ap (λ r. and_then r (λ size. gives (flags, size))) (dated_spelled dated mark (mark ++ next) next n (inl none) is (sym spaced ∙ j))
    dated_then l j (inr (own_date, value, is_quoted, k)) =
        let spaced : l ≡ 32 ∷ (own_date ++ (32 ∷ (mark ++ next))) = j ∙ ap (λ d. d ++ (32 ∷ (mark ++ next))) k in
        ap (after_flags flags) spaced
        ∙ ap (λ r. and_then r (λ size. gives (flags, size)))
        (dated_spelled dated mark (own_date ++ (32 ∷ (mark ++ next))) next n (inr (own_date, value, is_quoted, k)) is (sym spaced ∙ j))
