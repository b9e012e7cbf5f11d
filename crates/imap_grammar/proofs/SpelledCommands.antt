-- Each command of the grammar is read, whatever comes after it.
use Rattle.std.proofs.Common.{◌≡◌, ℕ, ◌<◌, Bool, true, false, ltb, leb, lt-ltb, le-leb, List, [], ◌∷◌, ◌++◌, length, Option, refl, sym, ap, ◌∙◌, inl, inr, arith, append_assoc}
use Rattle.std.proofs.lemmas.Bool.{cond-true, and_from}
use Rattle.imap_grammar.specs.declared.limits.AskedLimit.{AskedLimit}
use Rattle.imap_grammar.specs.declared.status.StatusItem.{StatusItem}
use Rattle.imap_grammar.specs.declared.command.Command.{Command}
use Rattle.imap_grammar.specs.declared.command.Command.TheVariants.{Capability, Noop, Logout, Login, GetQuota, GetQuotaRoot, SetQuota, Status, Append}
use Rattle.imap_grammar.specs.declared.word.Word.{Word}
use Rattle.imap_grammar.specs.declared.word.Word.TheVariants.{Capability as CapabilityWord, Noop as NoopWord, Logout as LogoutWord, Login as LoginWord, GetQuota as GetQuotaWord, GetQuotaRoot as GetQuotaRootWord, SetQuota as SetQuotaWord, Status as StatusWord, Append as AppendWord}
use Rattle.std.specs.Char.{is_ascii_digit}
use Rattle.quota_units.specs.declared.flags.Flags.{Flags}
use Rattle.imap_grammar.specs.Bytes.{is_tag_byte, is_letter, is_astring_byte}
use Rattle.imap_grammar.specs.Grammar.{Tagged, IsTag, IsLineEnd, IsWord, IsAstring, IsItems, IsAskedLimit, IsStatusItem, IsMarker, IsFlagsPart, IsDatePart, IsBody}
use Rattle.imap_grammar.specs.Reading.{Reader, got, and_then, ◌>>=◌, gives, fails, byte, line_end}
use Rattle.imap_grammar.specs.Astrings.{astring}
use Rattle.imap_grammar.specs.LimitLists.{asked_limit, limits_closed}
use Rattle.imap_grammar.specs.StatusItems.{status_item, status_items}
use Rattle.imap_grammar.specs.AppendArguments.{flagged_marker}
use Rattle.imap_grammar.specs.Commands.{word_of, is_tag_long, checked_tag, tag_at, ended, name_alone, user_and_password, name_and_limits, name_and_items, name_and_message, arguments_after, is_allowed, allowed_arguments, arguments_of, command_at}
use Rattle.imap_grammar.specs.Progressing.{message_size}
use Rattle.imap_grammar.proofs.Spelled.{run_spelled, end_spelled}
use Rattle.imap_grammar.proofs.Literals.{astring_spelled}
use Rattle.imap_grammar.proofs.Lists.{any_spelled, some_spelled}
use Rattle.imap_grammar.proofs.Items.{asked_spelled, asked_begins, status_spelled}
use Rattle.imap_grammar.proofs.AppendArguments.{flagged_spelled}
use Rattle.imap_grammar.proofs.Words.{letters_of, word_read, word_letters}
use Rattle.imap_grammar.proofs.Arguments.{EndOf}
use Rattle.imap_grammar.proofs.Commands.{IsRead, tag_with, after_tag}

-- a tag
pub tag_spelled : (tag : List ℕ) (b : ℕ) (rest : List ℕ) → IsTag tag → is_tag_byte b ≡ false → tag_at (tag ++ b ∷ rest) ≡ got tag (b ∷ rest)
tag_spelled tag b rest is stops =
    let fits : is_tag_long tag ≡ true = and_from (ltb 0 (length tag)) (leb (length tag) 64) (lt-ltb 0 (length tag) is.some)
    (le-leb (length tag) 64 is.short) in
    ap (λ r. and_then r checked_tag) (run_spelled is_tag_byte tag b rest is.each stops)
    ∙ ap (λ (reader : Reader (List ℕ)). reader (b ∷ rest)) (cond-true (is_tag_long tag) (gives tag) fails fits)

-- the rest after a line's end begins with no byte of a name, and no letter
end_first : (end next : List ℕ) → IsLineEnd end → (b : ℕ) × (rest : List ℕ) × (end ++ next ≡ b ∷ rest) × (is_astring_byte b ≡ false) × (is_letter b ≡ false)
end_first end next (inl e) = (10, next, ap (λ l. l ++ next) e, refl, refl)
end_first end next (inr e) = (13, 10 ∷ next, ap (λ l. l ++ next) e, refl, refl)

-- letters, and arguments that begin with no letter
pub word_spelled : (login : Bool) (tag letters : List ℕ) (word : Word) (b : ℕ) (rest next : List ℕ) (command : Command) → IsWord (letters_of word) letters
    → is_letter b ≡ false → is_allowed word login ≡ true → arguments_after word (b ∷ rest) ≡ got command next
    → after_tag login tag (letters ++ b ∷ rest) ≡ got (record { tag = tag; command = command }) next
word_spelled login tag letters word b rest next command is stops allowed e =
    ap (λ r. and_then r (λ found. arguments_of login (word_of found) >>= tag_with tag))
    (run_spelled is_letter letters b rest (word_letters letters word is) stops)
    ∙ ap (λ w. and_then (arguments_of login w (b ∷ rest)) (tag_with tag)) (word_read letters word is)
    ∙ ap (λ c. and_then (allowed_arguments c word (b ∷ rest)) (tag_with tag)) allowed
    ∙ ap (λ r. and_then r (tag_with tag)) e

-- a word alone
alone_spelled : (login : Bool) (tag letters : List ℕ) (word : Word) (end next : List ℕ) (command : Command) → IsWord (letters_of word) letters → IsLineEnd end
    → is_allowed word login ≡ true
    → ((text : List ℕ) → arguments_after word text ≡ ended command text)
    → after_tag login tag ((letters ++ end) ++ next) ≡ got (record { tag = tag; command = command }) next
alone_spelled login tag letters word end next command is is_end allowed own =
    let first = end_first end next is_end in
    ap (after_tag login tag) (append_assoc letters end next ∙ ap (λ l. letters ++ l) first.2)
    ∙ word_spelled login tag letters word first.0 first.1 next command is first.4 allowed
    (own (first.0 ∷ first.1) ∙ ap (ended command) (sym first.2) ∙ end_spelled command end next is_end)

-- a name before a line's end
name_spelled : (own name end next : List ℕ) → IsAstring own name → IsLineEnd end → astring (own ++ (end ++ next)) ≡ got name (end ++ next)
name_spelled own name end next is is_end =
    let first = end_first end next is_end in
    ap (λ l. astring (own ++ l)) first.2 ∙ astring_spelled own name first.0 first.1 is first.3 ∙ ap (got name) (sym first.2)

one_spelled : (own name end next : List ℕ) → IsAstring own name → IsLineEnd end → name_alone (32 ∷ (own ++ (end ++ next))) ≡ got name next
one_spelled own name end next is is_end =
    ap (λ r. and_then r (λ n. line_end >>= (λ u. gives n))) (name_spelled own name end next is is_end) ∙ end_spelled name end next is_end

two_spelled : (a user c password end next : List ℕ) → IsAstring a user → IsAstring c password → IsLineEnd end
    → user_and_password (32 ∷ (a ++ 32 ∷ (c ++ (end ++ next)))) ≡ got (Login user password) next
two_spelled a user c password end next one two is_end =
    ap (λ r. and_then r (λ u. byte 32 >>= (λ s. astring >>= (λ p. ended (Login u p))))) (astring_spelled a user 32 (c ++ (end ++ next)) one refl)
    ∙ ap (λ r. and_then r (λ p. ended (Login user p))) (name_spelled c password end next two is_end)
    ∙ end_spelled (Login user password) end next is_end

limits_spelled : (a root list : List ℕ) (limits : List AskedLimit) (end next : List ℕ) → IsAstring a root → IsItems IsAskedLimit list limits → IsLineEnd end
    → name_and_limits (32 ∷ (a ++ 32 ∷ 40 ∷ (list ++ 41 ∷ (end ++ next)))) ≡ got (SetQuota root limits) next
limits_spelled a root list limits end next is are is_end =
    ap (λ r. and_then r (λ n. byte 32 >>= (λ s. byte 40 >>= (λ o. limits_closed >>= (λ ls. ended (SetQuota n ls))))))
    (astring_spelled a root 32 (40 ∷ (list ++ 41 ∷ (end ++ next))) is refl)
    ∙ ap (λ r. and_then r (λ ls. ended (SetQuota root ls)))
    (any_spelled asked_limit IsAskedLimit (λ b. is_ascii_digit b ≡ false) refl refl asked_spelled asked_begins list (end ++ next) limits are)
    ∙ end_spelled (SetQuota root limits) end next is_end

items_spelled : (a mailbox list : List ℕ) (items : List (Option StatusItem)) (end next : List ℕ) → IsAstring a mailbox → IsItems IsStatusItem list items
    → 0 < length items → IsLineEnd end
    → name_and_items (32 ∷ (a ++ 32 ∷ 40 ∷ (list ++ 41 ∷ (end ++ next)))) ≡ got (Status mailbox items) next
items_spelled a mailbox list [] end next is are some is_end = absurd (omega (arith, some))
items_spelled a mailbox list (x ∷ xs) end next is are some is_end =
    ap (λ r. and_then r (λ n. byte 32 >>= (λ s. byte 40 >>= (λ o. status_items >>= (λ ls. ended (Status n ls))))))
    (astring_spelled a mailbox 32 (40 ∷ (list ++ 41 ∷ (end ++ next))) is refl)
    ∙ ap (λ r. and_then r (λ ls. ended (Status mailbox ls)))
    (some_spelled status_item IsStatusItem (λ b. is_astring_byte b ≡ false) refl refl status_spelled list (end ++ next) x xs are)
    ∙ end_spelled (Status mailbox (x ∷ xs)) end next is_end

-- the texts of commands, part by part
one_text : (body end next word own : List ℕ) → body ≡ word ++ 32 ∷ own → (body ++ end) ++ next ≡ word ++ 32 ∷ (own ++ (end ++ next))
one_text body end next word own e = append_assoc body end next ∙ ap (λ l. l ++ (end ++ next)) e ∙ append_assoc word (32 ∷ own) (end ++ next)

list_text : (body end next word a list : List ℕ) → body ≡ word ++ 32 ∷ (a ++ 32 ∷ 40 ∷ (list ++ 41 ∷ []))
    → (body ++ end) ++ next ≡ word ++ 32 ∷ (a ++ 32 ∷ 40 ∷ (list ++ 41 ∷ (end ++ next)))
list_text body end next word a list e =
    one_text body end next word (a ++ 32 ∷ 40 ∷ (list ++ 41 ∷ [])) e
    ∙ ap (λ l. word ++ 32 ∷ l) (append_assoc a (32 ∷ 40 ∷ (list ++ 41 ∷ [])) (end ++ next))
    ∙ ap (λ l. word ++ 32 ∷ (a ++ 32 ∷ 40 ∷ l)) (append_assoc list (41 ∷ []) (end ++ next))

message_text : (body end next word a flagged dated mark : List ℕ) → body ≡ word ++ 32 ∷ (a ++ (flagged ++ (dated ++ 32 ∷ mark))) → end ≡ []
    → (body ++ end) ++ next ≡ word ++ 32 ∷ (a ++ (flagged ++ (dated ++ (32 ∷ (mark ++ next)))))
message_text body end next word a flagged dated mark e none =
    one_text body end next word (a ++ (flagged ++ (dated ++ 32 ∷ mark))) e
    ∙ ap (λ l. word ++ 32 ∷ ((a ++ (flagged ++ (dated ++ 32 ∷ mark))) ++ (l ++ next))) none
    ∙ ap (λ l. word ++ 32 ∷ l) (append_assoc a (flagged ++ (dated ++ 32 ∷ mark)) next
    ∙ ap (λ l. a ++ l) (append_assoc flagged (dated ++ 32 ∷ mark) next ∙ ap (λ l. flagged ++ l) (append_assoc dated (32 ∷ mark) next)))

-- flags or a date if they are there, and the marker, begin with a space
spaced : (flagged dated more : List ℕ) (flags : Flags) → IsFlagsPart flagged flags → IsDatePart dated
    → (text : List ℕ) × (32 ∷ text ≡ flagged ++ (dated ++ 32 ∷ more))
spaced flagged dated more flags (inr (list, letters, are, same, e)) is_date =
    (40 ∷ (list ++ 41 ∷ []) ++ (dated ++ 32 ∷ more), sym (ap (λ l. l ++ (dated ++ 32 ∷ more)) e))
spaced flagged dated more flags (inl (none, same)) (inl e) = (more, sym (ap (λ l. l ++ (dated ++ 32 ∷ more)) none ∙ ap (λ l. l ++ 32 ∷ more) e))
spaced flagged dated more flags (inl (none, same)) (inr (own, value, is, e)) =
    (own ++ 32 ∷ more, sym (ap (λ l. l ++ (dated ++ 32 ∷ more)) none ∙ ap (λ l. l ++ 32 ∷ more) e))

append_spelled : (a mailbox flagged dated mark next : List ℕ) (flags : Flags) (n : ℕ) → IsAstring a mailbox → IsFlagsPart flagged flags → IsDatePart dated
    → IsMarker mark n
    → name_and_message (32 ∷ (a ++ (flagged ++ (dated ++ (32 ∷ (mark ++ next)))))) ≡ got (Append mailbox flags n) next
append_spelled a mailbox flagged dated mark next flags n is are is_date is_mark =
    let own = spaced flagged dated (mark ++ next) flags are is_date in
    ap (λ l. and_then (astring (a ++ l)) (λ m. byte 32 >>= (λ s. flagged_marker >>= (λ f. gives (Append m f.0 f.1))))) (sym own.1)
    ∙ ap (λ r. and_then r (λ m. byte 32 >>= (λ s. flagged_marker >>= (λ f. gives (Append m f.0 f.1))))) (astring_spelled a mailbox 32 own.0 is refl)
    ∙ ap (λ r. and_then r (λ f. gives (Append mailbox f.0 f.1))) (flagged_spelled flagged dated mark own.0 next flags n are is_date is_mark own.1)

-- each command, after its tag and the space
line_spelled : (login : Bool) (tag body end next : List ℕ) (command : Command) → IsBody login body command → EndOf (message_size command) end
    → after_tag login tag ((body ++ end) ++ next) ≡ got (record { tag = tag; command = command }) next
line_spelled login tag body end next Capability is is_end = alone_spelled login tag body CapabilityWord end next Capability is is_end refl (λ text. refl)
line_spelled login tag body end next Noop is is_end = alone_spelled login tag body NoopWord end next Noop is is_end refl (λ text. refl)
line_spelled login tag body end next Logout is is_end = alone_spelled login tag body LogoutWord end next Logout is is_end refl (λ text. refl)
line_spelled login tag body end next (Login user password) (allowed, (word, a, c, is_word, one, two, e)) is_end =
    ap (after_tag login tag) (one_text body end next word (a ++ 32 ∷ c) e ∙ ap (λ l. word ++ 32 ∷ l) (append_assoc a (32 ∷ c) (end ++ next)))
    ∙ word_spelled login tag word LoginWord 32 (a ++ 32 ∷ (c ++ (end ++ next))) next (Login user password) is_word refl allowed
    (two_spelled a user c password end next one two is_end)
line_spelled login tag body end next (GetQuota root) (allowed, (word, a, is_word, is, e)) is_end =
    ap (after_tag login tag) (one_text body end next word a e)
    ∙ word_spelled login tag word GetQuotaWord 32 (a ++ (end ++ next)) next (GetQuota root) is_word refl allowed
    (ap (λ r. and_then r (λ n. gives (GetQuota n))) (one_spelled a root end next is is_end))
line_spelled login tag body end next (GetQuotaRoot mailbox) (allowed, (word, a, is_word, is, e)) is_end =
    ap (after_tag login tag) (one_text body end next word a e)
    ∙ word_spelled login tag word GetQuotaRootWord 32 (a ++ (end ++ next)) next (GetQuotaRoot mailbox) is_word refl allowed
    (ap (λ r. and_then r (λ n. gives (GetQuotaRoot n))) (one_spelled a mailbox end next is is_end))
line_spelled login tag body end next (SetQuota root limits) (allowed, (word, a, list, is_word, is, are, e)) is_end =
    ap (after_tag login tag) (list_text body end next word a list e)
    ∙ word_spelled login tag word SetQuotaWord 32 (a ++ 32 ∷ 40 ∷ (list ++ 41 ∷ (end ++ next))) next (SetQuota root limits) is_word refl allowed
    (limits_spelled a root list limits end next is are is_end)
line_spelled login tag body end next (Status mailbox items) (allowed, (word, a, list, is_word, is, are, some, e)) is_end =
    ap (after_tag login tag) (list_text body end next word a list e)
    ∙ word_spelled login tag word StatusWord 32 (a ++ 32 ∷ 40 ∷ (list ++ 41 ∷ (end ++ next))) next (Status mailbox items) is_word refl allowed
    (items_spelled a mailbox list items end next is are some is_end)
line_spelled login tag body end next (Append mailbox flags size) (allowed, (word, a, flagged, dated, mark, is_word, is, are, is_date, is_mark, e)) none =
    ap (after_tag login tag) (message_text body end next word a flagged dated mark e none)
    ∙ word_spelled login tag word AppendWord 32 (a ++ (flagged ++ (dated ++ (32 ∷ (mark ++ next))))) next (Append mailbox flags size) is_word refl allowed
    (append_spelled a mailbox flagged dated mark next flags size is are is_date is_mark)

-- each command is read
pub command_spelled : (login : Bool) (bytes next : List ℕ) (tagged : Tagged) → IsRead login bytes tagged → command_at login (bytes ++ next) ≡ got tagged next
command_spelled login bytes next tagged (body, end, is, is_body, is_end, e) =
    ap (command_at login) (ap (λ l. l ++ next) e ∙ append_assoc tagged.tag (32 ∷ (body ++ end)) next)
    ∙ ap (λ r. and_then r (λ tag. byte 32 >>= (λ space. after_tag login tag))) (tag_spelled tagged.tag 32 ((body ++ end) ++ next) is refl)
    ∙ line_spelled login tagged.tag body end next tagged.command is_body is_end
