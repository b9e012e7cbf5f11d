-- What follows a word: what is read is spelled so.
use Rattle.std.proofs.Common.{◌≡◌, ℕ, Bool, true, IsTrue, not, List, [], ◌∷◌, ◌++◌, Option, Some, None, refl, sym, ap, ◌∙◌, subst, append_assoc, append-nil, codes}
use Rattle.quota_units.specs.declared.flags.Flags.{Flags}
use Rattle.imap_grammar.specs.declared.command.Command.{Command}
use Rattle.imap_grammar.specs.declared.command.Command.TheVariants.{Capability, Noop, Logout, Login, GetQuota, GetQuotaRoot, SetQuota, Status, Append}
use Rattle.imap_grammar.specs.declared.word.Word.{Word}
use Rattle.imap_grammar.specs.declared.word.Word.TheVariants.{Capability as CapabilityWord, Noop as NoopWord, Logout as LogoutWord, Login as LoginWord, GetQuota as GetQuotaWord, GetQuotaRoot as GetQuotaRootWord, SetQuota as SetQuotaWord, Status as StatusWord, Append as AppendWord}
use Rattle.imap_grammar.specs.Grammar.{IsLineEnd, IsWord, IsAstring, IsAskedLimit, IsStatusItem, IsBody}
use Rattle.imap_grammar.specs.Reading.{◌>>=◌, gives, byte, line_end}
use Rattle.imap_grammar.specs.Astrings.{astring}
use Rattle.imap_grammar.specs.LimitLists.{asked_limit, limits_closed}
use Rattle.imap_grammar.specs.StatusItems.{status_item, status_items}
use Rattle.imap_grammar.specs.AppendArguments.{flagged_marker}
use Rattle.imap_grammar.specs.Commands.{ended, name_alone, user_and_password, name_and_limits, name_and_items, name_and_message, arguments_after, is_allowed}
use Rattle.imap_grammar.specs.Progressing.{message_size}
use Rattle.imap_grammar.proofs.ReaderLaws.{IsReader, reads_then, reads_gives}
use Rattle.imap_grammar.proofs.Steps.{reads_byte_then, reads_ended}
use Rattle.imap_grammar.proofs.Literals.{reads_astring}
use Rattle.imap_grammar.proofs.Lists.{AnyClosed, SomeClosed, reads_any, reads_some}
use Rattle.imap_grammar.proofs.Items.{reads_asked, reads_status}
use Rattle.imap_grammar.proofs.AppendArguments.{Flagged, reads_flagged}
use Rattle.imap_grammar.proofs.Words.{letters_of}

-- what is read after the body of a command: the line's end, unless a message comes first
abbrev pub EndOf : Option ℕ → List ℕ → Type 0
EndOf None end = IsLineEnd end
EndOf (Some size) end = end ≡ []

-- what follows these letters in a command, as far as it is read
abbrev pub Arguments : Bool → List ℕ → List ℕ → Command → Type 0
Arguments login letters bytes command = (rest end : List ℕ) × IsBody login (letters ++ rest) command × EndOf (message_size command) end
    × (bytes ≡ rest ++ end)

-- a space, a name and the line's end
abbrev Alone : List ℕ → List ℕ → Type 0
Alone bytes name = (own end : List ℕ) × IsAstring own name × IsLineEnd end × (bytes ≡ 32 ∷ (own ++ end))

reads_alone : IsReader Alone name_alone
reads_alone = reads_byte_then Alone 32 (astring >>= (λ name. line_end >>= (λ end. gives name)))
    (reads_then IsAstring (λ b. Alone (32 ∷ b)) astring (λ name. line_end >>= (λ end. gives name)) reads_astring
    (λ own name is. reads_ended (λ b. Alone (32 ∷ (own ++ b))) name (λ end is_end. (own, end, is, is_end, refl))))

module _ (login : Bool) (letters : List ℕ) where
  abbrev Own : List ℕ → Command → Type 0
  Own = Arguments login letters

  reads_none : (command : Command) → ((end : List ℕ) → IsLineEnd end → Own end command) → IsReader Own (ended command)
  reads_none command is = reads_ended Own command is

  reads_user : IsTrue (not login) → IsWord (codes "login") letters → IsReader Own user_and_password
  reads_user allowed word =
      reads_byte_then Own 32 (astring >>= (λ user. byte 32 >>= (λ space. astring >>= (λ password. ended (Login user password)))))
      (reads_then IsAstring (λ b. Own (32 ∷ b)) astring (λ user. byte 32 >>= (λ space. astring >>= (λ password. ended (Login user password)))) reads_astring
      (λ a user one. reads_byte_then (λ b. Own (32 ∷ (a ++ b))) 32 (astring >>= (λ password. ended (Login user password)))
      (reads_then IsAstring (λ b. Own (32 ∷ (a ++ 32 ∷ b))) astring (λ password. ended (Login user password)) reads_astring
      (λ c password two. reads_ended (λ b. Own (32 ∷ (a ++ 32 ∷ (c ++ b)))) (Login user password)
      (λ end is_end. (
        32 ∷ (a ++ 32 ∷ c),
        end,
        (allowed, (letters, a, c, word, one, two, refl)),
        is_end,
        ap (λ l. 32 ∷ l)
            (sym (append_assoc a (32 ∷ c) end)),
      ))))))

  reads_limits : IsTrue login → IsWord (codes "setquota") letters → IsReader Own name_and_limits
  reads_limits allowed word =
      reads_byte_then Own 32 (astring >>= (λ root. byte 32
      >>= (λ space. byte 40 >>= (λ opening. limits_closed >>= (λ limits. ended (SetQuota root limits))))))
      (reads_then IsAstring (λ b. Own (32 ∷ b)) astring
      (λ root. byte 32 >>= (λ space. byte 40 >>= (λ opening. limits_closed >>= (λ limits. ended (SetQuota root limits))))) reads_astring
      (λ a root is. reads_byte_then (λ b. Own (32 ∷ (a ++ b))) 32 (byte 40 >>= (λ opening. limits_closed >>= (λ limits. ended (SetQuota root limits))))
      (reads_byte_then (λ b. Own (32 ∷ (a ++ 32 ∷ b))) 40 (limits_closed >>= (λ limits. ended (SetQuota root limits)))
      (reads_then (AnyClosed asked_limit IsAskedLimit) (λ b. Own (32 ∷ (a ++ 32 ∷ 40 ∷ b))) limits_closed (λ limits. ended (SetQuota root limits))
      (reads_any asked_limit IsAskedLimit reads_asked)
      (λ l limits p. reads_ended (λ b. Own (32 ∷ (a ++ 32 ∷ 40 ∷ (l ++ b)))) (SetQuota root limits)
      (λ end is_end. (
        32 ∷ (a ++ 32 ∷ 40 ∷ l),
        end,
        (allowed, (letters, a, p.0, word, is, p.1, ap (λ x. letters ++ 32 ∷ (a ++ 32 ∷ 40 ∷ x)) p.2)),
        is_end,
        ap (λ x. 32 ∷ x) (sym (append_assoc a (32 ∷ 40 ∷ l) end)),
      )))))))

  reads_statuses : IsTrue login → IsWord (codes "status") letters → IsReader Own name_and_items
  reads_statuses allowed word =
      reads_byte_then Own 32 (astring >>= (λ mailbox. byte 32
      >>= (λ space. byte 40 >>= (λ opening. status_items >>= (λ items. ended (Status mailbox items))))))
      (reads_then IsAstring (λ b. Own (32 ∷ b)) astring
      (λ mailbox. byte 32 >>= (λ space. byte 40 >>= (λ opening. status_items >>= (λ items. ended (Status mailbox items))))) reads_astring
      (λ a mailbox is. reads_byte_then (λ b. Own (32 ∷ (a ++ b))) 32 (byte 40 >>= (λ opening. status_items >>= (λ items. ended (Status mailbox items))))
      (reads_byte_then (λ b. Own (32 ∷ (a ++ 32 ∷ b))) 40 (status_items >>= (λ items. ended (Status mailbox items)))
      (reads_then (SomeClosed status_item IsStatusItem) (λ b. Own (32 ∷ (a ++ 32 ∷ 40 ∷ b))) status_items (λ items. ended (Status mailbox items))
      (reads_some status_item IsStatusItem reads_status)
      (λ l items p. reads_ended (λ b. Own (32 ∷ (a ++ 32 ∷ 40 ∷ (l ++ b)))) (Status mailbox items)
      (λ end is_end. (
        32 ∷ (a ++ 32 ∷ 40 ∷ l),
        end,
        (allowed, (letters, a, p.0.0, word, is, p.0.1, p.1, ap (λ x. letters ++ 32 ∷ (a ++ 32 ∷ 40 ∷ x)) p.0.2)),
        is_end,
        ap (λ x. 32 ∷ x) (sym (append_assoc a (32 ∷ 40 ∷ l) end)),
      )))))))

  reads_message : IsTrue login → IsWord (codes "append") letters → IsReader Own name_and_message
  reads_message allowed word =
      reads_byte_then Own 32 (astring >>= (λ mailbox. byte 32 >>= (λ space. flagged_marker >>= (λ own. gives (Append mailbox own.0 own.1)))))
      (reads_then IsAstring (λ b. Own (32 ∷ b)) astring
      (λ mailbox. byte 32 >>= (λ space. flagged_marker >>= (λ own. gives (Append mailbox own.0 own.1)))) reads_astring
      (λ a mailbox is. reads_byte_then (λ b. Own (32 ∷ (a ++ b))) 32 (flagged_marker >>= (λ own. gives (Append mailbox own.0 own.1)))
      (reads_then Flagged (λ b. Own (32 ∷ (a ++ 32 ∷ b))) flagged_marker (λ own. gives (Append mailbox own.0 own.1)) reads_flagged
      (λ f own p. reads_gives (λ b. Own (32 ∷ (a ++ 32 ∷ (f ++ b)))) (Append mailbox own.0 own.1) (joined a mailbox is f own p)))))
    where
      joined : (a mailbox : List ℕ) → IsAstring a mailbox → (f : List ℕ) (own : Flags × ℕ) → Flagged f own
          → Own (32 ∷ (a ++ 32 ∷ (f ++ []))) (Append mailbox own.0 own.1)
      joined a mailbox is f own (flagged, dated, mark, are, is_date, is_mark, e) = (
        32 ∷ (a ++ 32 ∷ f),
        [],
        (allowed, (letters, a, flagged, dated, mark, word, is, are, is_date, is_mark, ap (λ l. letters ++ 32 ∷ (a ++ l)) e)),
        refl,
        ap (λ l. 32 ∷ (a ++ 32 ∷ l)) (append-nil f) ∙ sym (append-nil (32 ∷ (a ++ 32 ∷ f))),
      )

  -- what is read is spelled so
  pub reads_arguments : (word : Word) → is_allowed word login ≡ true → IsWord (letters_of word) letters
      → IsReader (Arguments login letters) (arguments_after word)
  reads_arguments CapabilityWord allowed is =
      reads_none Capability (λ end is_end. ([], end, subst (IsWord (codes "capability")) (sym (append-nil letters)) is, is_end, refl))
  reads_arguments NoopWord allowed is = reads_none Noop (λ end is_end. ([], end, subst (IsWord (codes "noop")) (sym (append-nil letters)) is, is_end, refl))
  reads_arguments LogoutWord allowed is = reads_none Logout
      (λ end is_end. ([], end, subst (IsWord (codes "logout")) (sym (append-nil letters)) is, is_end, refl))
  reads_arguments LoginWord allowed is = reads_user allowed is
  reads_arguments GetQuotaWord allowed is = reads_then Alone Own name_alone (λ root. gives (GetQuota root)) reads_alone
      (λ bytes name p. reads_gives (λ b. Own (bytes ++ b)) (GetQuota name)
      (32 ∷ p.0, p.1, (allowed, (letters, p.0, is, p.2, refl)), p.3, append-nil bytes ∙ p.4))
  reads_arguments GetQuotaRootWord allowed is = reads_then Alone Own name_alone (λ mailbox. gives (GetQuotaRoot mailbox)) reads_alone
      (λ bytes name p. reads_gives (λ b. Own (bytes ++ b)) (GetQuotaRoot name)
      (32 ∷ p.0, p.1, (allowed, (letters, p.0, is, p.2, refl)), p.3, append-nil bytes ∙ p.4))
  reads_arguments SetQuotaWord allowed is = reads_limits allowed is
  reads_arguments StatusWord allowed is = reads_statuses allowed is
  reads_arguments AppendWord allowed is = reads_message allowed is
