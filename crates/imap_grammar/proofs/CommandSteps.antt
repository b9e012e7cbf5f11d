-- Commands, when more bytes come after the text.
use Rattle.std.proofs.Common.{ℕ, Bool, true, false, List, Option, Some, None, if◌then◌else◌}
use Rattle.imap_grammar.specs.declared.command.Command.{Command}
use Rattle.imap_grammar.specs.declared.command.Command.TheVariants.{Capability, Noop, Logout, Login, GetQuota, GetQuotaRoot, SetQuota, Status, Append}
use Rattle.imap_grammar.specs.declared.word.Word.{Word}
use Rattle.imap_grammar.specs.declared.word.Word.TheVariants.{Capability as CapabilityWord, Noop as NoopWord, Logout as LogoutWord, Login as LoginWord, GetQuota as GetQuotaWord, GetQuotaRoot as GetQuotaRootWord, SetQuota as SetQuotaWord, Status as StatusWord, Append as AppendWord}
use Rattle.imap_grammar.specs.Bytes.{is_tag_byte, is_letter}
use Rattle.imap_grammar.specs.Reading.{Reader, ◌>>=◌, gives, fails, byte, many, line_end}
use Rattle.imap_grammar.specs.Astrings.{astring}
use Rattle.imap_grammar.specs.LimitLists.{limits_closed}
use Rattle.imap_grammar.specs.StatusItems.{status_items}
use Rattle.imap_grammar.specs.AppendArguments.{flagged_marker}
use Rattle.imap_grammar.specs.Commands.{word_of, is_tag_long, checked_tag, ended, name_alone, user_and_password, name_and_limits, name_and_items, name_and_message, arguments_after, is_allowed, allowed_arguments, arguments_of, tag_at, command_at}
use Rattle.imap_grammar.proofs.Growing.{Steady, steady_then, steady_byte, steady_many, steady_gives, steady_fails}
use Rattle.imap_grammar.proofs.Lined.{Lined, lined_then, lined_gives, lined_end, lined_fails}
use Rattle.imap_grammar.proofs.LiteralSteps.{steady_astring}
use Rattle.imap_grammar.proofs.ListSteps.{steady_limits, steady_status, lined_flagged}

lined_ended : (own : Command) → Lined (ended own)
lined_ended own = lined_gives line_end (λ end. own) lined_end

lined_name : Lined name_alone
lined_name =
    lined_then (byte 32) (λ space. astring >>= (λ name. line_end >>= (λ end. gives name))) (steady_byte 32)
    (λ space. lined_then astring (λ name. line_end >>= (λ end. gives name)) steady_astring (λ name. lined_gives line_end (λ end. name) lined_end))

lined_user : Lined user_and_password
lined_user =
    lined_then (byte 32) (λ space. astring >>= (λ user. byte 32 >>= (λ space. astring >>= (λ password. ended (Login user password))))) (steady_byte 32)
    (λ space. lined_then astring (λ user. byte 32 >>= (λ space. astring >>= (λ password. ended (Login user password)))) steady_astring
    (λ user. lined_then (byte 32) (λ space. astring >>= (λ password. ended (Login user password))) (steady_byte 32)
    (λ space. lined_then astring (λ password. ended (Login user password)) steady_astring (λ password. lined_ended (Login user password)))))

lined_limits : Lined name_and_limits
lined_limits =
    lined_then (byte 32) (λ space. astring >>= (λ root. byte 32 >>= (λ space. byte 40 >>= (λ opening. limits_closed >>= (λ limits. ended (SetQuota root limits)))))) (steady_byte 32)
    (λ space. lined_then astring (λ root. byte 32 >>= (λ space. byte 40 >>= (λ opening. limits_closed >>= (λ limits. ended (SetQuota root limits))))) steady_astring
    (λ root. lined_then (byte 32) (λ space. byte 40 >>= (λ opening. limits_closed >>= (λ limits. ended (SetQuota root limits)))) (steady_byte 32)
    (λ space. lined_then (byte 40) (λ opening. limits_closed >>= (λ limits. ended (SetQuota root limits))) (steady_byte 40)
    (λ opening. lined_then limits_closed (λ limits. ended (SetQuota root limits)) steady_limits (λ limits. lined_ended (SetQuota root limits))))))

lined_items : Lined name_and_items
lined_items =
    lined_then (byte 32) (λ space. astring >>= (λ mailbox. byte 32 >>= (λ space. byte 40 >>= (λ opening. status_items >>= (λ items. ended (Status mailbox items)))))) (steady_byte 32)
    (λ space. lined_then astring (λ mailbox. byte 32 >>= (λ space. byte 40 >>= (λ opening. status_items >>= (λ items. ended (Status mailbox items))))) steady_astring
    (λ mailbox. lined_then (byte 32) (λ space. byte 40 >>= (λ opening. status_items >>= (λ items. ended (Status mailbox items)))) (steady_byte 32)
    (λ space. lined_then (byte 40) (λ opening. status_items >>= (λ items. ended (Status mailbox items))) (steady_byte 40)
    (λ opening. lined_then status_items (λ items. ended (Status mailbox items)) steady_status (λ items. lined_ended (Status mailbox items))))))

lined_append : Lined name_and_message
lined_append =
    lined_then (byte 32) (λ space. astring >>= (λ mailbox. byte 32 >>= (λ space. flagged_marker >>= (λ own. gives (Append mailbox own.0 own.1))))) (steady_byte 32)
    (λ space. lined_then astring (λ mailbox. byte 32 >>= (λ space. flagged_marker >>= (λ own. gives (Append mailbox own.0 own.1)))) steady_astring
    (λ mailbox. lined_then (byte 32) (λ space. flagged_marker >>= (λ own. gives (Append mailbox own.0 own.1))) (steady_byte 32)
    (λ space. lined_gives flagged_marker (λ own. Append mailbox own.0 own.1) lined_flagged)))

lined_arguments : (word : Word) → Lined (arguments_after word)
lined_arguments CapabilityWord = lined_ended Capability
lined_arguments NoopWord = lined_ended Noop
lined_arguments LogoutWord = lined_ended Logout
lined_arguments LoginWord = lined_user
lined_arguments GetQuotaWord = lined_gives name_alone (λ root. GetQuota root) lined_name
lined_arguments GetQuotaRootWord = lined_gives name_alone (λ mailbox. GetQuotaRoot mailbox) lined_name
lined_arguments SetQuotaWord = lined_limits
lined_arguments StatusWord = lined_items
lined_arguments AppendWord = lined_append

lined_allowed : (allowed : Bool) (word : Word) → Lined (allowed_arguments allowed word)
lined_allowed true word = lined_arguments word
lined_allowed false word = lined_fails

lined_of : (login : Bool) (word : Option Word) → Lined (arguments_of login word)
lined_of login None = lined_fails
lined_of login (Some word) = lined_allowed (is_allowed word login) word

steady_checked : (bytes : List ℕ) → Steady (checked_tag bytes)
steady_checked bytes = go (is_tag_long bytes)
  where
    go : (c : Bool) → Steady (let reader : Reader (List ℕ) = if c then gives bytes else fails in reader)
    go true = steady_gives bytes
    go false = steady_fails

pub lined_command : (login : Bool) → Lined (command_at login)
lined_command login =
    lined_then tag_at (λ tag. byte 32 >>= (λ space. many is_letter >>= (λ letters. arguments_of login (word_of letters) >>= (λ own. gives (record { tag = tag; command = own })))))
    (steady_then (many is_tag_byte) checked_tag (steady_many is_tag_byte) steady_checked)
    (λ tag. lined_then (byte 32) (λ space. many is_letter >>= (λ letters. arguments_of login (word_of letters) >>= (λ own. gives (record { tag = tag; command = own })))) (steady_byte 32)
    (λ space. lined_then (many is_letter) (λ letters. arguments_of login (word_of letters) >>= (λ own. gives (record { tag = tag; command = own }))) (steady_many is_letter)
    (λ letters. lined_gives (arguments_of login (word_of letters)) (λ own. record { tag = tag; command = own }) (lined_of login (word_of letters)))))
