-- Worked texts, and what each has come to.
use Rattle.std.proofs.Common.{◌≡◌, ℕ, true, false, List, [], ◌∷◌, ◌++◌, replicate, Some, None, Ok, Err, refl, codes}
use Rattle.imap_grammar.specs.declared.command.Command.TheVariants.{Capability, Noop, Login, GetQuota, SetQuota, Status, Append}
use Rattle.imap_grammar.specs.declared.command.CommandFault.TheVariants.{TooLong, InvalidTag, Unknown, NotAuthenticated, AlreadyAuthenticated, Syntax, LiteralTooLarge, MessageTooLarge}
use Rattle.imap_grammar.specs.declared.progress.Progress.TheVariants.{Whole, Literal, Message, More}
use Rattle.imap_grammar.specs.declared.status.StatusItem.TheVariants.{Messages, Unseen, Deleted, DeletedStorage, Size}
use Rattle.quota_units.specs.Flagging.{flags_among}
use Rattle.imap_grammar.specs.Progressing.{progress_in, command_in}
use Rattle.imap_grammar.specs.Requests.{whole_at, asked_later, command, refused, ready}

-- commands without arguments, in any case, with either line's end
noop : progress_in false (codes "a1 NOOP\r\n") ≡ Ok (Whole Noop 2)
noop = refl

logout : progress_in true (codes "+x Logout\n") ≡ Err InvalidTag
logout = refl

capability : progress_in false (codes "tag.7 capability\n") ≡ Ok (Whole Capability 5)
capability = refl

bytes_after : progress_in false (codes "a1 LOGOUT\r\nb") ≡ Err (Syntax 11)
bytes_after = refl

-- names: plain, quoted, and as literals
login : progress_in false (codes "a1 LOGIN bob \"p\\\"w\"\r\n") ≡ Ok (Whole (Login (codes "bob") (codes "p\"w")) 2)
login = refl

login_literals : progress_in false (codes "a1 LOGIN {3}\r\nb\nb {0}\n\r\n") ≡ Ok (Whole (Login (codes "b\nb") []) 2)
login_literals = refl

first_marker : progress_in false (codes "a1 LOGIN {3}\r\n") ≡ Ok (Literal 3)
first_marker = refl

zeros_in_marker : progress_in true (codes "a1 GETQUOTA {0000000003}\n") ≡ Ok (Literal 3)
zeros_in_marker = refl

within_literal : progress_in false (codes "a1 LOGIN {3}\r\nbo") ≡ Ok (More 16)
within_literal = refl

empty_literal : progress_in true (codes "a1 GETQUOTA {0}\r\n") ≡ Ok (Literal 0)
empty_literal = refl

-- places of syntax errors
space_after_noop : progress_in true (codes "a1 NOOP x\r\n") ≡ Err (Syntax 7)
space_after_noop = refl

quoted_marker : progress_in true (codes "a1 GETQUOTA \"{5}\r\n") ≡ Err (Syntax 16)
quoted_marker = refl

eleven_digits : progress_in true (codes "a1 GETQUOTA {12345678901}\r\n") ≡ Err (Syntax 23)
eleven_digits = refl

plus_in_marker : progress_in true (codes "a1 GETQUOTA {1+}\r\n") ≡ Err (Syntax 14)
plus_in_marker = refl

no_digit : progress_in true (codes "a1 GETQUOTA {}\r\n") ≡ Err (Syntax 13)
no_digit = refl

too_large_a_number : progress_in true (codes "a1 SETQUOTA r (STORAGE 9223372036854775808)\r\n") ≡ Err (Syntax 41)
too_large_a_number = refl

twenty_digits : progress_in true (codes "a1 SETQUOTA r (STORAGE 00000000000000000001)\r\n") ≡ Err (Syntax 42)
twenty_digits = refl

bare_backslash : progress_in true (codes "a1 APPEND INBOX (\\) {3}\r\n") ≡ Err (Syntax 18)
bare_backslash = refl

no_items : progress_in true (codes "a1 STATUS INBOX ()\r\n") ≡ Err (Syntax 17)
no_items = refl

no_argument : progress_in true (codes "a1 GETQUOTA\r\n") ≡ Err (Syntax 11)
no_argument = refl

after_a_marker : progress_in true (codes "a1 GETQUOTA {3}x\r\n") ≡ Err (Syntax 15)
after_a_marker = refl

after_a_literal : progress_in true (codes "a1 GETQUOTA {3}\r\nab\nc\r\n") ≡ Err (Syntax 20)
after_a_literal = refl

-- words and tags
paren_after_word : progress_in true (codes "a1 LOGOUT(\r\n") ≡ Err Unknown
paren_after_word = refl

digit_after_word : progress_in true (codes "a1 NOOP1\r\n") ≡ Err Unknown
digit_after_word = refl

two_spaces : progress_in true (codes "a1  NOOP\r\n") ≡ Err Unknown
two_spaces = refl

cr_in_word : progress_in true (codes "a1 NOOP\rx\n") ≡ Err Unknown
cr_in_word = refl

two_crs : progress_in true (codes "a1 NOOP\r\r\n") ≡ Err Unknown
two_crs = refl

unknown_before_login : progress_in false (codes "a1 GETQUOTA( r\n") ≡ Err Unknown
unknown_before_login = refl

tag_alone : progress_in false (codes "a1\r\n") ≡ Err InvalidTag
tag_alone = refl

empty_line : progress_in false (codes "\n") ≡ Err InvalidTag
empty_line = refl

longest_tag : progress_in false (replicate 64 97 ++ codes " NOOP\n") ≡ Ok (Whole Noop 64)
longest_tag = refl

too_long_a_tag : progress_in false (replicate 65 97 ++ codes " NOOP\n") ≡ Err InvalidTag
too_long_a_tag = refl

not_yet : progress_in false (codes "a1 append inbox {3}\r\n") ≡ Err NotAuthenticated
not_yet = refl

already : progress_in true (codes "a1 LOGIN {3}\r\n") ≡ Err AlreadyAuthenticated
already = refl

rest_not_looked_at : progress_in false (codes "a1 STATUS (((\n") ≡ Err NotAuthenticated
rest_not_looked_at = refl

-- lists
no_limits : progress_in true (codes "a1 SETQUOTA \"\" ()\n") ≡ Ok (Whole (SetQuota [] []) 2)
no_limits = refl

items : progress_in true (codes "a1 STATUS inbox (Size unseen deleted-Storage X messages DELETED Size)\n")
    ≡ Ok (Whole (Status (codes "inbox") (Some Size ∷ Some Unseen ∷ Some DeletedStorage ∷ None ∷ Some Messages ∷ Some Deleted ∷ Some Size ∷ [])) 2)
items = refl

-- APPEND, up to its marker and after it
append : progress_in true (codes "a1 APPEND inbox {3}\r\n") ≡ Ok (Message 3)
append = refl

append_whole : progress_in true (codes "a1 APPEND inbox {3}\r\n\r\n") ≡ Ok (Whole (Append (codes "inbox") (flags_among []) 3) 2)
append_whole = refl

append_all : progress_in true (codes "a1 APPEND inbox (\\seen Work \\FLAGGED \\Recent) \" 1-Jan-2026\" {3}\n\n") ≡ Ok (Whole (Append (codes "inbox") (flags_among (codes "FS")) 3) 2)
append_all = refl

no_flags : progress_in true (codes "a1 APPEND inbox () {3}\n\r\n") ≡ Ok (Whole (Append (codes "inbox") (flags_among []) 3) 2)
no_flags = refl

mailbox_and_message : progress_in true (codes "a1 APPEND {5}\r\nINBOX {3}\r\n") ≡ Ok (Message 3)
mailbox_and_message = refl

after_the_message : progress_in true (codes "a1 APPEND INBOX {3}\r\nx\r\n") ≡ Err (Syntax 21)
after_the_message = refl

cr_after_the_message : progress_in true (codes "a1 APPEND INBOX {3}\r\n\rx\r\n") ≡ Err (Syntax 22)
cr_after_the_message = refl

date_before_flags : progress_in true (codes "a1 APPEND INBOX \"d\" (\\Seen) {3}\r\n") ≡ Err (Syntax 20)
date_before_flags = refl

largest_message : progress_in true (codes "a1 APPEND INBOX {67108864}\n") ≡ Ok (Message 67108864)
largest_message = refl

too_large_a_message : progress_in true (codes "a1 APPEND INBOX {67108865}\n") ≡ Err MessageTooLarge
too_large_a_message = refl

-- sizes: the text up to the marker has 20 bytes
largest_literal : progress_in true (codes "a1 GETQUOTA {16364}\n") ≡ Ok (Literal 16364)
largest_literal = refl

too_large_a_literal : progress_in true (codes "a1 GETQUOTA {16365}\n") ≡ Err LiteralTooLarge
too_large_a_literal = refl

-- the same in a session's bytes
in_session : whole_at false (codes "a1 NOOP\r\n") ≡ Some (command (codes "a1") Noop [])
in_session = refl

partial : whole_at true (codes "a1 APPEND inbox {3}\r\nab") ≡ None
partial = refl

with_a_message : whole_at true (codes "a1 APPEND inbox {3}\r\na\nb\r\n") ≡ Some (command (codes "a1") (Append (codes "inbox") (flags_among []) 3) (codes "a\nb"))
with_a_message = refl

message_unended : whole_at true (codes "a1 APPEND inbox {3}\r\na\nbx") ≡ None
message_unended = refl

message_wrong : whole_at true (codes "a1 APPEND INBOX {3}\r\na\nb\rx\n") ≡ Some (refused (codes "a1") (Syntax 22))
message_wrong = refl

marker_refused : whole_at true (codes "a1 APPEND INBOX {67108865}\n") ≡ Some (refused (codes "a1") MessageTooLarge)
marker_refused = refl

no_tag : whole_at true (codes "a1\r\n") ≡ Some (refused [] InvalidTag)
no_tag = refl

one_prompt : asked_later true [] (codes "a1 GETQUOTA {3}\r\nabc\r\n") ≡ ready
one_prompt = refl

two_prompts : asked_later false [] (codes "a1 LOGIN {0}\r\n {0}\r\n\r\n") ≡ ready ++ ready
two_prompts = refl

message_prompts : asked_later true [] (codes "a1 APPEND {1}\nx {2}\r\n{}\r\n") ≡ ready ++ ready
message_prompts = refl

no_prompt : asked_later true [] (codes "a1 GETQUOTA \"{3}\r\nabc\r\n") ≡ []
no_prompt = refl

no_prompt_if_refused : asked_later true [] (codes "a1 APPEND INBOX {67108865}\n") ≡ []
no_prompt_if_refused = refl

-- texts of 16384 bytes
abbrev long_name : ℕ → List ℕ
long_name n = codes "a1 GETQUOTA " ++ replicate n 97

longest : progress_in true (long_name 16371 ++ codes "\n") ≡ Ok (Whole (GetQuota (replicate 16371 97)) 2)
longest = refl

too_long : progress_in true (long_name 16372) ≡ Err TooLong
too_long = refl

unended : progress_in true (long_name 16371) ≡ Ok (More 16383)
unended = refl

too_long_a_command : progress_in true (long_name 16372 ++ codes "\n") ≡ Err TooLong
too_long_a_command = refl

wrong_line_ends : progress_in true (codes "a1 NOOP " ++ replicate 16375 97 ++ codes "\n") ≡ Err (Syntax 7)
wrong_line_ends = refl

wrong_line_too_long : progress_in true (codes "a1 NOOP " ++ replicate 16376 97 ++ codes "\n") ≡ Err TooLong
wrong_line_too_long = refl

wrong_line_goes_on : progress_in true (codes "a1 NOOP " ++ replicate 16375 97) ≡ Ok (More 7)
wrong_line_goes_on = refl

marker_at_the_end : progress_in false (codes "a1 LOGIN " ++ replicate 16370 97 ++ codes " {1}\n") ≡ Err TooLong
marker_at_the_end = refl

message_at_the_end : progress_in true (codes "a1 APPEND " ++ replicate 16369 97 ++ codes " {1}\n") ≡ Err TooLong
message_at_the_end = refl

filled_by_a_literal : progress_in true (codes "a1 GETQUOTA {16364}\n" ++ replicate 16364 97) ≡ Err TooLong
filled_by_a_literal = refl

message_too_long : whole_at true (codes "a1 APPEND INBOX {3}\nabc" ++ replicate 16364 97) ≡ Some (refused [] TooLong)
message_too_long = refl

message_not_yet : whole_at true (codes "a1 APPEND INBOX {3}\nabc" ++ replicate 16363 97) ≡ None
message_not_yet = refl

-- parts of commands, as texts that have to be commands
prefix_of_command : command_in true (codes "a1 GETQUOTA r") ≡ Err (Syntax 13)
prefix_of_command = refl

prefix_to_marker : command_in false (codes "a1 LOGIN {3}\r\n") ≡ Err (Syntax 14)
prefix_to_marker = refl

prefix_of_word : command_in true (codes "a1 NOO") ≡ Err (Syntax 6)
prefix_of_word = refl

word_and_cr : command_in true (codes "a1 NOOP\r") ≡ Err (Syntax 8)
word_and_cr = refl

tag_and_space : command_in true (codes "a1 ") ≡ Err (Syntax 3)
tag_and_space = refl

tag_only : command_in true (codes "a1") ≡ Err (Syntax 2)
tag_only = refl

nothing : command_in true [] ≡ Err (Syntax 0)
nothing = refl

longest_tag_only : command_in true (replicate 64 97) ≡ Err (Syntax 64)
longest_tag_only = refl

too_long_a_tag_only : command_in true (replicate 65 97) ≡ Err InvalidTag
too_long_a_tag_only = refl

no_word : command_in true (codes "a1 XYZ") ≡ Err Unknown
no_word = refl

more_than_a_word : command_in true (codes "a1 NOOPX") ≡ Err Unknown
more_than_a_word = refl

cr_after_half_a_word : command_in true (codes "a1 NOO\r") ≡ Err Unknown
cr_after_half_a_word = refl

half_a_denied_word : command_in false (codes "a1 GETQUOT") ≡ Err (Syntax 10)
half_a_denied_word = refl

half_a_login : command_in true (codes "a1 logi") ≡ Err (Syntax 7)
half_a_login = refl

a_word_that_may_go_on : command_in false (codes "a1 GETQUOTA") ≡ Err (Syntax 11)
a_word_that_may_go_on = refl

denied_word : command_in false (codes "a1 GETQUOTA ") ≡ Err NotAuthenticated
denied_word = refl

denied_prefix : command_in false (codes "a1 GETQUOTA r") ≡ Err NotAuthenticated
denied_prefix = refl

wrong_without_end : command_in true (codes "a1 GETQUOTA (") ≡ Err (Syntax 12)
wrong_without_end = refl

wrong_in_marker : command_in true (codes "a1 GETQUOTA {1}\rx") ≡ Err (Syntax 16)
wrong_in_marker = refl

wrong_after_message : command_in true (codes "a1 APPEND INBOX {3}\r\nx") ≡ Err (Syntax 21)
wrong_after_message = refl

cr_after_message : command_in true (codes "a1 APPEND INBOX {3}\r\n\r") ≡ Err (Syntax 22)
cr_after_message = refl

literal_too_large : command_in true (codes "a1 GETQUOTA {16365}\n") ≡ Err LiteralTooLarge
literal_too_large = refl

message_too_large : command_in true (codes "a1 APPEND INBOX {67108865}\n") ≡ Err MessageTooLarge
message_too_large = refl

marker_alone : command_in true (codes "a1 APPEND INBOX {3}\r\n") ≡ Err (Syntax 21)
marker_alone = refl
