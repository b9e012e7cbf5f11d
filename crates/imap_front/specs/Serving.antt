-- A session of IMAP, and whose commands it serves.
use Rattle.std.specs.Prelude.{◌≡◌, ◌<◌, ℕ, List, length, Option}
use Rattle.wire_io.specs.declared.ends.SessionEnd.{SessionEnd}
use Rattle.wire_io.specs.Serving.{IsSession}
use Rattle.accounts_file.specs.Hosts.{Hosts}
use Rattle.accounts_file.specs.declared.entry.AccountEntry.{AccountEntry}
use Rattle.account_core.specs.History.{Answer}
use Rattle.desk.specs.Shares.{Share, share_at}
use Rattle.desk.specs.Asking.{DeskCall}
use Rattle.front_core.specs.Desks.{input_limit}
use Rattle.imap_front.specs.Texts.{greeting}
use Rattle.imap_front.specs.Imap.{imap}

-- a desk with these shares has the account of this number, with the roots of this entry
pub record IsOwnerOf (shares : List Share) (account : ℕ) (entry : AccountEntry) : Type 0 where
  pub there : account < length shares
  pub roots : (share_at shares account).origin.roots ≡ entry.setup.roots

-- The bytes that left the source, the calls on the desk with their answers, the bytes that the sink
-- gained and the end are a session of IMAP, in which this account, or nobody, is logged in at the
-- start. `Logs` says of the calls what they did to the desk.
abbrev pub IsImapSession : Hosts → (login : Option ℕ) → (Logs : List (DeskCall × Answer) → Type 0)
    → (left left' written written' : Option (List ℕ)) → SessionEnd → Type 0
IsImapSession hosts login Logs left left' written written' end =
    IsSession (imap hosts) (greeting login) login input_limit Logs left left' written written' end
