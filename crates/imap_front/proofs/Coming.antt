-- Bytes of a request of IMAP that came from a feed.
use Rattle.std.proofs.Common.{ℕ, List, Option, is_some}
use Rattle.imap_grammar.specs.Reaching.{Reached}
use Rattle.accounts_file.specs.Hosts.{Hosts}
use Rattle.front_core.specs.Taking.{Came}
use Rattle.imap_front.specs.Imap.{imap}

pub came : (hosts : Hosts) (login : Option ℕ) (come written : List ℕ) → Reached (is_some login) come written → Came (imap hosts) login come written
came hosts login come written r = record { early = r.early; asked = r.asked }
