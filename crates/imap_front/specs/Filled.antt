-- Each text can be continued to a whole request of IMAP.
use Rattle.std.proofs.Common.{is_some, refl}
use Rattle.wire_io.specs.Protocol.{IsFilled}
use Rattle.imap_grammar.proofs.Filled.{fills}
use Rattle.accounts_file.specs.Hosts.{Hosts}
use Rattle.imap_front.specs.Imap.{imap}

pub imap_filled : (hosts : Hosts) → IsFilled (imap hosts)
imap_filled hosts = record {
  starts = λ login. refl;
  fills = λ login text. fills (is_some login) text;
}
