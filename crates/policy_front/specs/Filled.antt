-- Each text can be continued to a whole request.
use Rattle.std.proofs.Common.{refl}
use Rattle.wire_io.specs.Protocol.{IsFilled}
use Rattle.accounts_file.specs.Hosts.{Hosts}
use Rattle.policy_front.specs.Policy.{policy}
use Rattle.policy_front.specs.Filling.{fills}

pub policy_filled : (hosts : Hosts) → IsFilled (policy hosts)
policy_filled hosts = record {
  starts = λ login. refl;
  fills = λ login text. fills text;
}
