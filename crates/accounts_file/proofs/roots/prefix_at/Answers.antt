use Rattle.std.proofs.Common.{◌≡◌, false, nat_eq, arith}
use Rattle.std.proofs.lemmas.Bool.Decides.{nat_tests}
use Rattle.toml.specs.View.{view}
use Rattle.accounts_file.proofs.RuleLemmas.{read_prefix}
use Rattle.accounts_file.proofs.roots.prefix_at.Goals as goal

pub returns-in_ok-text_of-in-Some-clause-right : goal.returns-in_ok-text_of-in-Some-clause-right
returns-in_ok-text_of-in-Some-clause-right c =
    let other : nat_eq c.args.root 0 ≡ false = grind (arith, nat_tests) in
    read_prefix c.args.root (view c.in-Some.value.now) c.in_ok-text_of-in-Some.field-0 other c.in_ok-text_of-in-Some.ensures.0 c.in_ok-text_of-in-Some.ensures.1
