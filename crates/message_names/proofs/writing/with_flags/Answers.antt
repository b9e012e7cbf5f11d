use Rattle.std.proofs.Common.{◌≡◌, arith, subst, sym}
use Rattle.std.proofs.lemmas.Grind.{common_steps}
use Rattle.message_names.specs.Written.{renamed}
use Rattle.message_names.specs.Laws.{IsRenamed}
use Rattle.message_names.proofs.ReadingLemmas.{renamed_back}
use Rattle.message_names.proofs.writing.with_flags.Goals as goal

pub returns-clause-reads_back : goal.returns-clause-reads_back
returns-clause-reads_back c =
    let written : c.push_others.new.name.items ≡ renamed c.args.name.now c.args.flags = grind (arith, common_steps) in
    subst (λ after. IsRenamed c.args.name.now after c.args.flags) (sym written) (renamed_back c.args.name.now c.args.flags)
