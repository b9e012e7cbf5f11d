use Rattle.std.proofs.Common.{◌≡◌, ◌<◌, ◌^◌, true, rules, arith, subst, sym}
use Rattle.std.proofs.lemmas.Grind.{common_steps}
use Rattle.message_names.specs.Sizes.{cut_size}
use Rattle.message_names.specs.Messages.{message_of}
use Rattle.message_names.specs.Written.{is_base, written_name}
use Rattle.message_names.proofs.ReadingLemmas.{written_back}
use Rattle.message_names.proofs.writing.print_name.Goals as goal

pub returns-clause-reads_back : goal.returns-clause-reads_back
returns-clause-reads_back c =
    let written : c.push_flags.new.name.items ≡ written_name c.args.base.now c.args.size c.args.flags = grind (arith, common_steps) in
    let right : is_base c.args.base.now ≡ true = search rules in
    let small : c.args.size < 2 ^ 64 = omega arith in
    λ length. subst
    (λ name. message_of name length ≡ record { base = c.args.base.now; octets = cut_size c.args.size; flags = c.args.flags })
    (sym written) (written_back c.args.base.now c.args.size c.args.flags right small length)
