use Rattle.std.proofs.Common.{ap, ◌∙◌, sym}
use Rattle.quota_units.specs.Flagging.{has_flag}
use Rattle.quota_units.proofs.FlagLemmas.{has_among}
use Rattle.quota_units.proofs.flags.Flags.of_letters.Goals as goal

pub returns-then-are_flag_letters-clause-exact : goal.returns-then-are_flag_letters-clause-exact
returns-then-are_flag_letters-clause-exact c = λ letter.
    ap (λ flags. has_flag flags letter) c.among.ensures
    ∙ has_among c.args.letters.now (sym c.are_flag_letters.ensures ∙ c.if-are_flag_letters.true) letter
