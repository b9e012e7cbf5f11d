use Rattle.std.proofs.Common.{◌∙◌, ap, codes, Some}
use Rattle.clap.proofs.WalkLemmas.{first_value-rows}
use Rattle.clap.specs.Words.{found_of}
use Rattle.clap.specs.declared.parser.matches.ArgMatches.TheViews.{out-ArgMatches}
use Rattle.command_words.specs.Commands.{line_of}
use Rattle.command_words.proofs.Asked.{found_line}
use Rattle.command_words.proofs.commands.asked_of.Goals as goal

pub returns : goal.returns
returns c = ap (λ w. Some (line_of c.in_ok-command.command.now w)) (c.get_str.ensures ∙ first_value-rows (found_of c.in_ok-command.inner.now) (codes "word")) ∙ found_line (out-ArgMatches c.args.matches.now).subcommand c.in_ok-command.command.now (found_of c.in_ok-command.inner.now) c.in_ok-command.ensures.name c.in_ok-command.ensures.rows
