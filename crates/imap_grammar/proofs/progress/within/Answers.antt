use Rattle.std.proofs.Common.{sym, arith}
use Rattle.std.proofs.lemmas.List.{length-take-le, take_all}
use Rattle.imap_grammar.proofs.progress.within.Goals as goal

pub slice_bounds-result-end : goal.slice_bounds-result-end
slice_bounds-result-end c = sym (length-take-le 16384 c.args.text.now (omega arith))

pub returns : goal.returns
returns c = sym (take_all 16384 c.args.text.now (omega arith))
