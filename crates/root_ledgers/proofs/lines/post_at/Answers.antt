use Rattle.std.proofs.Common.{◌∙◌, None, rules, sym, arith}
use Rattle.std.proofs.lemmas.List.{get_or_read}
use Rattle.root_ledgers.specs.Settling.{no_book}
use Rattle.root_ledgers.proofs.LineLemmas.{lined_here}
use Rattle.root_ledgers.proofs.lines.post_at.Goals as goal

pub returns-in-Settled-clause-files : goal.returns-in-Settled-clause-files
returns-in-Settled-clause-files g c =
    lined_here c.args.root _ c.in-Some.change c.args.octets _ c.index-limits-root.result _ c.index-book.result.now _ c.post.result.standing _ _
    (sym c.change_at.ensures ∙ c.in-Some.is)
    (sym (get_or_read c.args.limits.now c.args.root c.index-limits-root.result (omega (arith, c.requires.limits, c.requires.root)) c.index-limits-root.is (record { octets = None; count = None })))
    (sym (get_or_read c.args.books.now.items c.args.root c.index-book.result.now (omega (arith, c.requires.books, c.requires.root)) c.index-book.ensures no_book))
    (search rules) (search rules) c.post.ensures.files
