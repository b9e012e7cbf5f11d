use Rattle.std.proofs.Common.{◌≡◌, ◌∙◌, true, false, rules, ap, length, arith}
use Rattle.root_ledgers.specs.Ledgers.{folded}
use Rattle.root_ledgers.specs.Lines.{has_room, line_by, totals_by}
use Rattle.root_ledgers.proofs.LineLemmas.{no_room}
use Rattle.root_ledgers.proofs.lines.post.Goals as goal

pub returns-then-as_slice-saturating_sub-clause-files : goal.returns-then-as_slice-saturating_sub-clause-files
returns-then-as_slice-saturating_sub-clause-files g c =
    let room : has_room c.args.book.length (line_by c.args.change c.args.octets) ≡ true = search rules in
    let line : c.as_slice-then-as_slice-saturating_sub.result.now ≡ line_by c.args.change c.args.octets = c.as_slice-then-as_slice-saturating_sub.ensures.value ∙ c.print_change.ensures in
    rw room (rw line at (c.append.ensures.files (folded c.args.limits.now (totals_by c.args.change c.args.octets c.args.book.totals))))

pub returns-else-as_slice-saturating_sub-clause-files : goal.returns-else-as_slice-saturating_sub-clause-files
returns-else-as_slice-saturating_sub-clause-files g c =
    let line : c.as_slice.result.now ≡ line_by c.args.change c.args.octets = c.as_slice.ensures.value ∙ c.print_change.ensures in
    let room : has_room c.args.book.length (line_by c.args.change c.args.octets) ≡ false = no_room c.args.book.length (line_by c.args.change c.args.octets) (omega (arith, ap length line)) in
    rw (room, ← c.totals_by-totals.ensures.value) (c.fold.ensures.files (line_by c.args.change c.args.octets))
