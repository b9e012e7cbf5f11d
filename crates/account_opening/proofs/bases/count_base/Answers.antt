use Rattle.std.proofs.Common.{◌∙◌, ap, cond, bytes_eq, Option, Some, ℕ}
use Rattle.std.proofs.lemmas.Map.Text.{btree_map_updates_str}
use Rattle.account_opening.specs.Bases.{noted}
use Rattle.account_opening.proofs.NoteLemmas.{over_again}
use Rattle.account_opening.proofs.bases.count_base.Goals as goal

pub returns-then-is_none-clause-notes : goal.returns-then-is_none-clause-notes
returns-then-is_none-clause-notes c = btree_map_updates_str c.args.base.now c.args.notes.now c.insert.new.self _ c.in_ok-insert.ensures.updates

pub returns-clause-notes : goal.returns-clause-notes
returns-clause-notes c = λ other.
    let same = bytes_eq c.args.base.now other in
    btree_map_updates_str c.args.base.now c.insert.new.self c.insert-2.new.self _ c.in_ok-insert-2.ensures.updates other
    ∙ ap (λ (o : Option ℕ). cond same (Some 2) o) (btree_map_updates_str c.args.base.now c.args.notes.now c.insert.new.self _ c.in_ok-insert.ensures.updates other)
    ∙ over_again same (Some 1) (Some 2) (noted c.args.notes.now other)
