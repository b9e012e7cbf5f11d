use Rattle.std.proofs.Common.{◌∙◌, ◌++◌, ◌∷◌, [], ap, sym, append-nil, true, false, arith}
use Rattle.std.proofs.lemmas.List.{length_push}
use Rattle.account_ledger.specs.Rows.{kept_row}
use Rattle.account_ledger.proofs.Replying.{rows_more}
use Rattle.account_ledger.proofs.rows.rows_of.Goals as goal
use Rattle.account_ledger.proofs.rows.rows_of.Goals.{then-governs, else-governs}

pub loop-root-preserved : goal.loop-root-preserved
loop-root-preserved c =
    let f = kept_row c.args.limits.now c.args.books.now in
    let before = c.loop-root.invariant in
    elim c.if-governs.branch [
      | then-governs w ↦ rw w.rows-is (record {
        rows = w.push_reserved.ensures.items ∙ ap (λ r. c.loop-root.rows.items ++ r ∷ []) w.row.ensures
            ∙ rows_more f c.args.roots.now c.args.mailbox.now c.loop-root.root c.loop-root.rows.items true (sym c.governs.ensures ∙ w.if-governs.true) before.rows;
        few = rw w.push_reserved.ensures.items (omega (arith, length_push c.loop-root.rows.items w.row.result, before.few));
        held = omega (arith, w.push_reserved.ensures.capacity, before.held);
      })
      | else-governs w ↦ rw w.rows-is (record {
        rows = sym (append-nil c.loop-root.rows.items)
            ∙ rows_more f c.args.roots.now c.args.mailbox.now c.loop-root.root c.loop-root.rows.items false (sym c.governs.ensures ∙ w.if-governs.false) before.rows;
        few = omega (arith, before.few);
        held = before.held;
      })
    ]
