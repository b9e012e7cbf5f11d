use Rattle.std.proofs.Common.{◌∙◌, arith}
use Rattle.std.proofs.lemmas.List.{length-set}
use Rattle.std.proofs.lemmas.List.Elements.{All-set}
use Rattle.quota_units.specs.Sums.{AreSmall}
use Rattle.account_ledger.proofs.Replying.{totals_more}
use Rattle.account_ledger.proofs.rows.totals_of.Goals as goal

pub loop-root-preserved : goal.loop-root-preserved
loop-root-preserved c =
    let t = c.loop-root.invariant in
    record {
      value = totals_more c.args.books.now c.loop-root.totals c.loop-root.root _ (omega (arith, t.four, c.requires.few)) (omega arith) t.value;
      small = All-set AreSmall c.loop-root.totals c.loop-root.root _ (c.requires.small c.loop-root.root _ (omega arith)) t.small;
      four = length-set c.loop-root.totals c.loop-root.root _ ∙ t.four;
    }
