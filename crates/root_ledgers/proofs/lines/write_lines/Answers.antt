use Rattle.std.proofs.Common.{true, false, arith}
use Rattle.std.specs.Option.{option_map}
use Rattle.keeper.specs.Calls.{Told}
use Rattle.root_ledgers.specs.Lines.{change_at}
use Rattle.keeper.proofs.Changing.{changes_then}
use Rattle.root_ledgers.proofs.LineLemmas.{books_more, ledgers_more, fell_more, causes_then}
use Rattle.keeper.proofs.Spending.{spends_then}
use Rattle.root_ledgers.proofs.lines.write_lines.Goals as goal

pub loop-root-preserved : goal.loop-root-preserved
loop-root-preserved g c =
    let changes = change_at c.args.roots.now (option_map (λ m. m.now) c.args.from) (option_map (λ m. m.now) c.args.to) in
    let n = c.loop-root.root in
    let limits = c.args.limits.now in
    let a = c.args.books.now.items in
    let b = c.loop-root.books.items in
    let d = c.post_at.new.books.items in
    let before = c.loop-root.invariant in
    let posted = c.post_at.ensures in
    record {
      books = books_more changes c.args.octets limits n a b d posted.others before.books posted.count posted.book;
      small = posted.small;
      files = changes_then {X = Told} _ _ _ (λ (x y z : Told). ledgers_more changes c.args.octets limits n a b d posted.others x.files y.files z.files before.books) _ _ _ before.files posted.files;
      faults = causes_then _ _ _ _ _ _ (fell_more changes c.args.octets limits n a b d posted.others false before.books) before.faults posted.faults;
      appends = causes_then _ _ _ _ _ _ (fell_more changes c.args.octets limits n a b d posted.others true before.books) before.appends posted.appends;
      due = spends_then ⊥ ⊥ _ _ _ _ _ _ (omega (arith, before.faults.later, before.appends.later)) before.due posted.due;
    }
