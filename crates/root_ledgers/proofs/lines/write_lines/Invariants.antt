use Rattle.std.proofs.Common.{◌+◌, true, false}
use Rattle.std.specs.Option.{option_map}
use Rattle.keeper.specs.Calls.{Changes, OnFiles, Spends}
use Rattle.root_ledgers.specs.Lines.{change_at, BooksLined, LedgersLined, HasCauses, fell_below}
use Rattle.root_ledgers.specs.Settling.{AreSmallBooks}
use Rattle.root_ledgers.proofs.lines.write_lines.Given as goal

abbrev pub invariant-loop-root : goal.invariant-loop-root
invariant-loop-root g l = record {
  books : BooksLined l.root (change_at l.roots (option_map (λ m. m.now) l.from) (option_map (λ m. m.now) l.to)) l.octets l.limits l.initial.books.items l.books.items;
  small : AreSmallBooks l.books.items;
  files : Changes (OnFiles (LedgersLined l.root (change_at l.roots (option_map (λ m. m.now) l.from) (option_map (λ m. m.now) l.to)) l.octets l.limits l.initial.books.items l.books.items)) (g.K.Keeper.told l.initial.keeper) (g.K.Keeper.told l.keeper);
  faults : HasCauses (fell_below l.root false (change_at l.roots (option_map (λ m. m.now) l.from) (option_map (λ m. m.now) l.to)) l.octets l.initial.books.items l.books.items) (g.K.Keeper.faults l.initial.keeper) (g.K.Keeper.faults l.keeper);
  appends : HasCauses (fell_below l.root true (change_at l.roots (option_map (λ m. m.now) l.from) (option_map (λ m. m.now) l.to)) l.octets l.initial.books.items l.books.items) (g.K.Keeper.append_faults l.initial.keeper) (g.K.Keeper.append_faults l.keeper);
  due : Changes (Spends ⊥ (g.K.Keeper.faults l.initial.keeper + g.K.Keeper.append_faults l.initial.keeper) (g.K.Keeper.faults l.keeper + g.K.Keeper.append_faults l.keeper)) (g.K.Keeper.told l.initial.keeper) (g.K.Keeper.told l.keeper);
}
