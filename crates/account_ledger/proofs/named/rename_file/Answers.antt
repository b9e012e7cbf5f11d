use Rattle.std.proofs.Common.{◌≡◌, true, ap, sym, rules}
use Rattle.std.specs.Prelude.{bytes_eq}
use Rattle.std.proofs.lemmas.Slice.Eq.{bytes_eq-Decides}
use Rattle.keeper.specs.Files.{Files}
use Rattle.keeper.specs.Calls.{Told}
use Rattle.keeper.proofs.Changing.{changes_same}
use Rattle.account_ledger.proofs.Found.{renamed_same}
use Rattle.account_ledger.proofs.named.rename_file.Goals as goal

pub returns-then-eq-2-clause-files : goal.returns-then-eq-2-clause-files
returns-then-eq-2-clause-files g c =
    let box : bytes_eq c.args.from.now c.args.to.now ≡ true = search rules in
    let name : bytes_eq c.args.name.now c.args.new_name.now ≡ true = search rules in
    changes_same {X = Told} _ (λ (x : Told). sym (ap (λ rs. let f : Files = record x.files { rows = rs } in f)
    (renamed_same c.args.from.now c.args.name.now c.args.to.now c.args.new_name.now x.files.rows ((bytes_eq-Decides c.args.from.now c.args.to.now).0 box) ((bytes_eq-Decides c.args.name.now c.args.new_name.now).0 name)))) (g.K.Keeper.told c.args.keeper.now)
