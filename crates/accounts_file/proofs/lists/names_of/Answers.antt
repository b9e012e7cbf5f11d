use Rattle.std.proofs.Common.{◌≡◌, ◌⊎◌, ◌<◌, length, map, Some, arith, rules}
use Rattle.std.specs.List.{list_all}
use Rattle.toml.specs.View.{view}
use Rattle.accounts_file.specs.declared.error.AccountsError.TheVariants.{NoMemory}
use Rattle.accounts_file.specs.Refusals.{judged}
use Rattle.accounts_file.specs.Values.{is_text}
use Rattle.accounts_file.proofs.ListLemmas.{texts_wrong}
use Rattle.accounts_file.proofs.lists.names_of.Goals as goal

pub returns-in_err-text_of-clause-err : goal.returns-in_err-text_of-clause-err
returns-in_err-text_of-clause-err c =
    let e = c.in_err-text_of.field-0.0 in
    let within : c.loop-item.item-index < length c.args.items.now = omega arith in
    let told : (e ≡ NoMemory) ⊎ (judged c.args.key (list_all (is_text c.args.key) (map view c.args.items.now)) ≡ Some e) =
    texts_wrong c.args.key c.args.items.now c.loop-item.item-index c.item-item.result e within c.item-item.is c.loop-item.invariant.0 c.in_err-text_of.ensures in
    search rules
