use Rattle.std.proofs.Common.{◌≡◌, map, take, drop}
use Rattle.std.specs.List.{list_all}
use Rattle.toml.specs.View.{view}
use Rattle.accounts_file.specs.Values.{is_text, text_or_empty}
use Rattle.accounts_file.proofs.lists.names_of.Given as goal

abbrev pub invariant-loop-item : goal.invariant-loop-item
invariant-loop-item l =
    (list_all (is_text l.key) (map view (drop l.item-index l.items)) ≡ list_all (is_text l.key) (map view l.items))
    × (l.names.items ≡ map (text_or_empty l.key) (map view (take l.item-index l.items)))
