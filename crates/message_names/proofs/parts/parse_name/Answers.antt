use Rattle.std.proofs.Common.{◌∷◌, ap, subst, ◌∙◌, sym}
use Rattle.message_names.specs.Parts.{unique_of}
use Rattle.message_names.specs.Sizes.{size_named, IsSizeNamed}
use Rattle.message_names.proofs.FieldLemmas.{named_behind}
use Rattle.message_names.proofs.PlaceLemmas.{named_first}
use Rattle.message_names.proofs.parts.parse_name.Goals as goal

pub returns-clause-size : goal.returns-clause-size
returns-clause-size c =
    c.size_in_fields.ensures ∙ ap (λ ys. size_named (44 ∷ ys)) c.around_first-2.ensures.after
    ∙ named_behind c.around_first.result.0.now ∙ ap size_named c.around_first.ensures.before

pub returns-clause-first_place : goal.returns-clause-first_place
returns-clause-first_place c =
    subst (λ o. IsSizeNamed (unique_of c.args.name.now) o) (sym (returns-clause-size c)) (named_first (unique_of c.args.name.now))
