use Rattle.std.proofs.Common.{◌∷◌, ap, ◌∙◌, sym}
use Rattle.message_names.specs.Sizes.{size_named}
use Rattle.message_names.specs.Fields.{size_in_field}
use Rattle.message_names.proofs.FieldLemmas.{field_some, field_none}
use Rattle.message_names.proofs.sizes.size_in_fields.Goals as goal

pub loop-rest-preserved : goal.loop-rest-preserved
loop-rest-preserved c =
    ap (λ ys. size_named (44 ∷ ys)) c.around_first.ensures.after
    ∙ field_none c.loop-rest.rest.now c.size_in_field-size.result
    (c.size_in_field-size.ensures ∙ ap size_in_field c.around_first.ensures.before) (sym c.is_some.ensures ∙ c.if-is_some.false)
    ∙ c.loop-rest.invariant

pub returns-then-is_some : goal.returns-then-is_some
returns-then-is_some c =
    field_some c.loop-rest.rest.now c.size_in_field-size.result
    (c.size_in_field-size.ensures ∙ ap size_in_field c.around_first.ensures.before) (sym c.is_some.ensures ∙ c.if-is_some.true)
    ∙ c.loop-rest.invariant
