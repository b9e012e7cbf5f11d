use Rattle.std.proofs.Common.{◌≡◌, ◌∙◌, ap, sym, get_or}
use Rattle.std.specs.Str.{str_eq_ignore_ascii_case, str_to_ascii_lowercase}
use Rattle.accounts_file.proofs.DoubleLemmas.{lower_at, noted_before, noted_more, repeat_on}
use Rattle.accounts_file.proofs.doubles.repeated_in_any_case.Goals as goal

pub loop-at-preserved : goal.loop-at-preserved
loop-at-preserved c =
    let names = c.args.names.now in
    let at = c.loop-at.at in
    let name = c.index-names-at.result in
    let text = c.as_slice.result.now in
    let here : text ≡ str_to_ascii_lowercase (get_or names at name) =
    c.as_slice.ensures.value ∙ ap (λ lower. lower.items) c.index.ensures
    ∙ lower_at names c.in_ok-lower.lower.items at name c.index.result.now c.in_ok-lower.ensures.texts c.in_ok-lower.ensures.count c.loop-at-test.true in
    let new = sym (noted_before names at name text c.loop-at.notes here c.loop-at.invariant.1) ∙ sym c.in_ok-insert_text.ensures.again ∙ c.if-branch.false in (
      repeat_on str_eq_ignore_ascii_case names at name c.loop-at-test.true c.loop-at.invariant.0 new,
      noted_more names at name text c.loop-at.notes c.insert_text.new.notes c.loop-at-test.true here c.in_ok-insert_text.ensures.notes c.loop-at.invariant.1,
    )
