use Rattle.std.proofs.Common.{◌≡◌, ◌⊎◌, ◌++◌, [], ◌∷◌, List, map, Some, ap, ◌∙◌, append_assoc, rules}
use Rattle.std.specs.Prelude.{All}
use Rattle.std.specs.Vec.Iter.{into_iter_items}
use Rattle.std.proofs.lemmas.List.Elements.{All-push}
use Rattle.quota_roots.specs.Setups.{IsSound}
use Rattle.accounts_file.specs.declared.entry.AccountEntry.{AccountEntry}
use Rattle.accounts_file.specs.declared.error.AccountsError.TheVariants.{NoMemory}
use Rattle.accounts_file.specs.Doubles.{own_double}
use Rattle.accounts_file.specs.Refusals.{first_in}
use Rattle.accounts_file.proofs.DoubleLemmas.{double_more, double_told}
use Rattle.accounts_file.proofs.doubles.entries_of.Goals as goal

pub returns-in_err-entry_of-clause-err : goal.returns-in_err-entry_of-clause-err
returns-in_err-entry_of-clause-err c =
    let at = c.loop-draft in
    let e = c.in_err-entry_of.field-0.0 in
    let steps : into_iter_items at.draft-iterator ≡ c.in-Some.draft ∷ into_iter_items c.next.new.self = c.in-Some.ensures.steps.0 in
    let all : at.yielded ++ c.in-Some.draft ∷ into_iter_items c.next.new.self ≡ c.args.drafts.items =
    rw (← steps) at.invariant.0 ∙ c.into_iter-draft-iterator.ensures.into_iter_gives.0 in
    let told : (e ≡ NoMemory) ⊎ (first_in (map own_double c.args.drafts.items) ≡ Some e) =
    double_told c.args.drafts.items at.yielded c.in-Some.draft (into_iter_items c.next.new.self) e at.invariant.2 all c.in_err-entry_of.ensures.reads in
    search rules

pub loop-draft-preserved : goal.loop-draft-preserved
loop-draft-preserved c =
    let at = c.loop-draft in
    let x = c.in-Some.draft in
    let steps : into_iter_items at.draft-iterator ≡ x ∷ into_iter_items c.next.new.self = c.in-Some.ensures.steps.0 in
    let is : c.in_ok-entry_of.field-0 ≡ x = c.in_ok-entry_of.ensures.reads.1 in
    let entries : c.push.new.self.items ≡ at.entries.items ++ c.in_ok-entry_of.field-0 ∷ [] = c.in_ok-push.ensures.items in
    let sound : All (λ (entry : AccountEntry). IsSound entry.setup) c.push.new.self.items =
    rw entries (All-push (λ (entry : AccountEntry). IsSound entry.setup) at.entries.items c.in_ok-entry_of.field-0 at.invariant.3 c.in_ok-entry_of.ensures.sound) in (
      append_assoc at.yielded (x ∷ []) _ ∙ rw (← steps) at.invariant.0,
      entries ∙ ap (λ (l : List AccountEntry). l ++ c.in_ok-entry_of.field-0 ∷ []) at.invariant.1 ∙ ap (λ (a : AccountEntry). at.yielded ++ a ∷ []) is,
      double_more at.yielded x at.invariant.2 c.in_ok-entry_of.ensures.reads.0,
      sound,
    )
