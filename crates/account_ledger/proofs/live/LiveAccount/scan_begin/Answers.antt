use Rattle.std.proofs.Common.{◌≡◌, map, [], refl, rules}
use Rattle.std.specs.Prelude.{Err}
use Rattle.quota_roots.specs.Governing.{governing}
use Rattle.account_core.specs.declared.calls.Call.TheVariants.{ScanBegin}
use Rattle.account_core.specs.declared.calls.Reply.TheVariants.{Begun}
use Rattle.account_core.specs.declared.calls.StepError.TheVariants.{NoMemory}
use Rattle.account_ledger.specs.Settling.{needs}
use Rattle.account_ledger.proofs.Answering.{none_needed}
use Rattle.account_ledger.proofs.Questioning.{begun_replied}
use Rattle.account_ledger.proofs.Stepping.{prepares_same, steps_answered, steps_spared}
use Rattle.account_ledger.proofs.live.LiveAccount.scan_begin.Goals as goal

pub returns-in_err-sets : goal.returns-in_err-sets
returns-in_err-sets g c =
    let is : c.from_residual.result ≡ Err NoMemory = search rules in
    rw is (steps_spared ScanBegin [] c.args.self.now c.show_whole.ensures refl)

pub returns : goal.returns
returns g c =
    let l = c.args.self.now in
    let sets : c.in_ok-sets.sets ≡ map (governing l.roots) l.mailboxes = search rules in
    rw c.generation-generation.ensures
    (steps_answered ScanBegin [] (Begun l.generation c.in_ok-sets.sets) ⊥ l l (λ f. f) (prepares_same ⊥ (needs l.roots ScanBegin) l (λ f. f)) c.show_whole.ensures
    (none_needed ScanBegin l l (λ root. refl))
    (λ account shows. begun_replied l account shows c.in_ok-sets.sets sets)
    (record { kind = refl; names = sets }) (λ account shows. refl) refl (λ rows. refl) refl)
