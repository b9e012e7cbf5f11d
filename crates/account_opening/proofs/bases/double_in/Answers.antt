use Rattle.std.proofs.Common.{◌≡◌, ◌∙◌, ap, sym, true, false, nat_lt, Option, Some, List, ℕ}
use Rattle.std.specs.Option.{option_map}
use Rattle.keeper.specs.declared.rows.FileRow.{FileRow}
use Rattle.account_opening.specs.Bases.{AreCounted, base_in, times_in, shown}
use Rattle.account_opening.proofs.OpeningLemmas.{found_here, passed_here}
use Rattle.account_opening.proofs.NoteLemmas.{is_twice, none_found}
use Rattle.account_opening.proofs.bases.double_in.Goals as goal

pub returns-in_default : goal.returns-in_default
returns-in_default c =
    sym (ap (λ (o : Option FileRow). option_map shown (option_map base_in o)) (none_found c.args.files.now (rw c.in_default.is at c.in_ok-notes.ensures) c.args.files.now))

pub returns-then-is_repeated : goal.returns-then-is_repeated
returns-then-is_repeated c =
    let files = c.args.files.now in
    let p = λ (file : FileRow). nat_lt 1 (times_in files (base_in file)) in
    let noted : AreCounted c.in-Some.notes files = rw c.in-Some.is at c.in_ok-notes.ensures in
    let passes : p c.file-item.result ≡ true = sym (is_twice files c.in-Some.notes c.base_in-base.result.now (base_in c.file-item.result) noted c.base_in-base.ensures) ∙ sym c.is_repeated.ensures ∙ c.if-is_repeated.true in
    let here = found_here p files c.loop-file.file-index c.file-item.result c.loop-file-test.true c.file-item.is passes in
    ap (λ (b : List ℕ). Some b) (c.in_ok-show.ensures ∙ ap shown c.base_in-base.ensures)
    ∙ sym (ap (λ (o : Option FileRow). option_map shown (option_map base_in o)) (sym c.loop-file.invariant ∙ here))

pub loop-file-preserved : goal.loop-file-preserved
loop-file-preserved c =
    let files = c.args.files.now in
    let p = λ (file : FileRow). nat_lt 1 (times_in files (base_in file)) in
    let noted : AreCounted c.in-Some.notes files = rw c.in-Some.is at c.in_ok-notes.ensures in
    let fails : p c.file-item.result ≡ false = sym (is_twice files c.in-Some.notes c.base_in-base.result.now (base_in c.file-item.result) noted c.base_in-base.ensures) ∙ sym c.is_repeated.ensures ∙ c.if-is_repeated.false in
    passed_here p files c.loop-file.file-index c.file-item.result c.loop-file-test.true c.file-item.is fails ∙ c.loop-file.invariant
