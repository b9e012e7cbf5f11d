use Rattle.std.proofs.Common.{◌≡◌, ◌∙◌, sym, ap, length, None}
use Rattle.quota_roots.specs.Setups.{AreMailboxes}
use Rattle.accounts_file.specs.Doubles.{repeated}
use Rattle.accounts_file.proofs.DoubleLemmas.{double_none, different_names}
use Rattle.accounts_file.proofs.doubles.entry_of.Goals as goal

pub returns-clause-sound : goal.returns-clause-sound
returns-clause-sound c =
    let inside = c.draft.inside in
    let right = c.draft.invariant in
    let none : repeated inside.mailboxes ≡ None = ap repeated (sym c.as_slice.ensures) ∙ double_none (repeated c.as_slice.result.now) c.in_ok-check_names.ensures in
    let mailboxes : AreMailboxes inside.mailboxes =
    record { inbox = right.inbox; few = right.few; named = right.named; different = different_names inside.mailboxes none } in
    record {
      limited = ap length c.new.ensures ∙ right.roots.limited ∙ ap length (sym c.roots_of-roots.ensures);
      mailboxes = mailboxes;
      some_room = right.some_room;
      most_room = right.most_room;
    }
