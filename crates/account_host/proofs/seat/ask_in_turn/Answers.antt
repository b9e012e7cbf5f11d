use Rattle.std.proofs.Common.{◌≡◌, ℕ, true, false, List, [], ◌∷◌, ◌++◌, sym, ap, ◌∙◌, subst, rules}
use Rattle.account_core.specs.declared.calls.Entry.{Entry}
use Rattle.account_core.specs.Logs.{Serves}
use Rattle.account_ledger.specs.States.{State, Opened}
use Rattle.account_lock.specs.declared.pass.Pass.{Pass}
use Rattle.account_lock.specs.Passes.{view}
use Rattle.desk.specs.Shares.{IsWithinJournal}
use Rattle.desk.specs.Asking.{Asks}
use Rattle.account_host.specs.Seating.{HasRoom, has_entry, share_of}
use Rattle.account_host.proofs.Turns.{asked, entry_served, has_room, none_served, stays_within}
use Rattle.account_host.proofs.seat.ask_in_turn.Goals as goal

pub commit-requires-clause-entry : goal.commit-requires-clause-entry
commit-requires-clause-entry g c =
    let s : State = c.state.result.now in
    let is : s ≡ c.enter-turn.result.value = c.state.ensures.value in
    let has : has_entry c.serve-answer.result ≡ true = sym c.has_entry.ensures ∙ c.if-has_entry.true in
    let found = entry_served s.origin c.caller-caller.result s.history c.serve-answer.new.self.history c.args.call c.serve-answer.result has c.serve-answer.ensures.serves in
    (found.0, found.1 ∙ c.caller-caller.ensures, found.2 ∙ ap (λ (h : List Entry). h ++ found.0 ∷ []) (ap (λ (z : State). z.history) is ∙ sym c.enter-turn.ensures.seen))

pub returns-then-has_entry-clause-asks : goal.returns-then-has_entry-clause-asks
returns-then-has_entry-clause-asks g c =
    let s : State = c.state.result.now in
    let x : State = c.enter-turn.result.value in
    let s' : State = c.serve-answer.new.self in
    let v = view c.args.pass.now in
    let is : s ≡ x = c.state.ensures.value in
    let number : c.caller-caller.result ≡ v.number = c.caller-caller.ensures ∙ c.enter-turn.ensures.same.1 in
    let serves : Serves x.origin v.number x.history c.args.call c.serve-answer.result s'.history =
    subst (λ (z : State × ℕ). Serves z.0.origin z.1 z.0.history c.args.call c.serve-answer.result s'.history) (λ i. (is i, number i)) c.serve-answer.ensures.serves in
    let kept : c.pass-1.given.0 ≡ c.commit.new.self.0 = search rules in
    subst (λ (p : Pass). Asks (share_of v) c.args.call c.serve-answer.result (share_of (view p))) (sym kept)
    (asked v (view c.commit.new.self.0) x s' c.args.call c.serve-answer.result c.enter-turn.ensures.before.0 c.enter-turn.ensures.mine c.args.pass.now.own_entries c.enter-turn.ensures.origin serves
    c.commit.ensures.seen (c.commit.ensures.identity.0 ∙ c.enter-turn.ensures.same.0) (c.commit.ensures.identity.1 ∙ c.enter-turn.ensures.same.1))

pub returns-then-has_entry-clause-within : goal.returns-then-has_entry-clause-within
returns-then-has_entry-clause-within g c =
    let x : State = c.enter-turn.result.value in
    let s' : State = c.serve-answer.new.self in
    let opened : Opened x s' = subst (λ (z : State). Opened z s') c.state.ensures.value c.serve-answer.ensures.opened in
    let kept : c.pass-1.given.0 ≡ c.commit.new.self.0 = search rules in
    subst (λ (p : Pass). IsWithinJournal (share_of (view p))) (sym kept)
    (stays_within (view c.args.pass.now) (view c.commit.new.self.0) x s' c.args.call c.serve-answer.result c.enter-turn.ensures.origin opened c.serve-answer.ensures.order
    c.commit.ensures.seen (c.commit.ensures.identity.0 ∙ c.enter-turn.ensures.same.0))

pub returns-clause-asks : goal.returns-clause-asks
returns-clause-asks g c =
    let s : State = c.state.result.now in
    let x : State = c.enter-turn.result.value in
    let s' : State = c.serve-answer.new.self in
    let v = view c.args.pass.now in
    let is : s ≡ x = c.state.ensures.value in
    let number : c.caller-caller.result ≡ v.number = c.caller-caller.ensures ∙ c.enter-turn.ensures.same.1 in
    let serves : Serves x.origin v.number x.history c.args.call c.serve-answer.result s'.history =
    subst (λ (z : State × ℕ). Serves z.0.origin z.1 z.0.history c.args.call c.serve-answer.result s'.history) (λ i. (is i, number i)) c.serve-answer.ensures.serves in
    let has : has_entry c.serve-answer.result ≡ false = sym c.has_entry.ensures ∙ c.if-has_entry.false in
    let none : s'.history ≡ x.history = none_served x.origin v.number x.history s'.history c.args.call c.serve-answer.result has serves in
    let seen : (view c.leave.new.self.0).seen ≡ s'.history = c.leave.ensures.seen ∙ c.enter-turn.ensures.seen ∙ sym none in
    let kept : c.pass-2-1.given.0 ≡ c.leave.new.self.0 = search rules in
    subst (λ (p : Pass). Asks (share_of v) c.args.call c.serve-answer.result (share_of (view p))) (sym kept)
    (asked v (view c.leave.new.self.0) x s' c.args.call c.serve-answer.result c.enter-turn.ensures.before.0 c.enter-turn.ensures.mine c.args.pass.now.own_entries c.enter-turn.ensures.origin serves
    seen (c.leave.ensures.same.0 ∙ c.enter-turn.ensures.same.0) (c.leave.ensures.same.1 ∙ c.enter-turn.ensures.same.1))

pub returns-clause-within : goal.returns-clause-within
returns-clause-within g c =
    let s : State = c.state.result.now in
    let x : State = c.enter-turn.result.value in
    let s' : State = c.serve-answer.new.self in
    let v = view c.args.pass.now in
    let is : s ≡ x = c.state.ensures.value in
    let opened : Opened x s' = subst (λ (z : State). Opened z s') is c.serve-answer.ensures.opened in
    let has : has_entry c.serve-answer.result ≡ false = sym c.has_entry.ensures ∙ c.if-has_entry.false in
    let none : s'.history ≡ s.history = none_served s.origin c.caller-caller.result s.history s'.history c.args.call c.serve-answer.result has c.serve-answer.ensures.serves in
    let seen : (view c.leave.new.self.0).seen ≡ s'.history = c.leave.ensures.seen ∙ c.enter-turn.ensures.seen ∙ sym (none ∙ ap (λ (z : State). z.history) is) in
    let kept : c.pass-2-1.given.0 ≡ c.leave.new.self.0 = search rules in
    subst (λ (p : Pass). IsWithinJournal (share_of (view p))) (sym kept)
    (stays_within v (view c.leave.new.self.0) x s' c.args.call c.serve-answer.result c.enter-turn.ensures.origin opened c.serve-answer.ensures.order
    seen (c.leave.ensures.same.0 ∙ c.enter-turn.ensures.same.0))

pub returns-clause-room : goal.returns-clause-room
returns-clause-room g c =
    let s : State = c.state.result.now in
    let x : State = c.enter-turn.result.value in
    let s' : State = c.serve-answer.new.self in
    let v = view c.args.pass.now in
    let is : s ≡ x = c.state.ensures.value in
    let has : has_entry c.serve-answer.result ≡ false = sym c.has_entry.ensures ∙ c.if-has_entry.false in
    let none : s'.history ≡ s.history = none_served s.origin c.caller-caller.result s.history s'.history c.args.call c.serve-answer.result has c.serve-answer.ensures.serves in
    let seen : (view c.leave.new.self.0).seen ≡ s'.history = c.leave.ensures.seen ∙ c.enter-turn.ensures.seen ∙ sym (none ∙ ap (λ (z : State). z.history) is) in
    let origin : s.origin ≡ v.origin = ap (λ (z : State). z.origin) is ∙ c.enter-turn.ensures.origin in
    let kept : c.pass-2-1.given.0 ≡ c.leave.new.self.0 = search rules in
    λ out. subst (λ (p : Pass). HasRoom (share_of (view p))) (sym kept)
    (has_room v (view c.leave.new.self.0) s s' c.args.call c.serve-answer.result origin c.serve-answer.ensures.opened c.serve-answer.ensures.order none
    c.serve-answer.ensures.full seen (c.leave.ensures.same.0 ∙ c.enter-turn.ensures.same.0) out)
