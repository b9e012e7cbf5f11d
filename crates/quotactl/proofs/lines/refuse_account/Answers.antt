use Rattle.std.proofs.Common.{List, ℕ, inl, subst}
use Rattle.quotactl.specs.Lines.{MayEndWith}
use Rattle.quotactl.proofs.lines.refuse_account.Goals as goal

pub returns-in-Ok-clause-ends : goal.returns-in-Ok-clause-ends
returns-in-Ok-clause-ends g c =
    subst (λ (line : List ℕ). MayEndWith (g.O.Sink.written c.args.sink.now) (g.O.Sink.written c.end_with.new.sink) line 8 c.end_with.result) c.in-Ok.ensures
    (subst (λ (line : List ℕ). MayEndWith (g.O.Sink.written c.args.sink.now) (g.O.Sink.written c.end_with.new.sink) line 8 c.end_with.result) c.deref.ensures.value (inl c.end_with.ensures.ends))
