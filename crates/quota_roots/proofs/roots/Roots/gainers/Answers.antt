use Rattle.std.proofs.Common.{None, Some}
use Rattle.quota_roots.proofs.GoverningLemmas.{coming_has}
use Rattle.quota_roots.proofs.roots.Roots.gainers.Goals as goal

pub returns-in-None-clause-members : goal.returns-in-None-clause-members
returns-in-None-clause-members c = λ root. rw (c.roots_of.ensures.value, c.in-None.is) (coming_has c.args.self.now None c.args.to.now root)

pub returns-in-Some-clause-members : goal.returns-in-Some-clause-members
returns-in-Some-clause-members c = λ root. rw (c.gained.ensures.value, c.in-Some.is) (coming_has c.args.self.now (Some c.in-Some.from.now) c.args.to.now root)
