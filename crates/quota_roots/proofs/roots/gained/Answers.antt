use Rattle.std.proofs.Common.{◌≡◌, length, arith}
use Rattle.quota_roots.proofs.GoverningLemmas.{gaining_members}
use Rattle.quota_roots.proofs.roots.gained.Goals as goal

pub returns-clause-members : goal.returns-clause-members
returns-clause-members c = λ root.
    let end : c.loop-root.root ≡ length c.args.specs.now = omega (arith, c.loop-root-test.false, c.loop-root.auto.root-end) in
    rw (c.loop-root.invariant, end) (gaining_members c.args.specs.now c.args.from.now c.args.to.now root)
