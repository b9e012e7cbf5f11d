use Rattle.std.proofs.Common.{arith}
use Rattle.wire_io.proofs.LineLemmas.{HasNoEnd-searched, IsLine-searched}
use Rattle.wire_io.proofs.feed.line_prefix.Goals as goal

pub returns-in-Some-clause-whole : goal.returns-in-Some-clause-whole
returns-in-Some-clause-whole c =
    let found = c.in-Some.ensures in
    λ _. IsLine-searched c.args.bytes.now c.in-Some.place c.min.result found.0.high found.0.before found.1

pub returns-in-None-clause-begun : goal.returns-in-None-clause-begun
returns-in-None-clause-begun c = λ _. HasNoEnd-searched c.args.bytes.now _ c.min.result (omega arith) c.in-None.ensures
