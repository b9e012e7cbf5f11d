use Rattle.std.proofs.Common.{rules, ◌≡◌, ap}
use Rattle.wire_io.specs.declared.ends.SessionEnd.TheVariants.{ReadFault, WriteFault}
use Rattle.quota_units.specs.Causes.{Rose}
use Rattle.wire_io.specs.Feeds.{source_of, limit_of}
use Rattle.wire_io.proofs.Serving.{not_greeted, decided_by, session_done}
use Rattle.wire_io.proofs.service.run_service.Goals as goal

pub returns-in-Err-clause-session : goal.returns-in-Err-clause-session
returns-in-Err-clause-session g c =
    not_greeted (g.F.Service.protocol c.args.service.now) c.args.greeting.now (g.F.Service.state c.args.service.now) c.args.limit (g.F.Service.logged c.args.world.now c.args.world.now)
    (g.S.Source.left c.args.source.now) (g.O.Sink.written c.args.sink.now) (g.O.Sink.written c.send.new.sink) (g.met.F.Service.logged_none c.args.world.now) c.in-Err.ensures.cut

pub returns-in-Err-clause-decided : goal.returns-in-Err-clause-decided
returns-in-Err-clause-decided g c =
    let service = c.args.service.now in
    let write : Rose (g.O.Sink.faults c.args.sink.now) (g.O.Sink.faults c.send.new.sink) = search rules in
    decided_by (g.F.Service.protocol service) c.args.greeting.now (g.F.Service.state service) c.args.limit (g.F.Service.logged c.args.world.now c.args.world.now) (g.met.F.Service.filled service) (g.met.F.Service.one_way service)
    _ _ (g.O.Sink.written c.args.sink.now) (g.O.Sink.written c.send.new.sink) WriteFault _ _ (returns-in-Err-clause-session g c) (λ e. absurd (no_read e)) (λ e. write)
  where
    no_read : WriteFault ≡ ReadFault → ⊥
    no_read e = cc

pub returns-clause-session : goal.returns-clause-session
returns-clause-session g c =
    let left = g.S.Source.left in
    let kept : c.source-1.given.0 ≡ source_of c.serve_all.new.feed = search rules in
    session_done (g.F.Service.protocol c.args.service.now) c.args.greeting.now (g.F.Service.state c.args.service.now) c.args.limit (limit_of c.in-Ok.feed) (g.F.Service.logged c.args.world.now c.serve_all.new.world)
    (left c.args.source.now) (left (source_of c.in-Ok.feed)) (left (source_of c.serve_all.new.feed)) (left c.source-1.given.0)
    (g.O.Sink.written c.args.sink.now) (g.O.Sink.written c.send.new.sink) (g.O.Sink.written c.serve_all.new.sink) c.serve_all.result
    (ap left c.in-Ok.ensures.source) (ap left kept) c.in-Ok.ensures.limit c.in_default.ensures.sent c.serve_all.ensures.served

pub returns-clause-decided : goal.returns-clause-decided
returns-clause-decided g c =
    let service = c.args.service.now in
    let read : c.serve_all.result ≡ ReadFault → Rose (g.S.Source.faults c.args.source.now) (g.S.Source.faults c.source-1.given.0) = search rules in
    let write : c.serve_all.result ≡ WriteFault → Rose (g.O.Sink.faults c.args.sink.now) (g.O.Sink.faults c.serve_all.new.sink) = search rules in
    decided_by (g.F.Service.protocol service) c.args.greeting.now (g.F.Service.state service) c.args.limit (g.F.Service.logged c.args.world.now c.serve_all.new.world) (g.met.F.Service.filled service) (g.met.F.Service.one_way service)
    _ _ (g.O.Sink.written c.args.sink.now) (g.O.Sink.written c.serve_all.new.sink) c.serve_all.result _ _ (returns-clause-session g c) read write
