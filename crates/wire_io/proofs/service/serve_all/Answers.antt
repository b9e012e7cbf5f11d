use Rattle.std.proofs.Common.{◌∙◌, ◌≤◌, subst}
use Rattle.wire_io.specs.Feeds.{taken_of, limit_of}
use Rattle.wire_io.proofs.Requests.{serve_same}
use Rattle.wire_io.proofs.Serving.{reached_ends, goes_on, closes, stops}
use Rattle.wire_io.proofs.service.serve_all.Goals as goal

pub loop-end-preserved : goal.loop-end-preserved
loop-end-preserved g c =
    let s = c.in-Ok-Open.ensures in
    let i = c.loop-end.invariant in
    let serves = serve_same (g.F.Service.protocol c.args.service.now) _ (limit_of c.args.feed.now) _ _ _ _ _ _ _ _ _ _ _ _ _ _ _ i.same_protocol i.same_limit s.serves in
    record {
      reached = goes_on _ _ _ _ _ _ _ _ _ _ _ _ _ _ _ _ _ _ _ _ (g.met.F.Service.logged_on _ _ _) i.reached c.in-Ok-Open.field-0 serves c.in-Ok-Open.field-0-is;
      fits = s.fits;
      same_protocol = s.same_protocol ∙ i.same_protocol;
      same_limit = s.same_limit ∙ i.same_limit;
      same_source = s.same_source ∙ i.same_source;
      reads = s.read_cause.kept (λ e. cc) ∙ i.reads;
      writes = s.write_cause.kept (λ e. cc) ∙ i.writes;
    }

pub returns-in-Ok-Closing-clause-served : goal.returns-in-Ok-Closing-clause-served
returns-in-Ok-Closing-clause-served g c =
    let s = c.in-Ok-Closing.ensures in
    let i = c.loop-end.invariant in
    let serves = serve_same (g.F.Service.protocol c.args.service.now) _ (limit_of c.args.feed.now) _ _ _ _ _ _ _ _ _ _ _ _ _ _ _ i.same_protocol i.same_limit s.serves in
    closes _ _ _ _ _ _ _ _ _ _ _ _ _ _ _ _ _ _ _ _ (g.met.F.Service.logged_on _ _ _) i.reached c.in-Ok-Closing.field-0 serves c.in-Ok-Closing.field-0-is
    (subst (λ n. taken_of c.serve.new.feed ≤ n) (s.same_limit ∙ i.same_limit) s.within)

pub returns-in-Ok-Stopping-clause-served : goal.returns-in-Ok-Stopping-clause-served
returns-in-Ok-Stopping-clause-served g c =
    let s = c.in-Ok-Stopping.ensures in
    let i = c.loop-end.invariant in
    let serves = serve_same (g.F.Service.protocol c.args.service.now) _ (limit_of c.args.feed.now) _ _ _ _ _ _ _ _ _ _ _ _ _ _ _ i.same_protocol i.same_limit s.serves in
    stops _ _ _ _ _ _ _ _ _ _ _ _ _ _ _ _ _ _ _ _ (g.met.F.Service.logged_on _ _ _) i.reached c.in-Ok-Stopping.field-0 serves c.in-Ok-Stopping.field-0-is
    (subst (λ n. taken_of c.serve.new.feed ≤ n) (s.same_limit ∙ i.same_limit) s.within)

pub returns-in-Err-clause-served : goal.returns-in-Err-clause-served
returns-in-Err-clause-served g c =
    let s = c.in-Err.ensures in
    let i = c.loop-end.invariant in
    let serves = serve_same (g.F.Service.protocol c.args.service.now) _ (limit_of c.args.feed.now) _ _ _ _ _ _ _ _ _ _ _ _ _ _ _ i.same_protocol i.same_limit s.serves in
    reached_ends _ _ _ _ _ _ _ _ _ _ _ _ _ _ _ _ _ _ _ _ (g.met.F.Service.logged_on _ _ _) i.reached c.in-Err.end serves
    (subst (λ n. taken_of c.serve.new.feed ≤ n) (s.same_limit ∙ i.same_limit) s.within)
