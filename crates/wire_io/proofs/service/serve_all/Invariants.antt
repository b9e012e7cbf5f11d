use Rattle.std.proofs.Common.{◌≡◌, ◌-◌}
use Rattle.wire_io.specs.Feeds.{source_of, source_name, waiting_of, taken_of, handed_of, limit_of}
use Rattle.wire_io.proofs.Serving.{Reached}
use Rattle.wire_io.proofs.service.serve_all.Given as goal

abbrev pub invariant-loop-end : goal.invariant-loop-end
invariant-loop-end g l = record {
  reached : Reached (g.F.Service.protocol l.fn.service) (g.F.Service.state l.fn.service) (g.F.Service.state l.service) (g.F.Service.logged l.fn.world l.world)
      (g.S.Source.left (source_of l.fn.feed)) (g.S.Source.left (source_of l.feed)) (g.O.Sink.written l.fn.sink) (g.O.Sink.written l.sink)
      (waiting_of l.feed) (taken_of l.feed) (handed_of l.feed);
  fits : g.F.Service.fits l.service l.world;
  same_protocol : g.F.Service.protocol l.service ≡ g.F.Service.protocol l.fn.service;
  same_limit : limit_of l.feed ≡ limit_of l.fn.feed;
  same_source : source_name l.feed ≡ source_name l.fn.feed;
  reads : g.S.Source.faults (source_of l.feed) ≡ g.S.Source.faults (source_of l.fn.feed);
  writes : g.O.Sink.faults l.sink ≡ g.O.Sink.faults l.fn.sink;
}

abbrev pub decreases-loop-end : goal.decreases-loop-end
decreases-loop-end g l = limit_of l.feed - handed_of l.feed
