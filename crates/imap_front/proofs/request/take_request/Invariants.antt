use Rattle.std.proofs.Common.{◌≡◌, ◌-◌, ℕ, List, is_some, length}
use Rattle.wire_io.specs.Feeds.{source_of, source_name, waiting_of, taken_of, handed_of, limit_of}
use Rattle.imap_grammar.specs.Progressing.{max_text}
use Rattle.imap_grammar.specs.Reaching.{AwaitsLine}
use Rattle.front_core.specs.Taking.{Moves}
use Rattle.imap_front.proofs.request.take_request.Given as goal

abbrev pub invariant-loop-end : goal.invariant-loop-end
invariant-loop-end g l = record {
  said : List ℕ;
  moves : Moves (g.S.Source.left (source_of l.fn.feed)) (g.S.Source.left (source_of l.feed)) (g.O.Sink.written l.fn.sink) (g.O.Sink.written l.sink)
      (waiting_of l.fn.feed) (waiting_of l.feed) (taken_of l.fn.feed) (taken_of l.feed) (handed_of l.fn.feed) (handed_of l.feed) l.text.items said;
  awaits : AwaitsLine (is_some l.login) l.text.items said;
  same_source : source_name l.feed ≡ source_name l.fn.feed;
  same_limit : limit_of l.feed ≡ limit_of l.fn.feed;
  reads : g.S.Source.faults (source_of l.feed) ≡ g.S.Source.faults (source_of l.fn.feed);
  writes : g.O.Sink.faults l.sink ≡ g.O.Sink.faults l.fn.sink;
}

abbrev pub decreases-loop-end : goal.decreases-loop-end
decreases-loop-end g l = max_text - length l.text.items
