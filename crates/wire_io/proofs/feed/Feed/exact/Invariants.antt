use Rattle.std.proofs.Common.{◌≡◌, ◌≤◌, ◌+◌, length}
use Rattle.wire_io.specs.Feeding.{gained}
use Rattle.wire_io.specs.Feeds.{source_of, source_name, waiting_of, handed_of, taken_of, limit_of}
use Rattle.wire_io.proofs.FeedLemmas.{Reached}
use Rattle.wire_io.proofs.feed.Feed.exact.Given as goal

abbrev pub invariant-loop-room : goal.invariant-loop-room
invariant-loop-room g l = record {
  same_source : source_name l.self ≡ source_name l.fn.self;
  same_limit : limit_of l.self ≡ limit_of l.fn.self;
  reached : Reached l.fn.out.items l.out.items (g.S.Source.left (source_of l.fn.self)) (g.S.Source.left (source_of l.self))
      (waiting_of l.fn.self) (waiting_of l.self) (taken_of l.fn.self) (taken_of l.self) l.count l.room;
  counts : handed_of l.self ≡ handed_of l.fn.self + length (gained l.fn.out.items l.out.items);
  unread : length (gained l.fn.out.items l.out.items) ≤ length (waiting_of l.fn.self)
      → (source_of l.self ≡ source_of l.fn.self) × (taken_of l.self ≡ taken_of l.fn.self);
  kept : g.S.Source.faults (source_of l.self) ≡ g.S.Source.faults (source_of l.fn.self);
}

abbrev pub decreases-loop-room : goal.decreases-loop-room
decreases-loop-room g l = l.room
