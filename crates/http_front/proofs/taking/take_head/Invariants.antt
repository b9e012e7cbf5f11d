use Rattle.std.proofs.Common.{◌≡◌, ◌≤◌, ◌+◌, ◌-◌, false, length}
use Rattle.wire_io.specs.Feeding.{Hands}
use Rattle.wire_io.specs.Feeds.{source_of, source_name, waiting_of, taken_of, handed_of, limit_of}
use Rattle.http_front.specs.Heads.{max_head, ends_head}
use Rattle.http_front.specs.Taking.{IsUnendedBefore}
use Rattle.http_front.proofs.taking.take_head.Given as goal

abbrev pub invariant-loop-end : goal.invariant-loop-end
invariant-loop-end g l = record {
  hands : Hands (g.S.Source.left (source_of l.fn.feed)) (g.S.Source.left (source_of l.feed)) (waiting_of l.fn.feed) (waiting_of l.feed) (taken_of l.fn.feed) (taken_of l.feed) l.head.items;
  counts : handed_of l.feed ≡ handed_of l.fn.feed + length l.head.items;
  unended : ends_head l.head.items ≡ false;
  first : IsUnendedBefore l.head.items;
  small : length l.head.items ≤ max_head;
  same_source : source_name l.feed ≡ source_name l.fn.feed;
  same_limit : limit_of l.feed ≡ limit_of l.fn.feed;
  reads : g.S.Source.faults (source_of l.feed) ≡ g.S.Source.faults (source_of l.fn.feed);
}

abbrev pub decreases-loop-end : goal.decreases-loop-end
decreases-loop-end g l = max_head - length l.head.items
