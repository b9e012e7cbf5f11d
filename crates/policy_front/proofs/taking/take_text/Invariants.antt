use Rattle.std.proofs.Common.{◌≡◌, ◌-◌, ℕ, List, [], Option, length}
use Rattle.wire_io.specs.Feeds.{source_of, source_name, waiting_of, taken_of, handed_of, limit_of}
use Rattle.front_core.specs.Taking.{Moves}
use Rattle.policy_front.specs.Texts.{max_text}
use Rattle.policy_front.proofs.Texting.{AwaitsLine}
use Rattle.policy_front.proofs.taking.take_text.Given as goal

abbrev pub invariant-loop-end : goal.invariant-loop-end
invariant-loop-end g l = record {
  moves : (written : Option (List ℕ)) → Moves (g.S.Source.left (source_of l.fn.feed)) (g.S.Source.left (source_of l.feed)) written written
      (waiting_of l.fn.feed) (waiting_of l.feed) (taken_of l.fn.feed) (taken_of l.feed) (handed_of l.fn.feed) (handed_of l.feed) l.text.items [];
  awaits : AwaitsLine l.text.items;
  same_source : source_name l.feed ≡ source_name l.fn.feed;
  same_limit : limit_of l.feed ≡ limit_of l.fn.feed;
  reads : g.S.Source.faults (source_of l.feed) ≡ g.S.Source.faults (source_of l.fn.feed);
}

abbrev pub decreases-loop-end : goal.decreases-loop-end
decreases-loop-end g l = max_text - length l.text.items
