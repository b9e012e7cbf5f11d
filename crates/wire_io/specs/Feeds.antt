-- What a feed is to its callers.
use Rattle.std.specs.Prelude.{ℕ, ◌+◌, List, length}
use Rattle.wire_io.specs.declared.feed.Feed.{Feed}
use Rattle.wire_io.specs.declared.source.Source.{Ghosts}

-- the source that is lent to the feed, as it is now
abbrev pub source_of : {S : Type 0} {G : Ghosts S} → Feed S G → S
source_of feed = feed.source.now

-- the bytes that were taken from the source and not handed out yet
abbrev pub waiting_of : {S : Type 0} {G : Ghosts S} → Feed S G → List ℕ
waiting_of feed = feed.waiting

-- how many bytes were handed out
abbrev pub handed_of : {S : Type 0} {G : Ghosts S} → Feed S G → ℕ
handed_of feed = feed.handed

-- how many bytes were taken from the source
abbrev pub taken_of : {S : Type 0} {G : Ghosts S} → Feed S G → ℕ
taken_of feed = feed.handed + length feed.waiting

-- the most bytes that are taken from the source
abbrev pub limit_of : {S : Type 0} {G : Ghosts S} → Feed S G → ℕ
limit_of feed = feed.limit

-- which source is lent to the feed
abbrev pub source_name : {S : Type 0} {G : Ghosts S} → Feed S G → ℕ
source_name feed = feed.source.ghost_name
