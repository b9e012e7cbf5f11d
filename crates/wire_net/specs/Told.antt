-- What a door tells of its connections.
use Rattle.std.specs.Prelude.{ℕ, List}
use Rattle.std.specs.declared.option.Option.{Option}

-- a connection that was given back: the bytes that are left of it and the bytes written to it, if
-- its ends tell them, and how often each end failed
pub record Item : Type 0 where
  pub left : Option (List ℕ)
  pub written : Option (List ℕ)
  pub read_faults : ℕ
  pub write_faults : ℕ

-- the bytes of each connection that the door gave, and the connections that it got back
pub record Told : Type 0 where
  pub handed : List (List ℕ)
  pub done : List Item
