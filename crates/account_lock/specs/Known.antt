-- What a thread that makes steps on a lock's words knows: its view.
use Rattle.std.specs.Prelude.{ℕ, Bool, false, List, []}
use Rattle.std.specs.Prelude.{None}
use Rattle.account_core.specs.declared.calls.Entry.{Entry}
use Rattle.account_core.specs.Histories.{Origin}

pub data Stage : Type 0 where
  -- no ticket is out with it
  resting : Stage
  -- its ticket is out
  waiting : Stage
  -- its ticket is served: it has the turn
  serving : Stage
  -- it was joined into another
  spent : Stage

pub record View : Type 0 where
  pub origin : Origin
  -- how many passes may be made
  pub limit : ℕ
  pub number : ℕ
  pub stage : Stage
  -- the ticket, if one is out
  pub ticket : ℕ
  -- the entries that it has seen, and those of them that have its number
  pub seen : List Entry
  pub mine : List Entry
  -- how many passes it stands for, and how many entries they made
  pub held : ℕ
  pub own : ℕ
  -- for each join, what the two passes had seen
  pub olds : List (List Entry)
  -- for the first pass: how many passes were made, and whether one is being made
  pub made : ℕ
  pub pending : Bool

abbrev pub nowhere : Origin
nowhere = record { roots = []; journal = 0; epoch = 0; account = None }

abbrev pub nobody : View
nobody = record {
  origin = nowhere;
  limit = 0;
  number = 0;
  stage = spent;
  ticket = 0;
  seen = [];
  mine = [];
  held = 0;
  own = 0;
  olds = [];
  made = 0;
  pending = false;
}
