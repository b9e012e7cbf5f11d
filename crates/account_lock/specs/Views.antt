-- How a view changes.
use Rattle.std.specs.Prelude.{ℕ, ◌+◌, true, false, List, [], ◌∷◌, ◌++◌, length, ltb, if◌then◌else◌}
use Rattle.account_core.specs.declared.calls.Entry.{Entry}
use Rattle.account_core.specs.Histories.{Origin}
use Rattle.account_lock.specs.Known.{View, resting, waiting, serving}

-- the view of the first pass of a lock that may make this number of passes
abbrev pub first_view : Origin → ℕ → View
first_view origin limit = record {
  origin = origin;
  limit = limit;
  number = 0;
  stage = resting;
  ticket = 0;
  seen = [];
  mine = [];
  held = 1;
  own = 0;
  olds = [];
  made = 1;
  pending = false;
}

abbrev pub with_ticket : View → ℕ → View
with_ticket v t = record v { stage = waiting; ticket = t }

-- the pass has the turn, and has seen the whole history
abbrev pub with_turn : View → List Entry → View
with_turn v history = record v { stage = serving; seen = history }

abbrev pub at_rest : View → View
at_rest v = record v { stage = resting }

-- the pass has made this entry
abbrev pub with_entry : View → Entry → View
with_entry v entry = record v {
  seen = v.seen ++ entry ∷ [];
  mine = v.mine ++ entry ∷ [];
  own = v.own + 1;
}

-- the first pass is making another
abbrev pub making : View → View
making v = record v { pending = true }

-- the new pass
abbrev pub newcomer : View → View
newcomer v = record {
  origin = v.origin;
  limit = v.limit;
  number = v.made;
  stage = resting;
  ticket = 0;
  seen = v.seen;
  mine = [];
  held = 1;
  own = 0;
  olds = [];
  made = 0;
  pending = false;
}

-- the first pass has made another
abbrev pub having_made : View → View
having_made v = record v { made = v.made + 1; pending = false }

abbrev pub longer : List Entry → List Entry → List Entry
longer xs ys = if ltb (length xs) (length ys) then ys else xs

-- w was joined into v
abbrev pub joined : View → View → View
joined v w = record v {
  seen = longer v.seen w.seen;
  held = v.held + w.held;
  own = v.own + w.own;
  olds = (v.olds ++ v.seen ∷ w.seen ∷ []) ++ w.olds;
}
