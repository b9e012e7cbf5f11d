-- The worked accounts, by evaluation.
use Rattle.std.proofs.Common.{refl}
use Rattle.account_core.specs.Worked.{MovesAreAnswered, MessagesAreCounted, ScansAreAnswered}
use Rattle.account_core.specs.WorkedLimits.{DeliveriesAreAnswered, ChecksAreAnswered, RootsAreNamed, LimitsAreAnswered}

pub moves_are_answered : MovesAreAnswered
moves_are_answered = record { too_much = refl; freed = refl; fits = refl; within = refl; no_source = refl; no_target = refl; gone = refl; taken = refl }

pub messages_are_counted : MessagesAreCounted
messages_are_counted = record { in_trash = refl; left = refl; removed = refl; seen = refl; deleted = refl }

pub scans_are_answered : ScansAreAnswered
scans_are_answered = record { begun = refl; refused = refl; part = refl; later = refl; no_part = refl; stale = refl; installed = refl }

pub deliveries_are_answered : DeliveriesAreAnswered
deliveries_are_answered = record {
  whole = refl;
  above = refl;
  no_mailbox = refl;
  more = refl;
  counted = refl;
  nothing = refl;
  ungoverned = refl;
  refused = refl;
  failed = refl;
  named = refl;
  flagged = refl;
}

pub checks_are_answered : ChecksAreAnswered
checks_are_answered = record { over = refl; fits = refl; kept = refl }

pub roots_are_named : RootsAreNamed
roots_are_named = record { second = refl; first = refl; storage = refl; unknown = refl; ungoverned = refl; below = refl; beside = refl }

pub limits_are_answered : LimitsAreAnswered
limits_are_answered = record {
  told = refl;
  replaced = refl;
  after = refl;
  removed = refl;
  below = refl;
  failed = refl;
  other = refl;
  room = refl;
  no_root = refl;
  no_such = refl;
}
