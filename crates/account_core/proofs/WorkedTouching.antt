-- The worked entries that touch objects, by evaluation.
use Rattle.std.proofs.Common.{refl}
use Rattle.account_core.specs.WorkedTouching.{EntriesTouchSo}

pub entries_touch_so : EntriesTouchSo
entries_touch_so = record {
  objects = refl;
  delivered = refl;
  no_octets = refl;
  removed = refl;
  moved = refl;
  ungoverned = refl;
  marked_so = refl;
  asked = refl;
  failed = refl;
  limit_set = refl;
  limit_changed = refl;
  limit_removed = refl;
  limit_kept = refl;
  counted = refl;
}
