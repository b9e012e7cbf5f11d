-- The calls that a keeper in memory fails. A call is known by its kind and by its number among
-- those of its kind, from 1 on.
use Rattle.std.specs.Prelude.{ℕ, Bool, true, false, not, ◌&&◌, nat_eq, List, filter, if◌then◌else◌}
use Rattle.std.specs.List.{list_any}
use Rattle.quota_units.specs.Causes.{next_count}
use Rattle.keeper.specs.declared.plan.CallCounts.{CallCounts}
use Rattle.keeper.specs.declared.plan.KeepFail.{KeepFail}
use Rattle.keeper.specs.declared.plan.KeepCall.{KeepCall}
use Rattle.keeper.specs.declared.plan.KeepCall.TheVariants.{List as ListCall, Put, Rename, Remove, ReadLedger, AppendLedger, InstallLedger}

-- the calls that will still fail, how many calls of each kind were made, and how many of them
-- failed
pub record Planned : Type 0 where
  pub fails : List KeepFail
  pub made : CallCounts
  pub faults : ℕ
  pub append_faults : ℕ

-- these calls will fail, and none was made yet
abbrev pub new_plan : List KeepFail → Planned
new_plan fails = record {
  fails = fails;
  made = record {
    list = 0;
    put = 0;
    rename = 0;
    remove = 0;
    read_ledger = 0;
    append_ledger = 0;
    install_ledger = 0;
  };
  faults = 0;
  append_faults = 0;
}

-- a number for each kind of call, by which kinds are compared
abbrev pub index_of : KeepCall → ℕ
index_of ListCall = 0
index_of Put = 1
index_of Rename = 2
index_of Remove = 3
index_of ReadLedger = 4
index_of AppendLedger = 5
index_of InstallLedger = 6

abbrev pub count_of : KeepCall → CallCounts → ℕ
count_of ListCall made = made.list
count_of Put made = made.put
count_of Rename made = made.rename
count_of Remove made = made.remove
count_of ReadLedger made = made.read_ledger
count_of AppendLedger made = made.append_ledger
count_of InstallLedger made = made.install_ledger

-- with one more call of this kind
abbrev pub with_one_more : KeepCall → CallCounts → CallCounts
with_one_more ListCall made = record made { list = next_count made.list }
with_one_more Put made = record made { put = next_count made.put }
with_one_more Rename made = record made { rename = next_count made.rename }
with_one_more Remove made = record made { remove = next_count made.remove }
with_one_more ReadLedger made = record made { read_ledger = next_count made.read_ledger }
with_one_more AppendLedger made = record made { append_ledger = next_count made.append_ledger }
with_one_more InstallLedger made = record made { install_ledger = next_count made.install_ledger }

-- this planned failure is of this call
abbrev pub names : KeepCall → ℕ → KeepFail → Bool
names kind nth fail = nat_eq (index_of fail.kind) (index_of kind) && nat_eq fail.nth nth

-- the number of the next call of this kind
abbrev pub next_of : KeepCall → Planned → ℕ
next_of kind plan = next_count (count_of kind plan.made)

-- the next call of this kind fails
abbrev pub fails_next : KeepCall → Planned → Bool
fails_next kind plan = list_any (names kind (next_of kind plan)) plan.fails

-- after a call of this kind that did not fail
abbrev pub called : KeepCall → Planned → Planned
called kind plan = record plan { made = with_one_more kind plan.made }

-- without the entries that name the next call of this kind
abbrev pub fails_left : KeepCall → Planned → List KeepFail
fails_left kind plan = filter (λ fail. not (names kind (next_of kind plan) fail)) plan.fails

abbrev pub is_append : KeepCall → Bool
is_append AppendLedger = true
is_append kind = false

-- after a call of this kind that failed; the failures of appends have a count of their own
abbrev pub failed : KeepCall → Planned → Planned
failed kind plan = record {
  fails = fails_left kind plan;
  made = with_one_more kind plan.made;
  faults = if is_append kind then plan.faults else next_count plan.faults;
  append_faults = if is_append kind then next_count plan.append_faults else plan.append_faults;
}

-- after the next call of this kind
abbrev pub plan_after : KeepCall → Planned → Planned
plan_after kind plan = if fails_next kind plan then failed kind plan else called kind plan

-- the count that a failure of this kind raises, and the other count
abbrev pub faults_of_kind : KeepCall → Planned → ℕ
faults_of_kind kind plan = if is_append kind then plan.append_faults else plan.faults

abbrev pub other_faults : KeepCall → Planned → ℕ
other_faults kind plan = if is_append kind then plan.faults else plan.append_faults
