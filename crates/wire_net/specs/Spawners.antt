-- What spawners show of themselves.
use Rattle.std.specs.Prelude.{ℕ}
use Rattle.wire_net.specs.declared.spawners.ThreadSpawner.{ThreadSpawner}
use Rattle.wire_net.specs.declared.spawners.FewSpawner.{FewSpawner}

-- how many jobs have run
abbrev pub thread_ran_of : {R : Type 0} → ThreadSpawner R → ℕ
thread_ran_of spawner = spawner.ran

abbrev pub few_ran_of : {R : Type 0} → FewSpawner R → ℕ
few_ran_of spawner = spawner.ran

-- how often a run failed
abbrev pub few_faults_of : {R : Type 0} → FewSpawner R → ℕ
few_faults_of spawner = spawner.faults

-- the most jobs that a run starts
abbrev pub few_starts_of : {R : Type 0} → FewSpawner R → ℕ
few_starts_of spawner = spawner.starts
