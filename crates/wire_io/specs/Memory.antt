-- Sources and sinks in memory: what they give and take, and which of their calls fail.
use Rattle.std.specs.Prelude.{ℕ, ◌+◌, ◌-◌, ◌^◌, ◌≤◌, ◌⊎◌, min, List, ◌++◌, length, take, drop, Contains}

-- the number of the next call after this many; it stays at 2 ^ 64 - 1 once it is there
abbrev pub next_number : ℕ → ℕ
next_number made = min (made + 1) (2 ^ 64 - 1)

-- a source: the bytes that are left, the most that a read takes, the numbers of the reads that
-- fail, and how many reads were made and how many of them failed
pub record MemoryInput : Type 0 where
  pub left : List ℕ
  pub piece : ℕ
  pub fails : List ℕ
  pub reads : ℕ
  pub faults : ℕ

-- the next read fails
abbrev pub FailsRead : MemoryInput → Type 0
FailsRead s = Contains s.fails (next_number s.reads)

-- how many bytes the next read takes into a buffer of this length
abbrev pub read_count : MemoryInput → ℕ → ℕ
read_count s room = min (min s.piece room) (length s.left)

-- after a read of this many bytes
abbrev pub after_read : MemoryInput → ℕ → MemoryInput
after_read s count = record s { left = drop count s.left; reads = next_number s.reads }

-- after a read that failed
abbrev pub after_failed_read : MemoryInput → MemoryInput
after_failed_read s = record s { reads = next_number s.reads; faults = next_number s.faults }

-- a sink: the bytes written, the most that a write takes, the room for bytes, the numbers of the
-- writes that fail, and how many writes were made and how many of them failed
pub record MemoryOutput : Type 0 where
  pub written : List ℕ
  pub piece : ℕ
  pub room : ℕ
  pub fails : List ℕ
  pub writes : ℕ
  pub faults : ℕ

-- the next write fails: its number is among those that fail, or the room is full
abbrev pub FailsWrite : MemoryOutput → Type 0
FailsWrite s = Contains s.fails (next_number s.writes) ⊎ (s.room ≤ length s.written)

-- how many bytes the next write takes of a piece of this length
abbrev pub write_count : MemoryOutput → ℕ → ℕ
write_count s offered = min (min s.piece offered) (s.room - length s.written)

-- after a write of this many of a piece's first bytes
abbrev pub after_write : MemoryOutput → List ℕ → ℕ → MemoryOutput
after_write s offered count = record s {
  written = s.written ++ take count offered;
  writes = next_number s.writes;
}

-- after a write that failed
abbrev pub after_failed_write : MemoryOutput → MemoryOutput
after_failed_write s = record s { writes = next_number s.writes; faults = next_number s.faults }
