-- The status after a session.
use Rattle.std.specs.Prelude.{ℕ}
use Rattle.wire_io.specs.declared.ends.SessionEnd.{SessionEnd}
use Rattle.wire_io.specs.declared.ends.SessionEnd.TheVariants.{Closed, Stopped, Truncated, InputLimit, ReadFault, WriteFault, NoMemory}

abbrev pub exit_status : SessionEnd → ℕ
exit_status Closed = 0
exit_status Stopped = 0
exit_status (Truncated at) = 3
exit_status InputLimit = 11
exit_status ReadFault = 4
exit_status WriteFault = 5
exit_status NoMemory = 6
