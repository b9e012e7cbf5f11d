-- What a net over TCP and its doors show of themselves.
use Rattle.std.specs.Prelude.{ℕ, Bool, None}
use Rattle.std.specs.declared.option.Option.{Option}
use Rattle.wire_net.specs.declared.tcp.TcpDoor.{TcpDoor}
use Rattle.wire_net.specs.declared.tcp.TcpNet.{TcpNet}
use Rattle.wire_net.specs.Told.{Told}

-- how many accepts in a row failed
abbrev pub misses_of : {R : Type 0} → TcpDoor R → ℕ
misses_of door = door.misses

-- an accept answered that the door has stopped
abbrev pub ended_of : {R : Type 0} → TcpDoor R → Bool
ended_of door = door.ended

-- the door was asked to stop
abbrev pub asked_of : {R : Type 0} → TcpDoor R → Bool
asked_of door = door.asked

-- how often an accept failed
abbrev pub faults_of : {R : Type 0} → TcpDoor R → ℕ
faults_of door = door.faults

-- a door over TCP tells nothing of its connections
abbrev pub untold : {R : Type 0} → TcpDoor R → Option Told
untold door = None

-- how many doors the net has opened and not taken back
abbrev pub net_out_of : {R : Type 0} → TcpNet R → ℕ
net_out_of net = net.out

-- how often the net failed
abbrev pub net_faults_of : {R : Type 0} → TcpNet R → ℕ
net_faults_of net = net.faults
