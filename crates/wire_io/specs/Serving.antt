-- What a session does to its source, its sink and the world that its calls are made on.
use Rattle.std.specs.Prelude.{ℕ, List, [], Option}
use Rattle.std.specs.Io.KnownBytes.{Consumes, Appends, IsAtEnd}
use Rattle.wire_io.specs.declared.ends.SessionEnd.{SessionEnd}
use Rattle.wire_io.specs.Protocol.{Protocol}
use Rattle.wire_io.specs.Session.{IsWorked, Session}

-- `Logs` below says of calls with their answers that they were made.
module _ {State Request Call Answer : Type 0} (p : Protocol State Request Call Answer) where
  -- The bytes that left the source, the calls with their answers, the bytes that the sink gained
  -- and the end are a session of the protocol.
  pub record IsSession (greeting : List ℕ) (start : State) (limit : ℕ)
      (Logs : List (Call × Answer) → Type 0) (left left' written written' : Option (List ℕ))
      (end : SessionEnd) : Type 0 where
    pub taken : List ℕ
    pub log : List (Call × Answer)
    pub text : List ℕ
    pub consumed : Consumes left left' taken
    pub appended : Appends written written' text
    pub logged : Logs log
    pub session : Session p greeting start limit (IsAtEnd left') taken log text end

  -- what a session does after its greeting
  pub record IsServed (start : State) (limit : ℕ) (Logs : List (Call × Answer) → Type 0)
      (left left' written written' : Option (List ℕ)) (end : SessionEnd) : Type 0 where
    pub taken : List ℕ
    pub log : List (Call × Answer)
    pub text : List ℕ
    pub consumed : Consumes left left' taken
    pub appended : Appends written written' text
    pub logged : Logs log
    pub worked : IsWorked p [] start limit (IsAtEnd left') taken log text end
