-- The requests of a workload. They are requests of the policy protocol on the account `main`.
use Rattle.std.specs.Prelude.{ℕ, zero, suc, ◌+◌, ◌*◌, ◌/◌, ◌%◌, ◌==◌, if◌then◌else◌, List, [], ◌++◌, replicate, codes}
use Rattle.workload.specs.Texts.{numbered}

-- the delivery of a message of this many letters x, byte 120, into INBOX
abbrev pub delivery : ℕ → List ℕ
delivery octets =
    numbered (codes "request=quotad_deliver\naccount=main\nmailbox=INBOX\noctets=") octets
    (codes "\n\n") ++ replicate octets 120

-- the removal from INBOX of the message of the delivery of this number
abbrev pub removal : ℕ → List ℕ
removal number =
    numbered (codes "request=quotad_remove\naccount=main\nmailbox=INBOX\nname=0.") number
    (codes ".quotad\n\n")

-- of `n` requests
module _ (n : ℕ) where
  -- the number that decides what a request is
  abbrev pub value : ℕ → ℕ
  value i = (n * i * i + 31 * i) % 4093

  -- request `i`: the first is request 1
  abbrev pub request : ℕ → List ℕ
  request i = if value i % 4 == 0 then removal (1 + value i / 4 % i) else delivery (value i)

  -- the first requests, one after another
  abbrev pub first_requests : ℕ → List ℕ
  first_requests zero = []
  first_requests (suc i) = first_requests i ++ request (suc i)

-- all of them
unfoldable pub input : ℕ → List ℕ
input n = first_requests n n
