-- A turn after its value was written to.
use Rattle.account_lock.specs.declared.turn.Turn.{Turn}

abbrev pub with_value : {A : Type 0} → Turn A → A → Turn A
with_value turn value = record turn { value = value }
