-- The names of delivered messages.
use Rattle.std.specs.Prelude.{◌≡◌, ◌<◌, ◌^◌, ℕ, List, ◌++◌, codes}
use Rattle.std.specs.Fmt.{decimal}

-- the base of the delivery of this number, in an account that was opened at this second
abbrev pub delivered_base : ℕ → ℕ → List ℕ
delivered_base epoch number = decimal epoch ++ codes "." ++ decimal number ++ codes ".quotad"

-- two deliveries of an account have different bases, if their numbers differ and are below 2 ^ 64
abbrev pub DeliveredBasesDiffer : Type 0
DeliveredBasesDiffer = (epoch m n : ℕ) → m < 2 ^ 64 → n < 2 ^ 64
    → delivered_base epoch m ≡ delivered_base epoch n → m ≡ n
