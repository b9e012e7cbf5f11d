-- Bases of delivered messages.
use Rattle.std.proofs.Common.{◌≡◌, ℕ, ◌<◌, ◌≤◌, ◌^◌, ◌++◌, codes, length, sym, arith, append_assoc, length-append}
use Rattle.std.specs.Fmt.{decimal}
use Rattle.std.proofs.lemmas.Fmt.{decimal_injective, length-decimal-le}
use Rattle.std.proofs.lemmas.List.{append_cancel_left, append_cancel_right}
use Rattle.account_core.specs.Delivering.{delivered_base}

pub base_is : (epoch number : ℕ) → decimal epoch ++ (codes "." ++ (decimal number ++ codes ".quotad")) ≡ delivered_base epoch number
base_is epoch number = sym (simp append_assoc)

pub base_fits : (epoch number : ℕ) → epoch < 2 ^ 64 → number < 2 ^ 64 → length (delivered_base epoch number) ≤ 255
base_fits epoch number e n =
    let a : length (decimal epoch) ≤ 20 = length-decimal-le 20 epoch (omega arith) (omega arith) e in
    let b : length (decimal number) ≤ 20 = length-decimal-le 20 number (omega arith) (omega arith) n in
    simp length-append (omega arith)

pub bases_differ : (epoch m n : ℕ) → m < 2 ^ 64 → n < 2 ^ 64 → delivered_base epoch m ≡ delivered_base epoch n → m ≡ n
bases_differ epoch m n below_m below_n same =
    decimal_injective m n below_m below_n
    (append_cancel_left (decimal epoch ++ codes ".") (decimal m) (decimal n)
    (append_cancel_right (decimal epoch ++ codes "." ++ decimal m) (decimal epoch ++ codes "." ++ decimal n) (codes ".quotad") same))
