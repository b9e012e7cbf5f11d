-- Totals whose numbers are equal.
use Rattle.std.proofs.Common.{◌≡◌, ℕ, ap, ◌∙◌}
use Rattle.quota_units.specs.declared.totals.Totals.{Totals}

pub same_totals : {a b c d : ℕ} → a ≡ c → b ≡ d → (let x : Totals = record { octets = a; count = b } in x) ≡ record { octets = c; count = d }
same_totals {b = b} {c = c} e f = ap (λ n. let x : Totals = record { octets = n; count = b } in x) e ∙ ap (λ n. let x : Totals = record { octets = c; count = n } in x) f
