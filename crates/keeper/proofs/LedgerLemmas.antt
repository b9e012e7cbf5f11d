-- Ledgers that were written.
use Rattle.std.proofs.Common.{◌≡◌, ℕ, List, ◌++◌, take, drop, refl, sym, ap, ◌∙◌}
use Rattle.std.proofs.lemmas.List.{take-append-drop}
use Rattle.keeper.specs.Files.{Files, ButLedgers, bytes_of, ledger_bytes}
use Rattle.keeper.specs.Calls.{Tears, Writes}

pub torn_at : (root : ℕ) (line : List ℕ) (n : ℕ) (files files' : Files) → Writes root (ledger_bytes files root ++ take n line) files files' → Tears root line files files'
torn_at root line n files files' writes = (writes.0, (take n line, drop n line, sym (take-append-drop n line), ap bytes_of writes.1))

-- the message files stay if nothing but ledgers has changed
pub rows_same : (files files' : Files) → ButLedgers files files' → files'.rows ≡ files.rows
rows_same files files' same = ap (λ (f : Files). f.rows) same

pub but_then : (files mid files' : Files) → ButLedgers files mid → ButLedgers mid files' → ButLedgers files files'
but_then files mid files' first next = next ∙ ap (λ (f : Files). let x : Files = record f { ledgers = files'.ledgers } in x) first

pub but_same : (files : Files) → ButLedgers files files
but_same files = refl
