-- The bases of the files of an account: a base that occurs twice in its mailbox, and a base that a
-- delivery could have.
use Rattle.std.specs.Prelude.{◌≡◌, ◌≤◌, ◌+◌, ◌-◌, ◌^◌, ℕ, zero, suc, min, Bool, ◌&&◌, nat_lt, nat_eq, List, [], ◌∷◌, ◌++◌, length, map, find, take, count_by, bytes_eq, codes, decimal, Option, Some, None, sum_by}
use Rattle.std.specs.List.{starts_with, ends_with}
use Rattle.std.specs.Option.{option_map, option_or}
use Rattle.std.specs.BTreeMap.{BTreeMap, get_by}
use denote.Ref.{Bor}
use Rattle.std.specs.Cmp.Lexicographic.{slice_cmp}
use Rattle.std.specs.Ordering.{nat_cmp}
use Rattle.keeper.specs.Files.{Row, listed}
use Rattle.keeper.specs.declared.rows.FileRow.{FileRow}
use Rattle.message_names.specs.Parts.{base_of}
use Rattle.account_opening.specs.declared.findings.Findings.{Findings}

-- the files of each mailbox
abbrev pub listings : List (List ℕ) → List Row → List (List FileRow)
listings mailboxes rows = map (λ mailbox. listed mailbox rows) mailboxes

abbrev pub how_many_files : List (List FileRow) → ℕ
how_many_files all = sum_by length all

abbrev pub base_in : FileRow → List ℕ
base_in file = base_of file.name

abbrev pub times_in : List FileRow → List ℕ → ℕ
times_in files base = count_by (λ file. bytes_eq (base_in file) base) files

-- what is noted of a base
abbrev pub noted : BTreeMap (Bor (List ℕ)) ℕ → List ℕ → Option ℕ
noted notes base = get_by (λ key. slice_cmp nat_cmp base key.now) notes

-- what is noted of a base that occurs this often: nothing, 1 for once, or 2 for twice or more
abbrev pub count_up_to_two : ℕ → Option ℕ
count_up_to_two zero = None
count_up_to_two (suc zero) = Some 1
count_up_to_two (suc (suc n)) = Some 2

-- each base is noted as often as it occurs in the files, up to 2
abbrev pub AreCounted : BTreeMap (Bor (List ℕ)) ℕ → List FileRow → Type 0
AreCounted notes files = (base : List ℕ) → noted notes base ≡ count_up_to_two (times_in files base)

-- no base occurs twice
abbrev pub AreApart : List FileRow → Type 0
AreApart files = (base : List ℕ) → times_in files base ≤ 1

-- the first base that two or more of the files have
abbrev pub double_in : List FileRow → Option (List ℕ)
double_in files = option_map base_in (find (λ file. nat_lt 1 (times_in files (base_in file))) files)

abbrev pub first_double : List (List FileRow) → Option (List ℕ)
first_double [] = None
first_double (files ∷ all) = option_or (double_in files) (first_double all)

-- a delivery of this epoch could have the base
abbrev pub is_of_epoch : ℕ → List ℕ → Bool
is_of_epoch epoch base =
    starts_with nat_eq base (decimal epoch ++ codes ".") && ends_with nat_eq base (codes ".quotad")

abbrev pub used_in : ℕ → List FileRow → Option (List ℕ)
used_in epoch files = option_map base_in (find (λ file. is_of_epoch epoch (base_in file)) files)

-- the first such base in all mailboxes
abbrev pub first_used : ℕ → List (List FileRow) → Option (List ℕ)
first_used epoch [] = None
first_used epoch (files ∷ all) = option_or (used_in epoch files) (first_used epoch all)

-- a base as a refusal names it: at most the first 255 bytes of it
abbrev pub shown : List ℕ → List ℕ
shown base = take 255 base

-- the findings in these mailboxes
abbrev pub findings_of : ℕ → List (List FileRow) → Findings
findings_of epoch all = record {
  files = min (how_many_files all) (2 ^ 64 - 1);
  double = option_map shown (first_double all);
  used = option_map shown (first_used epoch all);
}

-- the findings before any mailbox is listed
abbrev pub no_findings : Findings
no_findings = record { files = 0; double = None; used = None }

-- these findings with the files of one more mailbox
abbrev pub with_files_of : ℕ → Findings → List FileRow → Findings
with_files_of epoch found files = record {
  files = min (found.files + length files) (2 ^ 64 - 1);
  double = option_or found.double (option_map shown (double_in files));
  used = option_or found.used (option_map shown (used_in epoch files));
}
