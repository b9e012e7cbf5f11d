-- Texts that are TOML.
use Rattle.std.proofs.Common.{◌≡◌, ℕ, List, None, Some, refl, inl, inr}
use Rattle.std.specs.Prelude.{IsUtf8}
use Rattle.std.specs.Str.{is_utf8}
use Rattle.std.proofs.lemmas.Str.{IsUtf8-from_is_utf8, is_utf8-from_IsUtf8}
use Rattle.std.proofs.lemmas.Bool.{cases_Bool}
use Rattle.toml.specs.Data.{Members}
use Rattle.toml.specs.Parse.{parse_document}
use Rattle.accounts_file.specs.Files.{document}

pub written : (bytes : List ℕ) (table : Members) → IsUtf8 bytes → parse_document bytes ≡ Some table → document bytes ≡ Some table
written bytes table text read = rw (is_utf8-from_IsUtf8 bytes text) read

pub not_written : (bytes : List ℕ) → (IsUtf8 bytes → parse_document bytes ≡ None) → document bytes ≡ None
not_written bytes refused = elim (cases_Bool (is_utf8 bytes)) [
  | inl text ↦ rw text (refused (IsUtf8-from_is_utf8 bytes text))
  | inr other ↦ rw other refl
]
