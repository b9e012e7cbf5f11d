-- The whole lines of a text, by its last line feed.
use Rattle.std.proofs.Common.{ℕ, ◌+◌, ◌<◌, List, length, take, drop, None, Some, refl, sym, ap, ◌∙◌, arith, inl, inr, add-one, take-append-drop, take-suc, length-drop, get_or-drop, eqb-true}
use Rattle.std.proofs.lemmas.Bool.{false_from_ne_true}
use Rattle.std.proofs.lemmas.List.{get_or_default}
use Rattle.std.proofs.lemmas.List.Folds.{list_any_none}
use Rattle.memchr.specs.Find.{IsLastByte, is_byte}
use Rattle.keeper_fs.specs.Ledgers.{AreWholeLines, is_line_feed}

pub no_line : (text : List ℕ) → IsLastByte (is_byte 10) text None → AreWholeLines text (take 0 text)
no_line text nowhere = record {
  rest = text;
  prefix = refl;
  ended = inl refl;
  most = list_any_none is_line_feed text
      (λ k d within.
      ap is_line_feed (get_or_default text k d 0 within)
      ∙ false_from_ne_true _ (nowhere k (omega arith) within));
}

pub up_to_last : (text : List ℕ) (at : ℕ) → IsLastByte (is_byte 10) text (Some at) →
    AreWholeLines text (take (at + 1) text)
up_to_last text at last = record {
  rest = drop (at + 1) text;
  prefix = sym (take-append-drop (at + 1) text);
  ended = inr (
    take at text,
    rw (add-one, take-suc text at 0 last.0.high, eqb-true _ _ last.1) refl,
  );
  most = list_any_none is_line_feed (drop (at + 1) text) (λ k d within.
      let inside : at + 1 + k < length text = omega (arith, length-drop (at + 1) text, within) in
      ap is_line_feed (get_or-drop (at + 1) text k d ∙ get_or_default text (at + 1 + k) d 0 inside)
      ∙ false_from_ne_true _ (last.0.after (at + 1 + k) (omega arith) inside));
}
