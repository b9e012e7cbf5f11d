-- Bytes of a session that come after others.
use Rattle.std.proofs.Common.{◌≡◌, ℕ, ◌<◌, Bool, List, [], ◌∷◌, ◌++◌, length, None, refl, sym, ap, ◌∙◌, subst, inl, inr, arith, append_assoc, append-nil}
use Rattle.imap_grammar.specs.Requests.{whole_at, asked_at, asked_later}
use Rattle.imap_grammar.specs.Reaching.{Reached}
use Rattle.imap_grammar.proofs.LineFeeds.{split_prefix}

module _ (login : Bool) where
  pub asked_append : (start a b : List ℕ) → asked_later login start (a ++ b) ≡ asked_later login start a ++ asked_later login (start ++ a) b
  asked_append start [] b = ap (λ l. asked_later login l b) (sym (append-nil start))
  asked_append start (x ∷ a) b =
      ap (λ l. asked_at login (start ++ x ∷ []) ++ l) (asked_append (start ++ x ∷ []) a b)
      ∙ sym (append_assoc (asked_at login (start ++ x ∷ [])) (asked_later login (start ++ x ∷ []) a) (asked_later login ((start ++ x ∷ []) ++ a) b))
      ∙ ap (λ l. (asked_at login (start ++ x ∷ []) ++ asked_later login (start ++ x ∷ []) a) ++ asked_later login l b) (append_assoc start (x ∷ []) a)

  -- nothing is asked for at any of the bytes
  pub asked_nothing : (start more : List ℕ) → ((own rest : List ℕ) → more ≡ own ++ rest → 0 < length own → asked_at login (start ++ own) ≡ []) → asked_later login start more ≡ []
  asked_nothing start [] none = refl
  asked_nothing start (b ∷ bs) none =
      ap (λ l. l ++ asked_later login (start ++ b ∷ []) bs) (none (b ∷ []) bs refl (omega arith))
      ∙ asked_nothing (start ++ b ∷ []) bs (λ own rest e lt. ap (asked_at login) (append_assoc start (b ∷ []) own) ∙ none (b ∷ own) rest (ap (λ l. b ∷ l) e) (omega arith))

  module _ (come written more : List ℕ) (reached : Reached login come written)
      (none : (own : List ℕ) (b : ℕ) (rest : List ℕ) → more ≡ own ++ b ∷ rest → whole_at login (come ++ own) ≡ None) where
    pub reached_more : (also : List ℕ) → asked_later login come more ≡ also → Reached login (come ++ more) (written ++ also)
    reached_more also asked = record {
      early = λ prefix b rest e. elim (split_prefix come more prefix b rest e) [
        | inl p ↦ reached.early prefix b p.0 p.1
        | inr p ↦ ap (whole_at login) p.1 ∙ none p.0 b rest p.2
      ];
      asked = ap (λ l. l ++ also) reached.asked ∙ ap (λ l. asked_later login [] come ++ l) (sym asked) ∙ sym (asked_append [] come more);
    }

    -- with nothing asked for
    pub reached_silent : ((own rest : List ℕ) → more ≡ own ++ rest → 0 < length own → asked_at login (come ++ own) ≡ []) → Reached login (come ++ more) written
    reached_silent nothing = subst (λ w. Reached login (come ++ more) w) (append-nil written) (reached_more [] (asked_nothing come more nothing))

  -- if the bytes are no request either, none of their prefixes is one
  pub reached_none : (come written : List ℕ) → Reached login come written → whole_at login come ≡ None → (prefix more : List ℕ) → come ≡ prefix ++ more → whole_at login prefix ≡ None
  reached_none come written reached none prefix [] e = ap (whole_at login) (sym (append-nil prefix) ∙ sym e) ∙ none
  reached_none come written reached none prefix (b ∷ more) e = reached.early prefix b more e
