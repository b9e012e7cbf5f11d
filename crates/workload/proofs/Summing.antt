-- The summary, number by number.
use Rattle.std.proofs.Common.{◌≡◌, ℕ, List, ap, ◌∙◌}
use Rattle.quota_units.specs.declared.totals.Totals.{Totals}
use Rattle.desk.specs.Shares.{Share, share_at}
use Rattle.workload.specs.Requests.{input}
use Rattle.workload.specs.Summaries.{session_on, lines_that, is_delivered, is_refused, is_removal, is_missing, usage_of, summary}
use Rattle.workload.specs.declared.summary.Summary.{Summary}

module _ (n : ℕ) where
  -- the summary of these answers and this usage
  abbrev pub summed : List ℕ → Totals → Summary
  summed text totals = record {
    requests = n;
    delivered = lines_that is_delivered text;
    refused = lines_that is_refused text;
    removed = lines_that is_removal text;
    missing = lines_that is_missing text;
    octets = totals.octets;
    messages = totals.count;
  }

  pub tallied : (d r e m : ℕ) (text : List ℕ) (totals : Totals) → d ≡ lines_that is_delivered text → r ≡ lines_that is_refused text
      → e ≡ lines_that is_removal text → m ≡ lines_that is_missing text
      → ◌≡◌ {A = Summary} (record { requests = n; delivered = d; refused = r; removed = e; missing = m; octets = totals.octets; messages = totals.count }) (summed text totals)
  tallied d r e m text totals de re ee me = cc

  pub session_summed : (bytes text : List ℕ) (shares : List Share) (totals : Totals) → bytes ≡ input n → text ≡ (session_on bytes).text
      → shares ≡ (session_on bytes).world → totals ≡ usage_of (share_at shares 0) → summed text totals ≡ summary n
  unfolding summary
  session_summed bytes text shares totals is written left used =
      ap (λ (t : List ℕ). summed t totals) (written ∙ ap (λ (b : List ℕ). (session_on b).text) is)
      ∙ ap (λ (t : Totals). summed (session_on (input n)).text t) (used ∙ ap (λ (l : List Share). usage_of (share_at l 0)) (left ∙ ap (λ (b : List ℕ). (session_on b).world) is))
