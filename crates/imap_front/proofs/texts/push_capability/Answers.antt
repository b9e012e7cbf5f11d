use Rattle.std.proofs.Common.{◌≡◌, ◌++◌, codes, ap, ◌∙◌, append_assoc}
use Rattle.std.proofs.lemmas.Result.{IfOk-weaker}
use Rattle.imap_front.specs.Texts.{tagged_line, capability_text}
use Rattle.imap_front.proofs.texts.push_capability.Goals as goal

pub returns : goal.returns
returns c =
    let old = c.args.out.now.items in
    let new = c.push_tagged.new.out.items in
    let begun = c.extend_from_slice.new.self.items in
    let tag = c.args.tag.now in
    let last = tagged_line tag (codes "OK CAPABILITY completed") in
    let lines = codes "* CAPABILITY IMAP4rev1 QUOTA QUOTASET QUOTA=RES-STORAGE QUOTA=RES-MESSAGE STATUS=SIZE\r\n" in
    IfOk-weaker c.push_tagged.result (λ _. new ≡ begun ++ last) (λ _. new ≡ old ++ capability_text tag)
    (λ _ e. e ∙ ap (λ l. l ++ last) c.in_ok-extend_from_slice.ensures.items ∙ append_assoc old lines last) c.push_tagged.ensures
