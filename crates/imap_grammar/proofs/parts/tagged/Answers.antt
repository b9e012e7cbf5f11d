use Rattle.imap_grammar.proofs.ShortTags.{tag_shorter}
use Rattle.imap_grammar.proofs.parts.tagged.Goals as goal

pub returns-clause-tag : goal.returns-clause-tag
returns-clause-tag c = tag_shorter c.args.text.now c.in_ok-tag.tag.now c.in_ok-tag.rest.now c.in_ok-rest.rest.now 32 c.in_ok-rest.field-0-0 c.in_ok-tag.ensures c.in_ok-rest.ensures
