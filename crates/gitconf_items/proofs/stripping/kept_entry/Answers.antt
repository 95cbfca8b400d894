use Rattle.gitconf_items.proofs.Strips.{key_and_meaning}
use Rattle.gitconf_items.proofs.stripping.kept_entry.Goals as goal

pub returns-in-Meaning-clause-told : goal.returns-in-Meaning-clause-told
returns-in-Meaning-clause-told c = λ buffer. rw c.in-Meaning.is (key_and_meaning buffer c.args.entry c.stripped_entry.result c.stripped_entry.ensures)
