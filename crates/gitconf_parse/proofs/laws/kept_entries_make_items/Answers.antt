use Rattle.gitconf_items.proofs.GroupLaws.{parsed_items, selected_items, whole_items}
use Rattle.gitconf_parse.proofs.laws.kept_entries_make_items.Goals as goal

pub returns-clause-whole : goal.returns-clause-whole
returns-clause-whole c = whole_items

pub returns-clause-kept : goal.returns-clause-kept
returns-clause-kept c = parsed_items

pub returns-clause-selected : goal.returns-clause-selected
returns-clause-selected c = selected_items
