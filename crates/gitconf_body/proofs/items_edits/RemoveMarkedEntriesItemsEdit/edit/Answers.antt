use Rattle.gitconf_body.proofs.items_edits.RemoveMarkedEntriesItemsEdit.edit.Goals as goal

pub returns-clause-within : goal.returns-clause-within
returns-clause-within c = c.remove_marked.ensures.within _ c.requires.within
