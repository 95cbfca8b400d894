use Rattle.gitconf_body.proofs.items_edits.PopEntryItemsEdit.edit.Goals as goal

pub returns-clause-within : goal.returns-clause-within
returns-clause-within c = c.pop.ensures.within _ c.requires.within
