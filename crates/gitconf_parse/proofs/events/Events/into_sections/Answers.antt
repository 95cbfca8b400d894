use Rattle.std.proofs.Common.{length, subst}
use Rattle.gitconf_items.specs.ItemsFit.{AreItemsWithin}
use Rattle.gitconf_parse.proofs.events.Events.into_sections.Goals as goal

pub grouped-requires-clause-keeps : goal.grouped-requires-clause-keeps
grouped-requires-clause-keeps g c = c.requires.keeps c.deref.result.now

pub returns-clause-within : goal.returns-clause-within
returns-clause-within g c = subst (λ b. AreItemsWithin (length b) c.in_ok-front.front.items) c.deref.ensures.value c.in_ok-front.ensures.within
