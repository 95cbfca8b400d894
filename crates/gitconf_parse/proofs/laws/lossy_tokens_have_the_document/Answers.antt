use Rattle.gitconf_items.proofs.Documents.{same_tokens, selected_say, lossy_say}
use Rattle.gitconf_parse.proofs.laws.lossy_tokens_have_the_document.Goals as goal

pub returns-clause-one : goal.returns-clause-one
returns-clause-one c = same_tokens

pub returns-clause-lossy : goal.returns-clause-lossy
returns-clause-lossy c = lossy_say

pub returns-clause-selected : goal.returns-clause-selected
returns-clause-selected c = selected_say
