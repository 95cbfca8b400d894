use Rattle.gitconf_state.specs.Edits.{renamed, with_trust}
use Rattle.gitconf_views.specs.Alone.{with_items}
use Rattle.gitconf_views.proofs.AloneLaws.{edited_behind}
use Rattle.gitconf_store.proofs.laws.sections_are_edited_alone_as_in_a_file.Goals as goal

pub returns-clause-items : goal.returns-clause-items
returns-clause-items c = λ change detached state once. edited_behind (with_items change) detached state once

pub returns-clause-renamed : goal.returns-clause-renamed
returns-clause-renamed c = λ name subsection detached state once. edited_behind (renamed name subsection) detached state once

pub returns-clause-trusted : goal.returns-clause-trusted
returns-clause-trusted c = λ trust detached state once. edited_behind (with_trust trust) detached state once
