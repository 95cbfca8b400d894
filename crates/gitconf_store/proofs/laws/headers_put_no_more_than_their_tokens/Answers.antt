use Rattle.gitconf_text.specs.Header.{spelled_header}
use Rattle.gitconf_state.specs.Edit.{header_bytes, is_target, made_header}
use Rattle.gitconf_store.proofs.Headers.HeaderBytes.{header_tokens, headers_tokens}
use Rattle.gitconf_store.proofs.laws.headers_put_no_more_than_their_tokens.Goals as goal

pub returns-clause-one : goal.returns-clause-one
returns-clause-one c = λ number name subsection state. header_tokens name subsection

pub returns-clause-all : goal.returns-clause-all
returns-clause-all c = λ name subsection keeps new_name new_subsection state some.
    headers_tokens (is_target name subsection keeps) state.sections (spelled_header (made_header new_name new_subsection)) (header_bytes new_name new_subsection) (header_tokens new_name new_subsection) some
