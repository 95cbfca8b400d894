use Rattle.std.proofs.Common.{map, subst}
use Rattle.gitconf_text.specs.Token.{spelled_token}
use Rattle.gitconf_state.specs.Printing.{printed}
use Rattle.gitconf_state.specs.Inserted.{Inserted}
use Rattle.gitconf_state.proofs.Printing.InsertingLineEnds.{printed_inserted}
use Rattle.gitconf_parse.proofs.state_laws.full_load_is_inserted.Goals as goal

pub returns : goal.returns
returns c = λ text parts state is load. subst (λ tokens. Inserted (map spelled_token tokens) (printed state)) load.tokens (printed_inserted state load.held)
