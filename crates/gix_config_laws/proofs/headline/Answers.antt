use Rattle.std.proofs.Common.{ap, map, subst}
use Rattle.gitconf_text.specs.Document.{Document}
use Rattle.gitconf_text.specs.Token.{spelled_token, tokens_of}
use Rattle.gitconf_state.specs.Inserted.{Inserted}
use Rattle.gitconf_state.specs.Printing.{printed}
use Rattle.gitconf_items.specs.TokenDocument.{keeps_meaning}
use Rattle.gitconf_items.proofs.TextLaws.{lossy_keeps_entries}
use Rattle.gitconf_state.specs.Loads.{IsLoad}
use Rattle.gitconf_state.proofs.Loading.Clean.{full_has_items, full_is_clean, kept_has_items, lossy_is_clean}
use Rattle.gitconf_state.proofs.Exact.Printing.{byte_for_byte}
use Rattle.gitconf_state.proofs.Printing.InsertingLineEnds.{printed_inserted}
use Rattle.gix_config_laws.proofs.ReadsBack.{loads_equal, made_is_load, runs_keep, runs_read}
use Rattle.gix_config_laws.proofs.SameLookups.{same_implicit, same_value, same_values}
use Rattle.gix_config_laws.proofs.headline.Goals as goal

pub returns-clause-kept : goal.returns-clause-kept
returns-clause-kept c = runs_keep

pub returns-clause-reads : goal.returns-clause-reads
returns-clause-reads c = runs_read

pub returns-clause-loaded : goal.returns-clause-loaded
returns-clause-loaded c = λ text parts place bytes calls old new is made runs clean.
    let load = made_is_load parts place bytes old made in
    runs_read calls old new runs clean (full_has_items parts old is.fits load) (full_is_clean parts old is.fits load)

pub returns-clause-lossy : goal.returns-clause-lossy
returns-clause-lossy c = λ text parts place bytes calls old new is made none runs clean.
    let load : IsLoad keeps_meaning parts old = record { tokens = made.tokens_are; held = made.held } in
    runs_read calls old new runs clean (kept_has_items keeps_meaning parts old (lossy_keeps_entries (tokens_of parts)) is.fits load) (lossy_is_clean parts old is.fits load none)

pub returns-clause-again : goal.returns-clause-again
returns-clause-again c = λ parts place bytes new again. loads_equal new again parts place bytes

pub returns-clause-unedited : goal.returns-clause-unedited
returns-clause-unedited c = λ text parts place bytes file is made.
    let load = made_is_load parts place bytes file made in (
      subst (λ tokens. Inserted (map spelled_token tokens) (printed file)) load.tokens (printed_inserted file load.held),
      byte_for_byte text parts file is load,
    )

pub returns-clause-lookups : goal.returns-clause-lookups
returns-clause-lookups c = λ one other key same.
    let sections = ap (λ (d : Document). d.sections) same in (same_value one other sections key, same_values one other sections key, same_implicit one other sections key)
