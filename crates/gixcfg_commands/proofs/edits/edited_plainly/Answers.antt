use Rattle.std.proofs.Common.{◌≡◌, Some, rules, subst}
use Rattle.gitconf_sources.specs.Key.{key_of}
use Rattle.gixcfg_words.specs.Plain.{Fmt}
use Rattle.gixcfg_commands.specs.Plainly.{Gives, IsOutcome, plain_edit}
use Rattle.gixcfg_commands.proofs.PlainLemmas.{fmt_is, plain_layout, set_is}
use Rattle.gixcfg_commands.proofs.edits.edited_plainly.Goals as goal

pub returns-in-Set : goal.returns-in-Set
returns-in-Set c = λ plain is.
    let set = c.in-Set.set.now in
    let told = set_is set.target set.kind set.placing set.comment (key_of set.key) set.value.now plain (subst (λ e. plain_edit e ≡ Some plain) c.in-Set.is is) in
    subst (λ p. Gives (λ text. text.items) (IsOutcome p c.args.text.items) c.with_value.result) told.1 c.with_value.ensures.set

pub returns-in-Fmt : goal.returns-in-Fmt
returns-in-Fmt c = λ plain is.
    let fmt = c.in-Fmt.fmt.now in
    let told = fmt_is fmt.files fmt.is_check fmt.indent fmt.newline plain (subst (λ e. plain_edit e ≡ Some plain) c.in-Fmt.is is) in
    let same : c.as_slice.result.now ≡ c.args.text.items = search rules in
    subst (λ p. Gives (λ text. text.items) (IsOutcome p c.args.text.items) c.laid_out.result) told.call
    (subst (λ t. Gives (λ text. text.items) (IsOutcome Fmt t) c.laid_out.result) same (c.laid_out.ensures (plain_layout fmt told.indented told.ended)))
