use Rattle.std.proofs.Common.{rules, length, map, Some, sym, subst}
use Rattle.gitconf_text.specs.Token.{assigned_tokens}
use Rattle.gitconf_read.specs.Compact.{events_of}
use Rattle.gitconf_items.specs.Events.{bytes_of, token_of}
use Rattle.gitconf_items.specs.Items.{value_of}
use Rattle.gitconf_items.specs.Grouping.{Between, AreBehind}
use Rattle.gitconf_parse.proofs.grouping.assigned_first.Goals as goal

pub returns-in_ok-value-in-Some-KeyValueSeparator-default-clause-first : goal.returns-in_ok-value-in-Some-KeyValueSeparator-default-clause-first
returns-in_ok-value-in-Some-KeyValueSeparator-default-clause-first c =
    c.of_value.ensures.fits (length c.args.buffer.now) c.blanks_first.ensures.first c.in_ok-value-in-Some-KeyValueSeparator-default.ensures.first

pub returns-in_ok-value-in-Some-KeyValueSeparator-default-clause-tokens : goal.returns-in_ok-value-in-Some-KeyValueSeparator-default-clause-tokens
returns-in_ok-value-in-Some-KeyValueSeparator-default-clause-tokens c =
    let b = c.args.buffer.now in
    let value = c.in_ok-value-in-Some-KeyValueSeparator-default.value in
    let behind = map (token_of b) (events_of c.in_ok-value-in-Some-KeyValueSeparator-default.behind) in
    let all = map (token_of b) (events_of c.args.events) in
    let read : AreBehind Between (assigned_tokens (Some (record { blanks = bytes_of b c.blanks_first.result.0; value = value_of b value }))) behind all = search rules in
    subst (λ o. AreBehind Between (assigned_tokens o) behind all) (sym (c.of_value.ensures.told b)) read
