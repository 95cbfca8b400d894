use Rattle.std.proofs.Common.{◌∙◌, rules}
use Rattle.std.proofs.lemmas.Fn.{always_returns_same}
use Rattle.gitconf_diff.specs.PlainSettings.{names_cmp}
use Rattle.gitconf_diff.specs.Differences.{different_of}
use Rattle.gitconf_merge.specs.Keys.{plain_names}
use Rattle.gitconf_merge.proofs.Searches.{found}
use Rattle.gitconf_merge.proofs.key.is_key_among.Goals as goal

pub returns : goal.returns
returns c =
    c.is_ok.ensures.value
    ∙ found c.args.differences.now (plain_names c.args.names) c.requires c.binary_search_by.result c.binary_search_by.ensures.bound
    (c.binary_search_by.ensures.position (λ d. names_cmp (different_of d).names (plain_names c.args.names)) (always_returns_same _ _ _ (λ a r f k. search rules)))
