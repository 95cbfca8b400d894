-- Keys by their names, and the keys of differences.
use Rattle.std.specs.Prelude.{Bool, List}
use Rattle.std.specs.List.{list_any}
use Rattle.std.specs.Option.{option_map}
use Rattle.bstr.specs.Owned.{bstring_bytes}
use Rattle.gitconf_diff.specs.PlainSettings.{Names, same_names}
use Rattle.gitconf_diff.specs.Differences.{Different}
use Rattle.gitconf_merge.specs.declared.key.KeyNames.{KeyNames}

-- the names of a key that is lent
abbrev pub plain_names : KeyNames → Names
plain_names k = record { section = bstring_bytes k.section_name.now; subsection = option_map bstring_bytes k.subsection_name.now; name = bstring_bytes k.value_name.now }

-- a key is that of one of these differences
abbrev pub is_among : Names → List Different → Bool
is_among names differences = list_any (λ d. same_names names d.names) differences
