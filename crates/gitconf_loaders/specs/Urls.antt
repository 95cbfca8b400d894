-- What a section says of the urls of remotes.
use Rattle.std.specs.Prelude.{ℕ, Bool, false, List, map, codes}
use Rattle.std.specs.List.{list_any}
use Rattle.gitconf_glob.specs.Pattern.{matches}
use Rattle.gitconf_state.specs.Lookup.{entries_of_key, listing, meaning}
use Rattle.gitconf_state.specs.State.{SectionState}

-- whether a value of `url` matches a pattern
abbrev pub has_url_in : (pattern : List ℕ) → SectionState → Bool
has_url_in pattern s = list_any (matches false pattern) (map meaning (entries_of_key (codes "url") (listing s)))
