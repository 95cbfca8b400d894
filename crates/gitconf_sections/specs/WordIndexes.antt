-- What an index shows of its links, and when they are in order.
use Rattle.std.specs.Prelude.{◌-◌, ◌<◌, ◌≤◌, length, min, vec_len, vec_capacity}
use Rattle.gitconf_sections.specs.declared.index.WordIndex.TheInside.{Inside}
use Rattle.gitconf_sections.specs.Links.{no_place, words_of, AreLinked}
use Rattle.gitconf_sections.specs.Words.{Words}

-- the words of an index, and how many more there is room for
abbrev pub shown_index : Inside → Words
shown_index i = record { words = words_of i.links.items; room = min (vec_capacity i.links - vec_len i.links) (no_place - vec_len i.links) }

-- all links are chained, each has a place, and if there is room for links there are buckets
pub record IsIndex (i : Inside) : Type 0 where
  pub linked : AreLinked (length i.links.items) i.links.items i.buckets.items
  pub long : length i.links.items ≤ no_place
  pub bucketed : 0 < vec_capacity i.links → 0 < vec_len i.buckets
