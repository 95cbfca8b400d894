-- The entries of a key among the parts of a text, as a walk meets them; only proofs and private functions see it.
use Rattle.std.specs.Prelude.{ℕ, Bool, true, false, List, [], ◌∷◌, ◌++◌, ◌&&◌, Option, Some, None, if◌then◌else◌}
use Rattle.std.specs.List.{fold}
use Rattle.std.specs.Option.{option_eq, option_map}
use Rattle.std.specs.Str.{bytes_eq}
use Rattle.gitconf_sources.specs.Key.{Key}
use Rattle.gitconf_text.specs.Header.{Header, name_of, subsection_of}
use Rattle.gitconf_text.specs.Names.{is_same_name}
use Rattle.gitconf_text.specs.Value.{raw_of, plain}
use Rattle.gitconf_text.specs.Part.{Assigned, Entry, BlanksItem, LineEndsItem, CommentItem, EntryItem, Part, ItemPart, HeaderPart}

-- an entry of the key: whether it is the first in its section, and the raw text of its value, if it has one
pub record MetEntry : Type 0 where
  pub anew : Bool
  pub raw : Option (List ℕ)

-- where a walk stands: whether the section at hand is that of the key, and whether no entry of the key was met in it
pub record Standing : Type 0 where
  pub meant : Bool
  pub anew : Bool

-- the header is that of the key's section
abbrev pub is_meant : Key → Header → Bool
is_meant key h = is_same_name key.section (name_of h) && option_eq bytes_eq (subsection_of h) key.subsection

-- the entry is one of the key
abbrev pub is_met : Key → Standing → Entry → Bool
is_met key s e = s.meant && is_same_name key.name e.name

-- the raw text of what is assigned
abbrev pub raw_assigned : Option Assigned → Option (List ℕ)
raw_assigned assigned = option_map (λ (a : Assigned). raw_of a.value) assigned

-- what is met at a part
abbrev pub met_at : Key → Standing → Part → List MetEntry
met_at key s (HeaderPart h) = []
met_at key s (ItemPart (BlanksItem run)) = []
met_at key s (ItemPart (LineEndsItem run)) = []
met_at key s (ItemPart (CommentItem tag text)) = []
met_at key s (ItemPart (EntryItem e)) = if is_met key s e then (record { anew = s.anew; raw = raw_assigned e.assigned }) ∷ [] else []

-- where the walk stands after a part
abbrev pub after_part : Key → Standing → Part → Standing
after_part key s (HeaderPart h) = record { meant = is_meant key h; anew = true }
after_part key s (ItemPart (BlanksItem run)) = s
after_part key s (ItemPart (LineEndsItem run)) = s
after_part key s (ItemPart (CommentItem tag text)) = s
after_part key s (ItemPart (EntryItem e)) = if is_met key s e then record { meant = s.meant; anew = false } else s

-- what is met at these parts, in order
abbrev pub met_in : Key → Standing → List Part → List MetEntry
met_in key s [] = []
met_in key s (p ∷ parts) = met_at key s p ++ met_in key (after_part key s p) parts

-- where the walk stands after these parts
abbrev pub after_parts : Key → Standing → List Part → Standing
after_parts key s [] = s
after_parts key s (p ∷ parts) = after_parts key (after_part key s p) parts

-- what decided before the section at hand, and what decides so far
abbrev pub Deciding : Type 0
Deciding = Option (List ℕ) × Option (List ℕ)

-- the same after one more entry of the key
abbrev pub decide : Deciding → MetEntry → Deciding
decide d m =
    let before = if m.anew then d.1 else d.0 in
    (before, elim m.raw [ None ↦ before | Some raw ↦ Some raw ])

-- what decides after these entries of the key
abbrev pub decided : List MetEntry → Deciding
decided entries = fold decide (None, None) entries

-- what an entry of this raw text means; without one it counts as empty
abbrev pub raw_meaning : Option (List ℕ) → List ℕ
raw_meaning None = []
raw_meaning (Some raw) = plain raw

-- what an entry of the key means
abbrev pub met_meaning : MetEntry → List ℕ
met_meaning m = raw_meaning m.raw
