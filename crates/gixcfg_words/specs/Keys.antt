-- Which key a word of a call is.
use Rattle.std.specs.Prelude.{◌≡◌, ◌==◌, ◌&&◌, ℕ, nat_eq, Bool, true, false, not, List, [], ◌∷◌, Option, Some, None, Result, Ok, Err, codes, if◌then◌else◌}
use Rattle.std.specs.List.{list_any, starts_with}
use Rattle.std.specs.Option.{option_map}
use Rattle.gitconf_sources.specs.declared.key.KeyRef.{KeyRef}
use Rattle.gitconf_sources.specs.Key.{Key, key_of, parsed_key}
use Rattle.gixcfg_words.specs.declared.fault.Fault.{Fault}
use Rattle.gixcfg_words.specs.declared.fault.Fault.TheVariants.{Nameless, NoKey}

-- a section has neither a name nor a subsection
abbrev pub is_nameless : (name : List ℕ) (subsection : Option (List ℕ)) → Bool
is_nameless [] None = true
is_nameless [] (Some subsection) = false
is_nameless (b ∷ name) subsection = false

-- a key has a section's name or a subsection
abbrev pub has_section : Key → Bool
has_section key = not (is_nameless key.section key.subsection)

-- a call gives the key of a word; or says that the word has no dot, or nothing before its only one
abbrev pub IsKey : (word : List ℕ) → Result KeyRef Fault → Type 0
IsKey word (Ok key) = (parsed_key word ≡ Some (key_of key)) × (has_section (key_of key) ≡ true)
IsKey word (Err (NoKey told)) = (parsed_key word ≡ None) × (told.now ≡ word)
IsKey word (Err Nameless) = option_map has_section (parsed_key word) ≡ Some false
IsKey word (Err fault) = ⊥

-- a word whose first dot stands behind this is an option with its value, as `--file=my.conf`: no section has such a name
abbrev pub is_option_with_value : (name : List ℕ) → Bool
is_option_with_value name = starts_with nat_eq name (codes "--") && list_any (λ b. b == 61) name

-- the key that a word is, if it is one
abbrev pub key_asked : (word : List ℕ) → Option Key
key_asked word = elim (parsed_key word) [
  | None ↦ None
  | Some key ↦ if is_option_with_value key.section then None else Some key
]

-- the key that a word of a call with options is
abbrev pub key_meant : (word : List ℕ) → Option Key
key_meant word = elim (parsed_key word) [ None ↦ None | Some key ↦ if has_section key then Some key else None ]

-- the key that a word is, or none if it is empty
abbrev pub key_if : (word : List ℕ) → Option (Option Key)
key_if [] = Some None
key_if (b ∷ word) = option_map Some (key_meant (b ∷ word))
