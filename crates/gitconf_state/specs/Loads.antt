-- The states that are loaded from a text: with all of its tokens, with those that a filter keeps, or with some.
use Rattle.std.specs.Prelude.{◌≡◌, Bool, true, List, [], ◌∷◌, ◌++◌, flat_map, filter}
use Rattle.std.specs.List.{AllByRecursion}
use Rattle.gitconf_text.specs.Part.{Part}
use Rattle.gitconf_text.specs.Token.{Token, HeaderToken, item_tokens, tokens_of}
use Rattle.gitconf_items.specs.EventRef.{Shown}
use Rattle.gitconf_items.specs.EventList.{keeps_token, IsSelection}
use Rattle.gitconf_state.specs.State.{SectionState, State}

-- the tokens of a section: its header, and those of its items
abbrev pub section_tokens : SectionState → List Token
section_tokens s = HeaderToken s.header ∷ flat_map item_tokens s.items

-- the tokens of a state, without those of held items
abbrev pub state_tokens : State → List Token
state_tokens state = flat_map item_tokens state.front ++ flat_map section_tokens state.sections

-- the state has the tokens of these parts that a filter keeps, and holds no items
pub record IsLoad (keeps : Shown → Bool) (parts : List Part) (state : State) : Type 0 where
  pub tokens : state_tokens state ≡ filter (keeps_token keeps) (tokens_of parts)
  pub held : AllByRecursion (λ s. s.held ≡ []) state.sections

-- the state has all tokens of these parts, and holds no items
pub record IsFullLoad (parts : List Part) (state : State) : Type 0 where
  pub tokens : state_tokens state ≡ tokens_of parts
  pub held : AllByRecursion (λ s. s.held ≡ []) state.sections

-- the state has some tokens of these parts, with all that make entries among them, and holds no items
pub record IsPartLoad (parts : List Part) (state : State) : Type 0 where
  pub tokens : IsSelection true (tokens_of parts) (state_tokens state)
  pub held : AllByRecursion (λ s. s.held ≡ []) state.sections
