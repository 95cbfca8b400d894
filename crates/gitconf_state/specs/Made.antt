-- The states that are made of tokens.
use Rattle.std.specs.Prelude.{◌≡◌, ℕ, List, [], length, map}
use Rattle.std.specs.List.{AllByRecursion, range_with_len}
use Rattle.gitconf_text.specs.Token.{Token}
use Rattle.gitconf_sources.specs.Metadata.{Meta}
use Rattle.gitconf_state.specs.State.{State}
use Rattle.gitconf_state.specs.Loads.{state_tokens}

-- A state made of these tokens: all of it comes from one place, nothing is held, and the sections are numbered from 0.
pub record IsMade (tokens : List Token) (place : Meta) (bytes : ℕ) (state : State) : Type 0 where
  pub tokens_are : state_tokens state ≡ tokens
  pub held : AllByRecursion (λ s. s.held ≡ []) state.sections
  pub meta : state.meta ≡ place
  pub metas : AllByRecursion (λ s. s.meta ≡ place) state.sections
  pub numbers : map (λ s. s.number) state.sections ≡ range_with_len 0 (length state.sections)
  pub next : state.next ≡ length state.sections
  pub used : state.used ≡ bytes
