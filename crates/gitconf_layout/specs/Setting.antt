-- What one pass over the tokens of a text writes.
use Rattle.std.specs.Prelude.{ℕ, ◌-◌, Bool, true, false, List, [], ◌∷◌, ◌++◌, ◌==◌, ◌||◌, ◌&&◌, Option, Some, None}
use Rattle.std.specs.Prelude as prelude
use Rattle.gitconf_items.specs.EventRef.{Shown}
use Rattle.gitconf_items.specs.Sections.{is_shown_header}
use Rattle.gitconf_layout.specs.declared.format.Options.{Options}
use Rattle.gitconf_layout.specs.declared.place.Before.TheVariants.{Nothing}
use Rattle.gitconf_layout.specs.declared.place.Place.{Place}
use Rattle.gitconf_layout.specs.Layout.{behind, is_nothing, line_ends_in, set_token}

-- the byte b, n times
abbrev pub replicate : ℕ → ℕ → List ℕ
replicate n b = prelude.replicate n b

-- the place before the first token
abbrev pub first : Options → Place
first options = record { in_section = false; before = Nothing; room = options.max_leading_blank_lines }

-- the place after a token, before the lines that it ends
abbrev pub behind_token : Place → Shown → Place
behind_token p t = record { in_section = is_shown_header t || p.in_section; before = behind p.before t; room = p.room }

-- no more blank lines may stay
abbrev pub is_full : Option ℕ → Bool
is_full None = false
is_full (Some n) = n == 0

-- the line is blank and may not stay
abbrev pub is_dropped : Place → Bool
is_dropped p = is_nothing p.before && is_full p.room

-- one fewer blank line may stay; no limit stays no limit
abbrev pub one_less : Option ℕ → Option ℕ
one_less None = None
one_less (Some n) = Some (n - 1)

-- the place after the end of the line
abbrev pub on_next_line : Options → Place → Place
on_next_line options p = record {
  in_section = p.in_section;
  before = Nothing;
  room = elim (is_nothing p.before) [ true ↦ one_less p.room | false ↦ options.max_consecutive_blank_lines ];
}

-- what ends the line: the line ending if the line stays, otherwise nothing
abbrev pub end_text : (line_end : List ℕ) → Place → List ℕ
end_text line_end p = elim (is_dropped p) [ true ↦ [] | false ↦ line_end ]

-- the line endings that are written for a run: one for each LF whose line stays
unfoldable pub ends_text : Options → (line_end : List ℕ) → Place → List ℕ → List ℕ
ends_text options line_end p [] = []
ends_text options line_end p (b ∷ run) = elim (b == 10) [
  | true ↦ end_text line_end p ++ ends_text options line_end (on_next_line options p) run
  | false ↦ ends_text options line_end p run
]

-- the place after a run
unfoldable pub ends_place : Options → Place → List ℕ → Place
ends_place options p [] = p
ends_place options p (b ∷ run) = elim (b == 10) [
  | true ↦ ends_place options (on_next_line options p) run
  | false ↦ ends_place options p run
]

-- the text of the tokens from this place on
unfoldable pub set_tokens : Options → (line_end : List ℕ) → Place → List Shown → List ℕ
set_tokens options line_end p [] = []
set_tokens options line_end p (t ∷ rest) =
    set_token options p.in_section p.before t rest
    ++ (ends_text options line_end (behind_token p t) (line_ends_in t)
    ++ set_tokens options line_end (ends_place options (behind_token p t) (line_ends_in t)) rest)
