-- The sections that go when their last entries were removed.
-- Source: `maybe_remove_section` of git 2.47 (config.c), and this project's manual page, `unset`.
use Rattle.std.specs.Prelude.{ℕ, Bool, true, false, not, ◌==◌, ◌&&◌, ◌||◌, List, [], ◌∷◌, ◌++◌, map, take, drop, if◌then◌else◌}
use Rattle.std.specs.List.{list_any}
use Rattle.gitconf_text.specs.Part.{Item, BlanksItem, LineEndsItem, CommentItem, EntryItem}
use Rattle.gitconf_items.specs.EventRef.{Shown, ShownComment}
use Rattle.gitconf_items.specs.Items.{tokens_in}
use Rattle.gitconf_items.specs.ShownEvents.{shown_token}
use Rattle.gitconf_items.specs.declared.items.Item.{Item as Stored}
use Rattle.gitconf_items.specs.declared.items.Item.TheVariants as stored
use Rattle.gitconf_sources.specs.Key.{Key}
use Rattle.gitconf_state.specs.Printing.{printed_kept}
use Rattle.gitconf_state.specs.State.{SectionState, State, is_comment, is_entry}
use Rattle.gixcfg_core.specs.Entries.{is_listed_under}
use Rattle.gixcfg_commands.specs.declared.emptied.Fate.{Fate}
use Rattle.gixcfg_commands.specs.declared.emptied.Fate.TheVariants.{Apart, Bare, Stays}

-- neither an entry nor a comment is there
abbrev pub is_bare : List Item → Bool
is_bare items = not (list_any (λ i. is_entry i || is_comment i) items)

-- the same of one stored item
abbrev pub is_kept : Stored → Bool
is_kept (stored.Entry e) = true
is_kept (stored.Comment tag text) = true
is_kept _ = false

-- A comment stands below the last entry of the items and its line, or, if they have no entry, above them or among them.
abbrev pub comment_stands : (above is_entry_line : Bool) → List Item → Bool
comment_stands above is_entry_line [] = above
comment_stands above is_entry_line (BlanksItem run ∷ items) = comment_stands above is_entry_line items
comment_stands above is_entry_line (LineEndsItem run ∷ items) = comment_stands above false items
comment_stands above is_entry_line (CommentItem tag text ∷ items) = comment_stands (above || not is_entry_line) is_entry_line items
comment_stands above is_entry_line (EntryItem e ∷ items) = comment_stands false true items

-- a comment, as it is shown
abbrev pub is_shown_comment : Shown → Bool
is_shown_comment (ShownComment tag text) = true
is_shown_comment _ = false

-- a comment stands before the first section
abbrev pub has_comment_before : State → Bool
has_comment_before file = list_any is_shown_comment (map shown_token (tokens_in file.front))

-- a section of other names ends a run of bare ones; a bare one belongs to the run, unless the run would begin below a comment
abbrev pub fate_of : (is_ours is_bare is_below_comment : Bool) → Fate
fate_of is_ours is_bare is_below_comment = if is_ours then (if not is_below_comment && is_bare then Bare else Stays) else Apart

-- a run of bare sections, if one of them lost an entry
abbrev pub settled : (is_lost : Bool) (run : List ℕ) → List ℕ
settled is_lost run = if is_lost then run else []

-- the first of some sections lost an entry
abbrev pub has_lost : (losses : List Bool) → Bool
has_lost [] = false
has_lost (lost ∷ losses) = lost

-- no number
abbrev pub is_none : List ℕ → Bool
is_none [] = true
is_none (n ∷ ns) = false

-- The numbers of the sections of a key that go, where some of them lost entries (`losses`, in order): each run of bare ones, up to a section of other names or the end,
-- of which one lost an entry, unless a comment stands right above it. `run`: the bare ones before these, `is_lost`: one of them lost an entry; `stands`: a comment is right above.
unfoldable pub going : Key → (losses : List Bool) (is_lost : Bool) (run : List ℕ) (stands : Bool) → List SectionState → List ℕ
going key losses is_lost run stands [] = settled is_lost run
going key losses is_lost run stands (s ∷ sections) = elim (fate_of (is_listed_under key s) (is_bare s.items) (stands && is_none run)) [
  | Apart ↦ settled is_lost run ++ going key losses false [] (comment_stands false false s.items) sections
  | Bare ↦ going key (drop 1 losses) (is_lost || has_lost losses) (run ++ s.number ∷ []) stands sections
  | Stays ↦ going key (drop 1 losses) false [] (comment_stands stands false s.items) sections
]

-- the same of a file
abbrev pub emptied : Key → (losses : List Bool) → State → List ℕ
emptied key losses file = going key losses false [] (has_comment_before file) file.sections

-- the text of a file without those
abbrev pub text_of_rest : Key → (losses : List Bool) → State → List ℕ
text_of_rest key losses file = let gone = emptied key losses file in printed_kept (λ s. not (list_any (λ n. s.number == n) gone)) file

-- whether an entry is marked, of each of some sections that have so many
abbrev pub losses_of : (marks : List Bool) (holders : List (ℕ × ℕ)) → List Bool
losses_of marks [] = []
losses_of marks (h ∷ holders) = list_any (λ mark. mark) (take h.1 marks) ∷ losses_of (drop h.1 marks) holders
