-- What an editor whose blanks are bytes of its own puts into a buffer is counted by what it writes alone.
use Rattle.std.proofs.Common.{◌≡◌, ℕ, ◌+◌, List, [], length, filter, Option, Some, None, refl, ap}
use Rattle.std.specs.List.{last_or}
use Rattle.gitconf_text.specs.Part.{Assigned, Item, BlanksItem, LineEndsItem, CommentItem, EntryItem}
use Rattle.gitconf_text.specs.Value.{escaped}
use Rattle.gitconf_state.specs.Edit.{is_entry_of}
use Rattle.gitconf_body.specs.declared.editor.Editor.{Editor}
use Rattle.gitconf_body.specs.declared.editor.Leading.{Leading}
use Rattle.gitconf_body.specs.declared.editor.Leading.TheVariants as leadings
use Rattle.gitconf_body.specs.Blanks.{given_editor, IsGiven, IsGivenLeading, PutsAround}
use Rattle.gitconf_body.specs.Editors.{changed_put, comment_put, end_put, leading_in, leading_put, line_put, set_put, value_put}
use Rattle.gitconf_body.specs.Below.{below_put, lacking_put}
use Rattle.gitconf_body.specs.Puts as puts
use Rattle.gitconf_body.specs.Puts.{after_last_bytes, assigned_bytes, changed_bytes, line_bytes, value_set_bytes}

-- blanks that are bytes are put as they are
leading_is : (l : Leading) → IsGivenLeading l → leading_put l ≡ puts.run_bytes (leading_in [] l)
leading_is leadings.Nothing given = refl
leading_is (leadings.Stored run) given = absurd given
leading_is (leadings.Given bytes) given = refl

value_is : (e : Editor) (value : Option (List ℕ)) → PutsAround e → value_put e.around value ≡ assigned_bytes (given_editor e).spacing value
value_is e None around = refl
value_is e (Some value) around = ap (λ n. n + length (escaped value)) around

pub line_is : (e : Editor) (key : List ℕ) (value comment : Option (List ℕ)) → IsGiven e → PutsAround e
    → line_put e key value comment ≡ line_bytes (given_editor e) key value comment
line_is e key value comment given around =
    λ i. leading_is e.leading given.0 i + (length key + (value_is e value around i + (comment_put comment + end_put e)))

pub below_is : (e : Editor) (key : List ℕ) (value : Option (List ℕ)) (items : List Item) → IsGiven e → PutsAround e
    → below_put e key value items ≡ after_last_bytes (given_editor e) key value items
below_is e key value items given around = ap (λ n. lacking_put e items + n) (line_is e key value None given around)

changed_is : (e : Editor) (value : List ℕ) (i : Item) → PutsAround e → changed_put e.around value i ≡ changed_bytes (given_editor e).spacing value i
changed_is e value (BlanksItem run) around = refl
changed_is e value (LineEndsItem run) around = refl
changed_is e value (CommentItem tag text) around = refl
changed_is e value (EntryItem entry) around = go entry.assigned refl
  where
    go : (o : Option Assigned) → entry.assigned ≡ o → changed_put e.around value (EntryItem entry) ≡ changed_bytes (given_editor e).spacing value (EntryItem entry)
    go (Some a) at = rw at refl
    go None at = rw at (value_is e (Some value) around)

pub set_is : (e : Editor) (key value : List ℕ) (items : List Item) → IsGiven e → PutsAround e → set_put e key value items ≡ value_set_bytes (given_editor e) key value items
set_is e key value items given around = go (last_or None (filter (is_entry_of key) items)) refl
  where
    go : (o : Option Item) → last_or None (filter (is_entry_of key) items) ≡ o → set_put e key value items ≡ value_set_bytes (given_editor e) key value items
    go None at = rw (at, set_put, value_set_bytes) (line_is e key (Some value) None given around)
    go (Some i) at = rw (at, set_put, value_set_bytes) (changed_is e value i around)

pub written_is : (e : Editor) (key value : List ℕ) → PutsAround e → length key + value_put e.around (Some value) ≡ length key + assigned_bytes (given_editor e).spacing (Some value)
written_is e key value around = ap (λ n. length key + n) (value_is e (Some value) around)
