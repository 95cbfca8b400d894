-- Editors whose blanks are bytes of their own.
use Rattle.std.proofs.Common.{◌≡◌, ℕ, List, [], refl}
use Rattle.gitconf_text.specs.LineEnds.{bytes_of_line_end}
use Rattle.gitconf_body.specs.declared.editor.Editor.{Editor}
use Rattle.gitconf_body.specs.declared.editor.Leading.{Leading}
use Rattle.gitconf_body.specs.declared.editor.Leading.TheVariants as leadings
use Rattle.gitconf_body.specs.declared.editor.Around.{Around}
use Rattle.gitconf_body.specs.declared.editor.Around.TheVariants as arounds
use Rattle.gitconf_body.specs.Editors.{editor_in, leading_in, around_in, EditorFits, LeadingFits, AroundFits}
use Rattle.gitconf_body.specs.Blanks.{given_editor, IsGiven, IsGivenLeading, IsGivenAround}

-- An editor whose blanks are bytes of its own is the same whatever buffer it edits.
pub given_same : (b : List ℕ) (e : Editor) → IsGiven e → editor_in b e ≡ given_editor e
given_same b e given = λ i. record {
  spacing = record { leading = leading e.leading given.0 i; before = (around e.around given.1 i).0; behind = (around e.around given.1 i).1 };
  line_end = bytes_of_line_end e.line_end;
  ends = e.ends;
}
  where
    leading : (l : Leading) → IsGivenLeading l → leading_in b l ≡ leading_in [] l
    leading leadings.Nothing given = refl
    leading (leadings.Given bytes) given = refl
    leading (leadings.Stored run) given = absurd given

    around : (a : Around) → IsGivenAround a → around_in b a ≡ around_in [] a
    around arounds.Spaces given = refl
    around (arounds.Given before behind) given = refl
    around (arounds.Stored before behind) given = absurd given

pub given_fits : (limit : ℕ) (e : Editor) → IsGiven e → EditorFits limit e
given_fits limit e given = (leading e.leading given.0, around e.around given.1)
  where
    leading : (l : Leading) → IsGivenLeading l → LeadingFits limit l
    leading leadings.Nothing given = tt
    leading (leadings.Given bytes) given = tt
    leading (leadings.Stored run) given = absurd given

    around : (a : Around) → IsGivenAround a → AroundFits limit a
    around arounds.Spaces given = tt
    around (arounds.Given before behind) given = tt
    around (arounds.Stored before behind) given = absurd given
