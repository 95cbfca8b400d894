-- Gaps: line endings and blanks, which tell a walk nothing.
use Rattle.std.proofs.Common.{◌≡◌, ℕ, Bool, true, false, List, [], ◌∷◌, ◌++◌, drop, refl, ap, sym, subst, ◌∙◌, append-nil}
use Rattle.std.proofs.lemmas.Grind.{flat_map-append}
use Rattle.gitconf_sources.specs.Key.{Key}
use Rattle.gitconf_text.specs.Bytes.{is_blank}
use Rattle.gitconf_text.specs.Part.{BlanksItem, LineEndsItem, Part, ItemPart}
use Rattle.gitconf_text.specs.Text.{begins, begins_line_end}
use Rattle.gitconf_text.specs.Token.{part_tokens, tokens_of}
use Rattle.gitconf_items.specs.Events.{bytes_of}
use Rattle.gitconf_read.specs.declared.reading.Expected.{Expected}
use Rattle.gitconf_read.specs.declared.reading.part.Opening.TheVariants as openings
use Rattle.gitconf_read.specs.declared.reading.run.Run.TheVariants as runs
use Rattle.gitconf_read.specs.Reading.{run_end_at, span}
use Rattle.gitconf_read.specs.Stretches.{IsStretch}
use Rattle.gitconf_read.proofs.ItemReading.{blanks_read, line_ends_read}
use Rattle.gitconf_read.proofs.Openings.{blank_opens, line_end_opens, within_text}
use Rattle.gitconf_read.proofs.Runs.{end_of_run_step}
use Rattle.gitconf_read.proofs.Stretches.{both_stretches, no_stretch}
use Rattle.gitconf_parse.specs.Met.{Standing, after_part, after_parts, met_at, met_in}
use Rattle.gitconf_parse.specs.Walk.{IsGap}
use Rattle.gitconf_read.proofs.Fours.{empty_run}
use Rattle.gitconf_parse.proofs.Walks.{after_both, item_stretch, met_both}

-- nothing is a gap
no_gap : (input : List ℕ) (n : ℕ) (wanted : Expected) → IsGap input n wanted n
no_gap input n wanted = record { parts = []; stretch = no_stretch input n wanted; quiet = λ key s. (refl, refl) }

-- one gap after another
pub both_gaps : (input : List ℕ) (a b c : ℕ) (wanted : Expected) → IsGap input a wanted b → IsGap input b wanted c → IsGap input a wanted c
both_gaps input a b c wanted x y = record {
  parts = x.parts ++ y.parts;
  stretch = subst (λ t. IsStretch input a wanted c wanted t) (sym (flat_map-append part_tokens x.parts y.parts))
      (both_stretches input a b c wanted wanted wanted (tokens_of x.parts) (tokens_of y.parts) x.stretch y.stretch);
  quiet = λ key s. (
    met_both key s x.parts y.parts ∙ ap (λ t. met_in key s x.parts ++ met_in key t y.parts) (x.quiet key s).1 ∙ ap (λ t. t ++ met_in key s y.parts) (x.quiet key s).0 ∙ (y.quiet key s).0,
    after_both key s x.parts y.parts ∙ ap (λ t. after_parts key t y.parts) (x.quiet key s).1 ∙ (y.quiet key s).1,
  );
}

one_gap : (input : List ℕ) (a b : ℕ) (wanted : Expected) (p : Part) → IsStretch input a wanted b wanted (part_tokens p)
    → ((key : Key) (s : Standing) → (met_at key s p ≡ []) × (after_part key s p ≡ s)) → IsGap input a wanted b
one_gap input a b wanted p stretch quiet = record {
  parts = p ∷ [];
  stretch = subst (λ t. IsStretch input a wanted b wanted t) (sym (append-nil (part_tokens p))) stretch;
  quiet = λ key s. (append-nil (met_at key s p) ∙ (quiet key s).0, (quiet key s).1);
}

-- the blanks at an offset, if there are any
pub blanks_gap : (input : List ℕ) (n : ℕ) (wanted : Expected) (end : ℕ) → end ≡ run_end_at input runs.Blanks n → IsGap input n wanted end
blanks_gap input n wanted end end_is = go (begins is_blank (drop n input)) refl
  where
    go : (t : Bool) → begins is_blank (drop n input) ≡ t → IsGap input n wanted end
    go false none = subst (IsGap input n wanted) (sym (end_is ∙ empty_run (begins is_blank) n (drop n input) none)) (no_gap input n wanted)
    go true some =
        let within = within_text (begins is_blank) input n refl some in
        let opens = blank_opens (drop n input) some in
        one_gap input n end wanted (ItemPart (BlanksItem (bytes_of input (span n end))))
        (item_stretch input n wanted end (BlanksItem (bytes_of input (span n end))) openings.Blanks within opens refl
        (blanks_read input n wanted end opens (end_is ∙ end_of_run_step (begins is_blank) n input within some))) (λ key s. (refl, refl))

-- the line endings at an offset, if there are any
pub line_ends_gap : (input : List ℕ) (n : ℕ) (wanted : Expected) (end : ℕ) → end ≡ run_end_at input runs.LineEnds n → IsGap input n wanted end
line_ends_gap input n wanted end end_is = go (begins_line_end (drop n input)) refl
  where
    go : (t : Bool) → begins_line_end (drop n input) ≡ t → IsGap input n wanted end
    go false none = subst (IsGap input n wanted) (sym (end_is ∙ empty_run begins_line_end n (drop n input) none)) (no_gap input n wanted)
    go true some =
        let within = within_text begins_line_end input n refl some in
        let opens = line_end_opens (drop n input) some in
        one_gap input n end wanted (ItemPart (LineEndsItem (bytes_of input (span n end))))
        (item_stretch input n wanted end (LineEndsItem (bytes_of input (span n end))) openings.LineEnds within opens refl
        (line_ends_read input n wanted end opens (end_is ∙ end_of_run_step begins_line_end n input within some))) (λ key s. (refl, refl))
