-- Line endings and blanks after an item: what is kept of them was read.
use Rattle.std.proofs.Common.{◌≡◌, ℕ, ◌≤◌, ◌<◌, false, List, [], ◌∷◌, length, drop, get_or, inl, inr, refl, ◌∙◌, arith}
use Rattle.std.specs.Prelude.{◌==◌}
use Rattle.std.proofs.lemmas.Bool.{cases_lt}
use Rattle.gitconf_text.specs.Bytes.{is_blank}
use Rattle.gitconf_text.specs.Text.{begins, begins_line_end}
use Rattle.gitconf_text.specs.Token.{NewlineToken, WhitespaceToken}
use Rattle.gitconf_items.specs.declared.items.Item.{Item}
use Rattle.gitconf_items.specs.declared.items.Keep.{Keep}
use Rattle.gitconf_items.specs.Events.{bytes_of}
use Rattle.gitconf_read.specs.declared.reading.Expected.{Expected}
use Rattle.gitconf_read.specs.declared.reading.run.Run.TheVariants as runs
use Rattle.gitconf_read.specs.ItemReading.{IsKeptRead, IsReadTo}
use Rattle.gitconf_read.specs.Reading.{part_at, run_end_at, span}
use Rattle.gitconf_read.specs.Stretches.{IsGapRead}
use Rattle.gitconf_read.proofs.ItemReading.{blanks_read, line_ends_read}
use Rattle.gitconf_read.proofs.Openings.{blank_no_bracket, blank_opens, line_end_no_bracket, line_end_opens, some_run, within_text}
use Rattle.gitconf_read.proofs.Runs.{end_of_run_step}
use Rattle.gitconf_read.proofs.Stretches.{kept_fit, more_kept}

pub ahead_of : (n end : ℕ) → n ≤ end → (n ≡ end → ⊥) → n < end
ahead_of n end behind other = elim (cases_lt n end) [ inl ahead ↦ ahead | inr back ↦ absurd (other (omega (arith, behind, back))) ]

-- nothing was there
pub no_gap_read : (keep : Keep) (input : List ℕ) (n end : ℕ) (wanted : Expected) (old : List Item) → n ≡ end → IsGapRead keep input n wanted old old end
no_gap_read keep input n end wanted old same = rw same (record { goes_on = λ start read. read; fit = λ fit. fit })

-- one item was
pub one_gap_read : (keep : Keep) (input : List ℕ) (n end : ℕ) (wanted : Expected) (old new : List Item) → n < length input → (get_or input n 0 == 91) ≡ false
    → IsKeptRead keep input n wanted old new end → IsGapRead keep input n wanted old new end
one_gap_read keep input n end wanted old new within byte r = record {
  goes_on = λ start read. more_kept keep input start n end wanted old new read within byte r;
  fit = λ fit. kept_fit keep input n end wanted old new fit r;
}

-- the line endings that are there
pub line_ends_there : (input : List ℕ) (n end : ℕ) (wanted : Expected) → end ≡ run_end_at input runs.LineEnds n → n < end
    → (n < length input) × ((get_or input n 0 == 91) ≡ false) × IsReadTo input (part_at input n wanted []) end (NewlineToken (bytes_of input (span n end)) ∷ [])
line_ends_there input n end wanted end_is ahead =
    let some = some_run begins_line_end input n end end_is ahead in
    let within = within_text begins_line_end input n refl some in
    (within, line_end_no_bracket input n within some, line_ends_read input n wanted end (line_end_opens (drop n input) some) (end_is ∙ end_of_run_step begins_line_end n input within some))

-- the blanks that are there
pub blanks_there : (input : List ℕ) (n end : ℕ) (wanted : Expected) → end ≡ run_end_at input runs.Blanks n → n < end
    → (n < length input) × ((get_or input n 0 == 91) ≡ false) × IsReadTo input (part_at input n wanted []) end (WhitespaceToken (bytes_of input (span n end)) ∷ [])
blanks_there input n end wanted end_is ahead =
    let some = some_run (begins is_blank) input n end end_is ahead in
    let within = within_text (begins is_blank) input n refl some in
    (within, blank_no_bracket input n within some, blanks_read input n wanted end (blank_opens (drop n input) some) (end_is ∙ end_of_run_step (begins is_blank) n input within some))
