-- Line endings and blanks after a part: the text goes on after them.
use Rattle.std.proofs.Common.{◌≡◌, ℕ, ◌+◌, ◌<◌, Bool, false, true, List, [], ◌∷◌, ◌++◌, drop, Ok, refl, ap, sym, ◌∙◌, arith}
use Rattle.std.specs.Prelude.{nat_lt}
use Rattle.gitconf_text.specs.Bytes.{is_blank}
use Rattle.gitconf_text.specs.Text.{begins, begins_line_end}
use Rattle.gitconf_items.specs.declared.event.Event.{Event}
use Rattle.gitconf_items.specs.declared.event.Event.TheVariants as kinds
use Rattle.gitconf_read.specs.declared.reading.Expected.{Expected}
use Rattle.gitconf_read.specs.declared.reading.part.Opening.TheVariants as openings
use Rattle.gitconf_read.specs.declared.reading.run.Run.TheVariants as runs
use Rattle.gitconf_read.specs.Reading.{opening_of, part_at, run_end_at, span, text_from, with_blanks, with_line_ends}
use Rattle.gitconf_read.proofs.Fours.{empty_run}
use Rattle.gitconf_read.proofs.Openings.{blank_no_bracket, blank_opens, line_end_no_bracket, line_end_opens, run_ahead, within_text}
use Rattle.gitconf_read.proofs.Runs.{end_of_run_step}
use Rattle.gitconf_read.proofs.Skips.{text_from-part}

blanks_part : (input : List ℕ) (n : ℕ) (wanted : Expected) (events : List Event) (end : ℕ) → opening_of (drop n input) ≡ openings.Blanks → end ≡ run_end_at input runs.Blanks (n + 1)
    → part_at input n wanted events ≡ Ok (events ++ kinds.Whitespace (span n end) ∷ [], end)
unfolding part_at
blanks_part input n wanted events end opens end_is = rw (end_is, opens, part_at) refl

line_ends_part : (input : List ℕ) (n : ℕ) (wanted : Expected) (events : List Event) (end : ℕ) → opening_of (drop n input) ≡ openings.LineEnds → end ≡ run_end_at input runs.LineEnds (n + 1)
    → part_at input n wanted events ≡ Ok (events ++ kinds.Newline (span n end) ∷ [], end)
unfolding part_at
line_ends_part input n wanted events end opens end_is = rw (end_is, opens, part_at) refl

same_lt : (n : ℕ) → nat_lt n n ≡ false
same_lt n = grind arith

ahead_lt : (n m : ℕ) → n < m → nat_lt n m ≡ true
ahead_lt n m ahead = grind (arith, ahead)

-- the text goes on after the blanks at an offset, if there are any
pub blanks_go : (input : List ℕ) (wanted : Expected) (events : List Event) (n end : ℕ) → end ≡ run_end_at input runs.Blanks n
    → text_from input wanted events n 0 (drop n input) ≡ text_from input wanted (with_blanks events n end) end 0 (drop end input)
blanks_go input wanted events n end end_is = go (begins is_blank (drop n input)) refl
  where
    go : (t : Bool) → begins is_blank (drop n input) ≡ t → text_from input wanted events n 0 (drop n input) ≡ text_from input wanted (with_blanks events n end) end 0 (drop end input)
    go false none = let same = end_is ∙ empty_run (begins is_blank) n (drop n input) none in rw (same, same_lt n) refl
    go true some =
        let within = within_text (begins is_blank) input n refl some in
        let more = end_is ∙ end_of_run_step (begins is_blank) n input within some in
        let least = run_ahead (begins is_blank) (n + 1) (drop (n + 1) input) in
        let ahead : n < end = omega (arith, more, least) in
        let part = text_from-part input wanted events n _ end within ahead (blanks_part input n wanted events end (blank_opens (drop n input) some) more) in
        rw (ahead_lt n end ahead) (rw (blank_no_bracket input n within some) at part)

-- the text goes on after the line endings at an offset, if there are any
pub line_ends_go : (input : List ℕ) (wanted : Expected) (events : List Event) (n end : ℕ) → end ≡ run_end_at input runs.LineEnds n
    → text_from input wanted events n 0 (drop n input) ≡ text_from input wanted (with_line_ends events n end) end 0 (drop end input)
line_ends_go input wanted events n end end_is = go (begins_line_end (drop n input)) refl
  where
    go : (t : Bool) → begins_line_end (drop n input) ≡ t → text_from input wanted events n 0 (drop n input) ≡ text_from input wanted (with_line_ends events n end) end 0 (drop end input)
    go false none = let same = end_is ∙ empty_run begins_line_end n (drop n input) none in rw (same, same_lt n) refl
    go true some =
        let within = within_text begins_line_end input n refl some in
        let more = end_is ∙ end_of_run_step begins_line_end n input within some in
        let least = run_ahead begins_line_end (n + 1) (drop (n + 1) input) in
        let ahead : n < end = omega (arith, more, least) in
        let part = text_from-part input wanted events n _ end within ahead (line_ends_part input n wanted events end (line_end_opens (drop n input) some) more) in
        rw (ahead_lt n end ahead) (rw (line_end_no_bracket input n within some) at part)

-- the text goes on after line endings and then blanks
pub gap_go : (input : List ℕ) (wanted : Expected) (events some all : List Event) (n line end : ℕ) → line ≡ run_end_at input runs.LineEnds n → some ≡ with_line_ends events n line
    → end ≡ run_end_at input runs.Blanks line → all ≡ with_blanks some line end → text_from input wanted events n 0 (drop n input) ≡ text_from input wanted all end 0 (drop end input)
gap_go input wanted events some all n line end line_is some_are end_is all_are =
    line_ends_go input wanted events n line line_is
    ∙ ap (λ es. text_from input wanted es line 0 (drop line input)) (sym some_are)
    ∙ blanks_go input wanted some line end end_is
    ∙ ap (λ es. text_from input wanted es end 0 (drop end input)) (sym all_are)
