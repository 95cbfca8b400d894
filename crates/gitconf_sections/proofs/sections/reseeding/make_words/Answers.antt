use Rattle.std.proofs.Common.{◌≡◌, ◌<◌, [], ◌∷◌, ◌++◌, length, ap, sym, ◌∙◌, arith}
use Rattle.std.specs.Option.{option_copied, option_map}
use Rattle.gitconf_sections.specs.Letters.{name_part, part_of, subsection_part}
use Rattle.gitconf_sections.specs.Rows.{row_full_word, row_word}
use Rattle.gitconf_sections.specs.Word.{full_state, name_state, word_of}
use Rattle.gitconf_sections.proofs.RowLemmas.{words_more}
use Rattle.gitconf_sections.proofs.sections.reseeding.make_words.Goals as goal

pub loop-at-preserved : goal.loop-at-preserved
loop-at-preserved c =
    let seed = c.args.seed in
    let rows = c.args.rows.now.items in
    let letters = c.args.letters.now.items in
    let row = c.index-row.result.now in
    let within : c.loop-at.at < length rows = omega (arith, c.loop-at-test.true, c.len-at-end.ensures, c.args.rows.now.ok) in
    let state : c.name_state-state.result ≡ name_state seed (part_of letters (name_part row.names)) =
    c.name_state-state.ensures ∙ ap (name_state seed) (c.name_at.ensures ∙ ap (λ l. part_of l (name_part row.names)) c.deref.ensures.value) in
    let subsection : option_copied c.subsection_at.result ≡ option_map (part_of letters) (subsection_part row.names) =
    c.subsection_at.ensures ∙ ap (λ l. option_map (part_of l) (subsection_part row.names)) c.deref-in-loop-at.ensures.value in
    record {
      names = c.push.ensures.words ∙ (λ j. c.loop-at.invariant.names j ++ (c.word_of.ensures ∙ ap word_of state) j ∷ [])
          ∙ sym (words_more (row_word seed letters) rows c.loop-at.at row within c.index-row.ensures);
      full = c.push-in-loop-at.ensures.words
          ∙ (λ j. c.loop-at.invariant.full j ++ (c.word_of-in-loop-at.ensures ∙ ap word_of (c.full_state.ensures ∙ (λ i. full_state (state i) (subsection i)))) j ∷ [])
          ∙ sym (words_more (row_full_word seed letters) rows c.loop-at.at row within c.index-row.ensures);
      names_room = omega (arith, c.push.ensures.room, c.loop-at.invariant.names_room);
      full_room = omega (arith, c.push-in-loop-at.ensures.room, c.loop-at.invariant.full_room);
      within = omega (arith, within, c.args.rows.now.ok);
    }
