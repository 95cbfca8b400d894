use Rattle.std.proofs.Common.{◌≡◌, ◌+◌, ◌≤◌, map, take, vec_len}
use Rattle.gitconf_sections.specs.Rows.{row_full_word, row_word}
use Rattle.gitconf_sections.proofs.sections.reseeding.make_words.Given as goal

-- the rows so far have their words, and there is room for those of the others
abbrev pub invariant-loop-at : goal.invariant-loop-at
invariant-loop-at l = record {
  names : l.names.words ≡ take l.at (map (row_word l.fn.seed l.letters.items) l.rows.items);
  full : l.full.words ≡ take l.at (map (row_full_word l.fn.seed l.letters.items) l.rows.items);
  names_room : vec_len l.rows ≤ l.at + l.names.room;
  full_room : vec_len l.rows ≤ l.at + l.full.room;
  within : l.at ≤ vec_len l.rows;
}
