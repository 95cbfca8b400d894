-- Worked rows, computed by the definition.
use Rattle.std.proofs.Common.{◌≡◌, ℕ, false, List, [], ◌∷◌, ◌++◌, Some, None, refl}
use Rattle.std.specs.Prelude.{codes}
use Rattle.gitconf_items.specs.EventRef.{Shown, ShownComment, ShownHeader, ShownValueName, ShownValue, ShownNewline, ShownUnfinished, ShownLast, ShownBlanks, ShownSeparator}
use Rattle.gitconf_layout.specs.declared.format.Newline.TheVariants.{CrLf}
use Rattle.gitconf_layout.specs.Layout.{default_options, laid_out}

abbrev name : List ℕ → Shown
name text = ShownValueName text

abbrev plain_header : List ℕ → Shown
plain_header text = ShownHeader text None None

-- `[a] b c=d`
keys_stay_apart : laid_out default_options (plain_header (codes "a") ∷ ShownBlanks (codes " ") ∷ name (codes "b") ∷ ShownBlanks (codes " ") ∷ ShownValue [] ∷ name (codes "c") ∷ ShownSeparator ∷ ShownValue (codes "d") ∷ []) ≡ codes "[a]b c = d\n"
unfolding laid_out
keys_stay_apart = refl

-- LF LF `[a]` LF LF LF `k=v`
limits : laid_out (record default_options { max_leading_blank_lines = Some 0; max_consecutive_blank_lines = Some 1 })
    (ShownNewline (10 ∷ 10 ∷ []) ∷ plain_header (codes "a") ∷ ShownNewline (10 ∷ 10 ∷ 10 ∷ []) ∷ name (codes "k") ∷ ShownSeparator ∷ ShownValue (codes "v") ∷ []) ≡ codes "[a]\n\n\tk = v\n"
unfolding laid_out
limits = refl

-- two blanks, `# c`
root_comment : laid_out default_options (ShownBlanks (codes "  ") ∷ ShownComment 35 (codes " c") ∷ []) ≡ codes "# c\n"
unfolding laid_out
root_comment = refl

root_comment_stays : laid_out (record default_options { root_comment_indent = None }) (ShownBlanks (codes "  ") ∷ ShownComment 35 (codes " c") ∷ []) ≡ codes "  # c\n"
unfolding laid_out
root_comment_stays = refl

-- `; c` CR CR LF
one_cr_goes : laid_out default_options (ShownComment 59 (32 ∷ 99 ∷ 13 ∷ []) ∷ ShownNewline (13 ∷ 10 ∷ []) ∷ []) ≡ codes "; c" ++ 13 ∷ 10 ∷ []
unfolding laid_out
one_cr_goes = refl

-- `[a]` LF `k = v`
no_spaces : laid_out (record default_options { spaces_around_separator = false; newline = CrLf })
    (plain_header (codes "a") ∷ ShownNewline (10 ∷ []) ∷ name (codes "k") ∷ ShownBlanks (codes " ") ∷ ShownSeparator ∷ ShownBlanks (codes " ") ∷ ShownValue (codes "v") ∷ [])
    ≡ codes "[a]" ++ (13 ∷ 10 ∷ (codes "\tk=v" ++ (13 ∷ 10 ∷ [])))
unfolding laid_out
no_spaces = refl

-- `[a]` LF `k = x\` LF `  y` LF
continued : laid_out default_options (plain_header (codes "a") ∷ ShownNewline (10 ∷ []) ∷ name (codes "k") ∷ ShownBlanks (codes " ") ∷ ShownSeparator ∷ ShownBlanks (codes " ") ∷ ShownUnfinished (codes "x") ∷ ShownNewline (10 ∷ []) ∷ ShownLast (codes "  y") ∷ ShownNewline (10 ∷ []) ∷ [])
    ≡ codes "[a]\n\tk = x\\\n  y\n"
unfolding laid_out
continued = refl

-- `[a]` LF `k=x\`
left_open : laid_out default_options (plain_header (codes "a") ∷ ShownNewline (10 ∷ []) ∷ name (codes "k") ∷ ShownSeparator ∷ ShownUnfinished (codes "x") ∷ ShownLast [] ∷ [])
    ≡ codes "[a]\n\tk = x\\\n"
unfolding laid_out
left_open = refl

empty : laid_out default_options [] ≡ []
unfolding laid_out
empty = refl
