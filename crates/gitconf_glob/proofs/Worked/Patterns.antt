-- Worked rows: what the definition says of single patterns and texts, by computation.
use Prim.Native.String.{String}
use Rattle.std.proofs.Common.{◌≡◌, Bool, true, false, refl, codes}
use Rattle.gitconf_glob.specs.Pattern.{front, fronts, run, fit, matches}
use Rattle.gitconf_glob.specs.Bracket.{members}

-- the pattern matches the text, with case and without
abbrev pub fits : (pattern text : String) → Bool
fits pattern text = matches false (codes pattern) (codes text)

abbrev pub fits_caseless : (pattern text : String) → Bool
fits_caseless pattern text = matches true (codes pattern) (codes text)

nothing_for_a_folder : fits "**/foo" "foo" ≡ true
unfolding front fronts run fit matches
nothing_for_a_folder = refl

a_folder : fits "**/foo" "a/foo" ≡ true
unfolding front fronts run fit matches
a_folder = refl

no_part_of_a_name : fits "**/a" "xa" ≡ false
unfolding front fronts run fit matches
no_part_of_a_name = refl

all_below : fits "foo/**" "foo/a/b" ≡ true
unfolding front fronts run fit matches
all_below = refl

not_the_folder_itself : fits "foo/**" "foo" ≡ false
unfolding front fronts run fit matches
not_the_folder_itself = refl

stars_in_a_name : fits "a**b" "a/b" ≡ false
unfolding front fronts run fit matches
stars_in_a_name = refl

before_a_backslash : fits "**\\/b" "a/x/b" ≡ true
unfolding front fronts run fit matches
before_a_backslash = refl

not_nothing_before_a_backslash : fits "**\\/b" "b" ≡ false
unfolding front fronts run fit matches
not_nothing_before_a_backslash = refl

first_member : fits "[]a]" "]" ≡ true
unfolding front fronts fit matches members
first_member = refl

no_slash : fits "[!a]" "/" ≡ false
unfolding front fronts fit matches members
no_slash = refl

last_backslash : fits "a\\" "a\\" ≡ false
unfolding front fronts fit matches
last_backslash = refl

open_bracket : fits "[a" "[a" ≡ false
unfolding front fronts fit matches members
open_bracket = refl

range_without_case : fits_caseless "[A-C]" "b" ≡ true
unfolding front fronts fit matches members
range_without_case = refl

unknown_class : fits "[[:nope:]]" "n" ≡ false
unfolding front fronts fit matches members
unknown_class = refl

class_and_dash : fits "[[:alpha:]-z]" "-" ≡ true
unfolding front fronts fit matches members
class_and_dash = refl
