-- Whether single conditions hold, by computation.
use Rattle.std.proofs.Common.{◌≡◌, ℕ, Bool, true, false, List, Some, None, Result, Ok, Err, refl}
use lib.Utf8.{encode}
use Rattle.std.specs.Prelude.{codes}
use Rattle.std.specs.Str.{is_utf8, chars, bytes_eq}
use Rattle.gitconf_sources.specs.Metadata.{Meta}
use Rattle.gitconf_glob.specs.Pattern.{front, fronts, run, fit, matches}
use Rattle.gitconf_values.specs.Paths.{trimmed_length, last_slash}
use Rattle.gitconf_includes.specs.Conditions.{holds}
use Rattle.gitconf_includes.specs.Rules.{Rules}
use Rattle.gitconf_includes.specs.Said.{NoFolder, NoGitFolder, NoPath, Said, Unresolved}
use Rattle.gitconf_includes.proofs.Worked.Rules.{loose, strict, lax, on_branch, in_repository, of_file, of_none, unknown}

-- the one pattern that the url of a remote matches
abbrev has_url : List ℕ → Bool
has_url pattern = bytes_eq pattern (codes "https://h/**")

abbrev held : Rules → Meta → List ℕ → Result Bool Said
held rules from condition = holds rules from has_url condition

pub branch_below : held (on_branch (codes "refs/heads/feat/a")) of_none (codes "onbranch:feat/") ≡ Ok true
unfolding front fronts run fit matches
branch_below = refl

pub no_head : held (on_branch (codes "refs/tags/feat/a")) of_none (codes "onbranch:feat/") ≡ Ok false
no_head = refl

pub full_name : held (on_branch (codes "refs/heads/main")) of_none (codes "onbranch:refs/heads/main") ≡ Ok false
unfolding front fronts fit matches
full_name = refl

pub no_branch : held strict of_none (codes "onbranch:**") ≡ Ok false
no_branch = refl

pub kind_in_upper_case : held (on_branch (codes "refs/heads/main")) of_none (codes "OnBranch:main") ≡ Ok false
kind_in_upper_case = refl

pub anywhere_below : held (in_repository loose (codes "/a/work/r/.git") (Err unknown)) of_none (codes "gitdir:work/") ≡ Ok true
unfolding is_utf8 chars encode front fronts run fit matches
anywhere_below = refl

pub in_this_folder : held (in_repository loose (codes "/d/r/.git") (Err unknown)) (of_file (codes "/d/m")) (codes "gitdir:./r/") ≡ Ok true
unfolding is_utf8 chars encode trimmed_length last_slash front fronts run fit matches
in_this_folder = refl

pub in_another_folder : held (in_repository loose (codes "/e/r/.git") (Ok (codes "/e/r/.git"))) (of_file (codes "/d/m")) (codes "gitdir:./r/") ≡ Ok false
unfolding is_utf8 chars encode trimmed_length last_slash front fronts run fit matches
in_another_folder = refl

pub below_a_bare_name : held (in_repository loose (codes "/r") (Err unknown)) (of_file (codes "m")) (codes "gitdir:./r") ≡ Ok true
unfolding is_utf8 chars encode trimmed_length last_slash front fronts run fit matches
below_a_bare_name = refl

pub below_no_file : held (in_repository loose (codes "/d/r") (Err unknown)) of_none (codes "gitdir:./r") ≡ Err NoFolder
unfolding is_utf8 chars encode
below_no_file = refl

pub below_no_file_left_out : held (in_repository lax (codes "/d/r") (Err unknown)) of_none (codes "gitdir:./r") ≡ Ok false
unfolding is_utf8 chars encode
below_no_file_left_out = refl

pub below_the_home_folder : held (in_repository loose (codes "/h/work/r") (Err unknown)) of_none (codes "gitdir:~/work/") ≡ Ok true
unfolding is_utf8 chars encode trimmed_length front fronts run fit matches
below_the_home_folder = refl

pub with_case : held (in_repository loose (codes "/A") (Ok (codes "/A"))) of_none (codes "gitdir:/a") ≡ Ok false
unfolding is_utf8 chars encode front fronts fit matches
with_case = refl

pub without_case : held (in_repository loose (codes "/A") (Err unknown)) of_none (codes "gitdir/i:/a") ≡ Ok true
unfolding is_utf8 chars encode front fronts fit matches
without_case = refl

pub resolved : held (in_repository loose (codes "/link") (Ok (codes "/r"))) of_none (codes "gitdir:/r") ≡ Ok true
unfolding is_utf8 chars encode front fronts fit matches
resolved = refl

pub not_resolved : held (in_repository loose (codes "/link") (Err unknown)) of_none (codes "gitdir:/r") ≡ Err (Unresolved unknown)
unfolding is_utf8 chars encode front fronts fit matches
not_resolved = refl

pub no_git_folder : held loose of_none (codes "gitdir:/r") ≡ Ok false
no_git_folder = refl

pub no_git_folder_refused : held strict of_none (codes "gitdir:/r") ≡ Err NoGitFolder
no_git_folder_refused = refl

pub shorthand_left_out : held (in_repository loose (codes "/r") (Err unknown)) of_none (codes "gitdir:~v/r") ≡ Ok false
unfolding is_utf8 chars encode
shorthand_left_out = refl

pub shorthand_refused : held (in_repository strict (codes "/r") (Err unknown)) of_none (codes "gitdir:~v/r") ≡ Err (NoPath 12)
unfolding is_utf8 chars encode
shorthand_refused = refl

pub url_of_a_remote : held loose of_none (codes "hasconfig:remote.*.url:https://h/**") ≡ Ok true
url_of_a_remote = refl

pub other_url : held loose of_none (codes "hasconfig:remote.*.url:https://i/**") ≡ Ok false
other_url = refl

pub other_key : held loose of_none (codes "hasconfig:remote.o.url:https://h/**") ≡ Ok false
other_key = refl

pub no_second_colon : held loose of_none (codes "hasconfig:remote.*.url") ≡ Ok false
no_second_colon = refl

pub no_colon : held strict of_none (codes "gitdir") ≡ Ok false
no_colon = refl

pub other_kind : held strict of_none (codes "x:y") ≡ Ok false
other_kind = refl
