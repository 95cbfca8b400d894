-- Which file single paths name, by computation.
use Rattle.std.proofs.Common.{◌≡◌, ◌∷◌, ◌++◌, [], Some, None, Ok, Err, refl}
use lib.Utf8.{encode}
use Rattle.std.specs.Prelude.{codes}
use Rattle.std.specs.Str.{is_utf8, chars}
use Rattle.gitconf_values.specs.Paths.{trimmed_length, last_slash}
use Rattle.gitconf_includes.specs.Paths.{file_named}
use Rattle.gitconf_includes.specs.Said.{NoFolder, NoPath}
use Rattle.gitconf_includes.proofs.Worked.Rules.{loose, strict, lax, of_file, of_none}

pub absolute : file_named loose of_none (codes "/x") ≡ Ok (Some (codes "/x"))
unfolding is_utf8 chars encode
absolute = refl

pub in_the_folder : file_named loose (of_file (codes "/d/m")) (codes "x") ≡ Ok (Some (codes "/d/x"))
unfolding is_utf8 chars encode trimmed_length last_slash
in_the_folder = refl

pub in_a_folder_above : file_named loose (of_file (codes "/d/m")) (codes "../x") ≡ Ok (Some (codes "/d/../x"))
unfolding is_utf8 chars encode trimmed_length last_slash
in_a_folder_above = refl

pub in_an_empty_folder : file_named loose (of_file (codes "m")) (codes "x") ≡ Ok (Some (codes "x"))
unfolding is_utf8 chars encode trimmed_length last_slash
in_an_empty_folder = refl

pub in_no_folder : file_named lax (of_file (codes "/")) (codes "x") ≡ Err NoFolder
unfolding is_utf8 chars encode trimmed_length last_slash
in_no_folder = refl

pub of_no_file : file_named loose of_none (codes "x") ≡ Err NoFolder
unfolding is_utf8 chars encode
of_no_file = refl

pub of_no_file_left_out : file_named lax of_none (codes "x") ≡ Ok None
unfolding is_utf8 chars encode
of_no_file_left_out = refl

pub in_the_home_folder : file_named lax (of_file (codes "/d/m")) (codes "~/x") ≡ Ok (Some (codes "/h/x"))
unfolding is_utf8 chars encode trimmed_length
in_the_home_folder = refl

pub in_the_folder_of_a_user : file_named loose of_none (codes "~u/x") ≡ Ok (Some (codes "/u/x"))
unfolding is_utf8 chars encode trimmed_length
in_the_folder_of_a_user = refl

pub no_such_user : file_named loose of_none (codes "~v/x") ≡ Ok None
unfolding is_utf8 chars encode
no_such_user = refl

pub no_such_user_refused : file_named strict of_none (codes "~v/x") ≡ Err (NoPath 12)
unfolding is_utf8 chars encode
no_such_user_refused = refl

pub not_installed : file_named loose of_none (codes "%(prefix)/x") ≡ Ok None
not_installed = refl

pub empty : file_named loose (of_file (codes "/d/m")) [] ≡ Ok None
empty = refl

pub user_not_text : file_named loose of_none (codes "~" ++ 255 ∷ codes "/x") ≡ Err (NoPath 14)
unfolding is_utf8 chars encode
user_not_text = refl

pub not_text : file_named loose of_none (codes "/" ++ 255 ∷ []) ≡ Err (NoPath 13)
unfolding is_utf8 chars encode
not_text = refl
