-- What single calls ask for, by computation.
use Prim.Native.String.{String}
use Rattle.std.proofs.Common.{◌≡◌, true, false, [], ◌∷◌, Some, None, refl, codes}
use lib.Utf8.{encode}
use Rattle.std.specs.Str.{is_utf8, chars}
use Rattle.gitconf_sources.specs.Key.{Key, parsed_key}
use Rattle.gixcfg_words.specs.Asking.{all_go, task_asked}
use Rattle.gixcfg_words.specs.Given.{action_from, files, kind_from, state_from, word_from}
use Rattle.gixcfg_words.specs.Options.{those}
use Rattle.gixcfg_words.specs.Spelling.{letters, read_words}
use Rattle.gixcfg_words.specs.Tasks.{All, Any, At, Default, Entries, Fmt, ForUrl, Get, Help, Input, Last, Matching, OfKey, Only, Paths, Set, Unset}
use Rattle.gixcfg_words.specs.Verbs.{first_named}
use Rattle.gixcfg_words.specs.declared.command.Form.{Form}
use Rattle.gixcfg_words.specs.declared.command.Indent.TheVariants.{Tabs}
use Rattle.gixcfg_words.specs.declared.verbs.Verb.TheVariants.{Forms}

-- values alone, a line each
abbrev values : Form
values = record { has_scope = false; has_origin = false; has_position = false; has_names = false; has_value = true; is_null = false; kind = None }

abbrev key : (section name : String) → Key
key section name = record { section = codes section; subsection = None; name = codes name }

abbrev a_k : Key
a_k = key "a" "k"

-- gixcfg get --all -f m a.k
pub all_values_of_a_file : task_asked (codes "get" ∷ codes "--all" ∷ codes "-f" ∷ codes "m" ∷ codes "a.k" ∷ []) ≡ Some (Get (At (codes "m")) None (OfKey a_k) Any All values)
unfolding all_go action_from encode chars files first_named is_utf8 kind_from letters parsed_key read_words state_from those word_from
all_values_of_a_file = refl

-- gixcfg get --al a.k
pub abbreviated : task_asked (codes "get" ∷ codes "--al" ∷ codes "a.k" ∷ []) ≡ Some (Get Input None (OfKey a_k) Any All values)
unfolding all_go action_from encode chars files first_named is_utf8 kind_from letters parsed_key read_words state_from those word_from
abbreviated = refl

-- gixcfg get --all --no-all a.k
pub taken_back : task_asked (codes "get" ∷ codes "--all" ∷ codes "--no-all" ∷ codes "a.k" ∷ []) ≡ Some (Get Input None (OfKey a_k) Any (Last None) values)
unfolding all_go action_from encode chars files first_named is_utf8 kind_from letters parsed_key read_words state_from those word_from
taken_back = refl

-- gixcfg list -zf m
pub letters_together : task_asked (codes "list" ∷ codes "-zf" ∷ codes "m" ∷ []) ≡ Some (Entries (At (codes "m")) None (record { has_scope = false; has_origin = false; has_position = false; has_names = true; has_value = true; is_null = true; kind = None }))
unfolding all_go action_from encode chars files first_named is_utf8 kind_from letters parsed_key read_words state_from those word_from
letters_together = refl

-- gixcfg set a.k --all
pub a_value_like_an_option : task_asked (codes "set" ∷ codes "a.k" ∷ codes "--all" ∷ []) ≡ Some (Set Input a_k (codes "--all") None (Only Any) None true)
unfolding all_go action_from encode chars files first_named is_utf8 kind_from letters parsed_key read_words state_from those word_from
a_value_like_an_option = refl

-- gixcfg get -- --a.k
pub behind_two_dashes : task_asked (codes "get" ∷ codes "--" ∷ codes "--a.k" ∷ []) ≡ Some (Get Input None (OfKey (key "--a" "k")) Any (Last None) values)
unfolding all_go action_from encode chars files first_named is_utf8 kind_from letters parsed_key read_words state_from those word_from
behind_two_dashes = refl

-- gixcfg get --url u http.v
pub of_a_url : task_asked (codes "get" ∷ codes "--url" ∷ codes "u" ∷ codes "http.v" ∷ []) ≡ Some (Get Input None (ForUrl (codes "u") (codes "http") (Some (codes "v"))) Any All values)
unfolding all_go action_from encode chars files first_named is_utf8 kind_from letters parsed_key read_words state_from those word_from
of_a_url = refl

-- gixcfg set --no-sync a.k v
pub without_sync : task_asked (codes "set" ∷ codes "--no-sync" ∷ codes "a.k" ∷ codes "v" ∷ []) ≡ Some (Set Input a_k (codes "v") None (Only Any) None false)
unfolding all_go action_from encode chars files first_named is_utf8 kind_from letters parsed_key read_words state_from those word_from
without_sync = refl

-- gixcfg --get a.k
pub older_get : task_asked (codes "--get" ∷ codes "a.k" ∷ []) ≡ Some (Get Default None (OfKey a_k) Any (Last None) values)
unfolding all_go action_from encode chars files first_named is_utf8 kind_from letters parsed_key read_words state_from those word_from
older_get = refl

-- gixcfg a.k v
pub older_set : task_asked (codes "a.k" ∷ codes "v" ∷ []) ≡ Some (Set Default a_k (codes "v") None (Only Any) None true)
unfolding all_go action_from encode chars files first_named is_utf8 kind_from letters parsed_key read_words state_from those word_from
older_set = refl

-- gixcfg --unset-all a.k x
pub older_unset : task_asked (codes "--unset-all" ∷ codes "a.k" ∷ codes "x" ∷ []) ≡ Some (Unset Default a_k (Matching (codes "x")) true true)
unfolding all_go action_from encode chars files first_named is_utf8 kind_from letters parsed_key read_words state_from those word_from
older_unset = refl

-- gixcfg fmt --indent tabs:2 a b
pub formatted : task_asked (codes "fmt" ∷ codes "--indent" ∷ codes "tabs:2" ∷ codes "a" ∷ codes "b" ∷ []) ≡ Some (Fmt (Paths (codes "a" ∷ codes "b" ∷ [])) false (Some (Tabs 2)) None true)
unfolding all_go action_from encode chars files first_named is_utf8 kind_from letters parsed_key read_words state_from those word_from
formatted = refl

-- gixcfg help forms
pub help_on_forms : task_asked (codes "help" ∷ codes "forms" ∷ []) ≡ Some (Help (Some Forms))
unfolding all_go action_from encode chars files first_named is_utf8 kind_from letters parsed_key read_words state_from those word_from
help_on_forms = refl

-- gixcfg get --i a.k
pub several_begin_so : task_asked (codes "get" ∷ codes "--i" ∷ codes "a.k" ∷ []) ≡ None
unfolding all_go action_from encode chars files first_named is_utf8 kind_from letters parsed_key read_words state_from those word_from
several_begin_so = refl

-- gixcfg list --all
pub of_another_command : task_asked (codes "list" ∷ codes "--all" ∷ []) ≡ None
unfolding all_go action_from encode chars files first_named is_utf8 kind_from letters parsed_key read_words state_from those word_from
of_another_command = refl

-- gixcfg get --int --bool a.k
pub two_types : task_asked (codes "get" ∷ codes "--int" ∷ codes "--bool" ∷ codes "a.k" ∷ []) ≡ None
unfolding all_go action_from encode chars files first_named is_utf8 kind_from letters parsed_key read_words state_from those word_from
two_types = refl

-- gixcfg get -f a --global a.k
pub two_files : task_asked (codes "get" ∷ codes "-f" ∷ codes "a" ∷ codes "--global" ∷ codes "a.k" ∷ []) ≡ None
unfolding all_go action_from encode chars files first_named is_utf8 kind_from letters parsed_key read_words state_from those word_from
two_files = refl

-- gixcfg set --all --append a.k v
pub all_and_append : task_asked (codes "set" ∷ codes "--all" ∷ codes "--append" ∷ codes "a.k" ∷ codes "v" ∷ []) ≡ None
unfolding all_go action_from encode chars files first_named is_utf8 kind_from letters parsed_key read_words state_from those word_from
all_and_append = refl

-- gixcfg get -f
pub no_word : task_asked (codes "get" ∷ codes "-f" ∷ []) ≡ None
unfolding all_go action_from encode chars files first_named is_utf8 kind_from letters parsed_key read_words state_from those word_from
no_word = refl

-- gixcfg diff - -
pub both_standard_input : task_asked (codes "diff" ∷ codes "-" ∷ codes "-" ∷ []) ≡ None
unfolding all_go action_from encode chars files first_named is_utf8 kind_from letters parsed_key read_words state_from those word_from
both_standard_input = refl
