-- Where the configuration of single sources is, by computation.
use Prim.Native.String.{String}
use Rattle.std.proofs.Common.{◌≡◌, ℕ, cond, List, Some, None, refl, ap, codes, string_bytes}
use Rattle.std.specs.Option.{option_map}
use Rattle.std.specs.Str.{bytes_eq}
use Rattle.gitconf_values.specs.Paths.{join, trimmed_length}
use Rattle.gitconf_sources.specs.declared.source.Source.TheVariants.{GitInstallation, System, Git, User, Local, Worktree, Api}
use Rattle.gitconf_sources.specs.Reports.{VariableReport, NotSet, HasText, NoText}
use Rattle.gitconf_sources.specs.Places.{place_of}
use Rattle.gitconf_sources.specs.declared.host.Places.{Places}

abbrev unset : (name : List ℕ) → VariableReport
unset name = NotSet

-- a variable is set, beside others
abbrev with_text : (variable text : String) → (var : List ℕ → VariableReport) → List ℕ → VariableReport
with_text variable text var name = cond (bytes_eq (codes variable) name) (HasText (codes text)) (var name)

module _ (places : Places) where
  pub the_machine : place_of unset places System ≡ Some (join (string_bytes places.system_prefix) (codes "etc/gitconfig"))
  the_machine = refl

  pub below_the_root : string_bytes places.system_prefix ≡ codes "/" → place_of unset places System ≡ Some (codes "/etc/gitconfig")
  unfolding trimmed_length
  below_the_root is = ap (λ prefix. Some (join prefix (codes "etc/gitconfig"))) is

  pub the_machine_by_a_variable : place_of (with_text "GIT_CONFIG_SYSTEM" "/s" unset) places System ≡ Some (codes "/s")
  the_machine_by_a_variable = refl

  pub switched_off : place_of (with_text "GIT_CONFIG_NOSYSTEM" "1" (with_text "GIT_CONFIG_SYSTEM" "/s" unset)) places System ≡ None
  switched_off = refl

  pub installation_switched_off : place_of (with_text "GIT_CONFIG_NOSYSTEM" "1" unset) places GitInstallation ≡ None
  installation_switched_off = refl

  pub not_switched_off : place_of (with_text "GIT_CONFIG_NOSYSTEM" "no" (with_text "GIT_CONFIG_SYSTEM" "/s" unset)) places System ≡ Some (codes "/s")
  not_switched_off = refl

  pub no_boolean : place_of (with_text "GIT_CONFIG_NOSYSTEM" "x" unset) places GitInstallation ≡ option_map string_bytes places.installation_config
  no_boolean = refl

  pub what_is_no_text : place_of (λ name. NoText) places GitInstallation ≡ option_map string_bytes places.installation_config
  what_is_no_text = refl

  pub in_the_home_folder : place_of (with_text "HOME" "/h" unset) places User ≡ Some (codes "/h/.gitconfig")
  unfolding trimmed_length
  in_the_home_folder = refl

  pub below_the_home_folder : place_of (with_text "HOME" "/h/" unset) places Git ≡ Some (codes "/h/.config/git/config")
  unfolding trimmed_length
  below_the_home_folder = refl

  pub in_the_folder_for_configuration : place_of (with_text "HOME" "/h" (with_text "XDG_CONFIG_HOME" "/c" unset)) places Git ≡ Some (codes "/c/git/config")
  unfolding trimmed_length
  in_the_folder_for_configuration = refl

  pub an_empty_folder : place_of (with_text "HOME" "/h" (with_text "XDG_CONFIG_HOME" "" unset)) places Git ≡ Some (codes "/h/.config/git/config")
  unfolding trimmed_length
  an_empty_folder = refl

  pub an_empty_home_folder : place_of (with_text "HOME" "" unset) places User ≡ Some (codes ".gitconfig")
  an_empty_home_folder = refl

  pub one_for_both : place_of (with_text "GIT_CONFIG_GLOBAL" "/g" (with_text "HOME" "/h" unset)) places Git ≡ Some (codes "/g")
  one_for_both = refl

  pub both_by_one : place_of (with_text "GIT_CONFIG_GLOBAL" "/g" (with_text "HOME" "/h" unset)) places User ≡ Some (codes "/g")
  both_by_one = refl

  pub no_home_folder : place_of unset places User ≡ None
  no_home_folder = refl

  pub no_folder : place_of unset places Git ≡ None
  no_folder = refl

  pub repository : place_of unset places Local ≡ Some (codes "config")
  repository = refl

  pub worktree : place_of unset places Worktree ≡ Some (codes "config.worktree")
  worktree = refl

  pub no_place : place_of (with_text "HOME" "/h" unset) places Api ≡ None
  no_place = refl
