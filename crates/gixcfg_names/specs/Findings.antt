-- What a file's settings have wrong beside the names that git knows.
use Rattle.std.specs.Prelude.{◌&&◌, ◌++◌, ℕ, Bool, List, [], ◌∷◌, Option, Some, None, if◌then◌else◌}
use Rattle.std.specs.List.{list_any}
use Rattle.std.specs.Option.{option_and_then, option_copied, option_map, option_to_list}
use Rattle.std.specs.Str.{bytes_eq}
use Rattle.gitconf_sources.specs.Key.{Key, parsed_key}
use Rattle.gixcfg_words.specs.declared.kinds.Kind.{Kind}
use Rattle.gixcfg_names.specs.Known.{has_section, row_of}
use Rattle.gixcfg_names.specs.Nearest.{nearest}
use Rattle.gixcfg_names.specs.Rows.{Known, plain}
use Rattle.gixcfg_names.specs.Values.{is_of, is_one_of}
use Rattle.gixcfg_names.specs.declared.findings.Finding.{Finding}
use Rattle.gixcfg_names.specs.declared.findings.Setting.{Setting}
use Rattle.gixcfg_names.specs.declared.findings.Wrong.{Wrong}
use Rattle.gixcfg_names.specs.declared.findings.Wrong.TheVariants as wrongs

-- a setting: where it is, its key, its value
pub record Plain : Type 0 where
  pub at : ℕ
  pub key : List ℕ
  pub value : Option (List ℕ)

abbrev pub plain_setting : Setting → Plain
plain_setting s = record { at = s.at; key = s.key.now; value = option_copied s.value }

-- what is wrong with a setting
pub data Said : Type 0 where
  Unknown : Option Known → Said
  GivenUp : List ℕ → Said
  NotOf : Kind → Said
  NoneOf : List ℕ → Said
  SetAgain : Said

abbrev pub plain_wrong : Wrong → Said
plain_wrong (wrongs.Unknown row) = Unknown (option_map plain row)
plain_wrong (wrongs.GivenUp instead) = GivenUp instead.now
plain_wrong (wrongs.NotOf kind) = NotOf kind
plain_wrong (wrongs.NoneOf words) = NoneOf words.now
plain_wrong wrongs.SetAgain = SetAgain

-- a setting, with that
pub record Found : Type 0 where
  pub setting : Plain
  pub said : Said

abbrev pub plain_finding : Finding → Found
plain_finding f = record { setting = plain_setting f.setting; said = plain_wrong f.wrong }

-- a setting has this key
abbrev pub has_key : List ℕ → Plain → Bool
has_key key s = bytes_eq s.key key

-- the type of a name, if a value isn't of it
abbrev pub wrong_kind : Option Kind → (value : Option (List ℕ)) → Option Kind
wrong_kind None value = None
wrong_kind (Some kind) value = if is_of value kind then None else Some kind

-- the words of a name, if a value is none of them
abbrev pub wrong_words : (words : Option (List ℕ)) (value : Option (List ℕ)) → Option (List ℕ)
wrong_words None value = None
wrong_words (Some words) value = if is_one_of value words then None else Some words

-- of a name that git knows: given up, else a value of another type, else one that is none of its words, else set again where only the last counts
abbrev pub told_beside : (instead : Option (List ℕ)) (kind : Option Kind) (words : Option (List ℕ)) (counts_for_nothing : Bool) → Option Said
told_beside (Some text) kind words nothing = Some (GivenUp text)
told_beside None (Some kind) words nothing = Some (NotOf kind)
told_beside None None (Some words) nothing = Some (NoneOf words)
told_beside None None None nothing = if nothing then Some SetAgain else None

abbrev pub told_of_known : Known → (value : Option (List ℕ)) (is_again : Bool) → Option Said
told_of_known row value is_again =
    told_beside row.instead (wrong_kind row.kind value) (wrong_words row.words value) (is_again && row.is_single)

-- of a name that git doesn't know in a section that it does: one that is near, or that there is none where no subsection is
abbrev pub told_of_strange : (near : Option Known) (subsection : Option (List ℕ)) → Option Said
told_of_strange None (Some s) = None
told_of_strange near subsection = Some (Unknown near)

abbrev pub told_of_unknown : List Known → Key → Option Said
told_of_unknown rows key = if has_section rows key.section then told_of_strange (nearest rows key) key.subsection else None

abbrev pub told_by : Option Known → List Known → Key → (value : Option (List ℕ)) (is_again : Bool) → Option Said
told_by None rows key value is_again = told_of_unknown rows key
told_by (Some row) rows key value is_again = told_of_known row value is_again

abbrev pub told_of : List Known → Key → (value : Option (List ℕ)) (is_again : Bool) → Option Said
told_of rows key value is_again = told_by (row_of rows key) rows key value is_again

abbrev pub told : List Known → Plain → (is_again : Bool) → Option Said
told rows s is_again = option_and_then (λ key. told_of rows key s.value is_again) (parsed_key s.key)

-- a setting, if something is wrong with it
abbrev pub found_with : Plain → Option Said → List Found
found_with s said = option_to_list (option_map (λ said. record { setting = s; said = said }) said)

-- the settings that have something wrong; what of them is set again, one behind has the key of
abbrev pub findings : List Known → List Plain → List Found
findings rows [] = []
findings rows (s ∷ behind) = found_with s (told rows s (list_any (has_key s.key) behind)) ++ findings rows behind
