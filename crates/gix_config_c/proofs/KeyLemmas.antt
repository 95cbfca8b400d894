-- The names of a key that a text writes are text.
use Rattle.std.proofs.Common.{◌≡◌, ℕ, Bool, true, false, List, take, drop, Option, Some, None, refl, sym, subst, ap, ◌∙◌}
use Rattle.std.specs.Option.{option_and_then}
use Rattle.std.specs.Prelude.{◌&&◌, position}
use Rattle.std.specs.Str.{is_utf8}
use Rattle.gitconf_sources.specs.Key.{Key, behind_last_dot, between_dots, key_cut, parsed_key}
use Rattle.gitconf_text.specs.SectionKeys.{is_dot}
use Rattle.gix_config_c.specs.Keys.{names_of, subsection_of}
use Rattle.gix_config_c.specs.declared.key.Key.{Key as Given}

-- whether the names that have to be text are text
abbrev are_text : Key → Bool
are_text key = is_utf8 key.section && is_utf8 key.name

cut_is_text : (bytes : List ℕ) (first behind : ℕ) (key : Key) → key_cut bytes first behind ≡ Some key → are_text key ≡ true
cut_is_text bytes first behind key is = go (is_utf8 (take first bytes) && is_utf8 (drop behind bytes)) refl
  where
    go : (b : Bool) → (is_utf8 (take first bytes) && is_utf8 (drop behind bytes)) ≡ b → are_text key ≡ true
    go false e = let no : ◌≡◌ {A = Option Key} None (Some key) = rw e at is in absurd (cc)
    go true e =
        let cut : Some (record { section = take first bytes; subsection = between_dots bytes first behind; name = drop behind bytes }) ≡ Some key = rw e at is in
        let same : record { section = take first bytes; subsection = between_dots bytes first behind; name = drop behind bytes } ≡ key = cc in
        subst (λ (k : Key). are_text k ≡ true) same e

first_is_text : (bytes : List ℕ) (first : Option ℕ) (key : Key) → option_and_then (λ n. key_cut bytes n (behind_last_dot bytes)) first ≡ Some key → are_text key ≡ true
first_is_text bytes None key is = absurd (cc)
first_is_text bytes (Some first) key is = cut_is_text bytes first (behind_last_dot bytes) key is

written_is_text : (bytes : List ℕ) (key : Key) → parsed_key bytes ≡ Some key → are_text key ≡ true
unfolding parsed_key
written_is_text bytes key is = first_is_text bytes (position is_dot bytes) key is

-- the names that a program gives, whatever their bytes
abbrev plain : Given → Key
plain given = record { section = given.section.now; subsection = subsection_of given; name = given.name.now }

-- so a key with these names is one that calls take
pub written_names : (bytes : List ℕ) (key : Key) (given : Given) → Some key ≡ parsed_key bytes
    → given.section.now ≡ key.section → subsection_of given ≡ key.subsection → given.name.now ≡ key.name → names_of given ≡ parsed_key bytes
written_names bytes key given is section subsection name = rw (written_is_text bytes (plain given) (sym written)) written
  where
    same : plain given ≡ key
    same = λ i. record { section = section i; subsection = subsection i; name = name i }

    written : Some (plain given) ≡ parsed_key bytes
    written = ap Some same ∙ is
