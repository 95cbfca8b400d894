-- What was found up to a place of a text, and in all of it.
use Rattle.std.proofs.Common.{◌≡◌, ℕ, ◌≤◌, Bool, true, false, arith, List, [], ◌∷◌, ◌++◌, length, map, Option, Some, None, refl, ap, sym, subst, ◌∙◌, append-nil}
use Rattle.std.specs.Prelude.{if◌then◌else◌}
use Rattle.std.specs.Option.{option_map, option_or}
use Rattle.std.proofs.lemmas.Grind.{fold-append}
use Rattle.std.proofs.lemmas.List.{map-append}
use Rattle.gitconf_sources.specs.Key.{Key}
use Rattle.gitconf_text.specs.Document.{Document, Reads, gathered}
use Rattle.gitconf_text.specs.Value.{plain}
use Rattle.gitconf_read.specs.declared.reading.ReadError.{ReadError}
use Rattle.gitconf_read.specs.Parsing.{IsMisread}
use Rattle.gitconf_read.specs.Stretches.{IsBreak}
use Rattle.gitconf_read.proofs.Stretches.{misread}
use Rattle.gitconf_parse.specs.declared.lookup.walk.Cursor.{Cursor}
use Rattle.gitconf_parse.specs.declared.lookup.walk.Met.{Met}
use Rattle.gitconf_parse.specs.Lookup.{value_of_key, values_of_key}
use Rattle.gitconf_parse.specs.Met.{MetEntry, decide, decided, met_in, met_meaning}
use Rattle.gitconf_parse.specs.Places.{ValueInside, raw_at}
use Rattle.gitconf_parse.specs.Walk.{IsStart, IsWalk, first_standing, met_of, mets_of}
use Rattle.gitconf_parse.proofs.Decisions.{value_met, values_met}
use Rattle.gitconf_parse.proofs.Walks.{both_walks, broken_walk, no_walk, whole_walk}

-- the raw text of a value, if there is one
abbrev pub raw_of_place : (input : List ℕ) → Option ℕ → Option (List ℕ)
raw_of_place input place = option_map (raw_at input) place

-- Up to here this value decides, and before the section at hand the other one.
pub record IsSought (input : List ℕ) (key : Key) (from to : Cursor) (before now : Option ℕ) : Type 0 where
  pub start : IsStart input from
  pub inside : to.at ≤ length input
  pub met : List MetEntry
  pub walk : IsWalk input key from to met
  pub decides : decided met ≡ (raw_of_place input before, raw_of_place input now)
  pub before_inside : ValueInside (length input) before
  pub now_inside : ValueInside (length input) now

pub none_sought : (input : List ℕ) (key : Key) (c : Cursor) → IsStart input c → IsSought input key c c None None
none_sought input key c start = record { start = start; inside = start.inside; met = []; walk = no_walk input key c; decides = refl; before_inside = tt; now_inside = tt }

-- what decides after one more entry of the key
abbrev pub before_met : Met → (before now : Option ℕ) → Option ℕ
before_met m before now = if m.anew then now else before

abbrev pub now_met : Met → (before : Option ℕ) → Option ℕ
now_met m before = option_or m.value before

before_inside_met : (limit : ℕ) (m : Met) (before now : Option ℕ) → ValueInside limit before → ValueInside limit now → ValueInside limit (before_met m before now)
before_inside_met limit m before now b n = go m.anew refl
  where
    go : (t : Bool) → m.anew ≡ t → ValueInside limit (before_met m before now)
    go true e = rw e n
    go false e = rw e b

now_inside_met : (limit : ℕ) (m : Met) (before : Option ℕ) → ValueInside limit before → ValueInside limit m.value → ValueInside limit (now_met m before)
now_inside_met limit m before b v = go m.value refl v
  where
    go : (o : Option ℕ) → m.value ≡ o → ValueInside limit o → ValueInside limit (now_met m before)
    go None e v = rw e b
    go (Some first) e v = rw e v

decides_by : (input : List ℕ) (anew : Bool) (value before now : Option ℕ)
    → decide (raw_of_place input before, raw_of_place input now) (record { anew = anew; raw = raw_of_place input value })
    ≡ (raw_of_place input (if anew then now else before), raw_of_place input (option_or value (if anew then now else before)))
decides_by input true None before now = refl
decides_by input true (Some first) before now = refl
decides_by input false None before now = refl
decides_by input false (Some first) before now = refl

pub more_sought : (input : List ℕ) (key : Key) (a b c : Cursor) (before now : Option ℕ) (m : Met) → IsSought input key a b before now → IsWalk input key b c (mets_of input (Some m))
    → c.at ≤ length input → ValueInside (length input) m.value → IsSought input key a c (before_met m before now) (now_met m (before_met m before now))
more_sought input key a b c before now m s walk inside value =
    let earlier = before_inside_met (length input) m before now s.before_inside s.now_inside in
    record {
      start = s.start;
      inside = inside;
      met = s.met ++ met_of input m ∷ [];
      walk = both_walks input key a b c s.met (met_of input m ∷ []) s.walk walk;
      decides = fold-append decide (None, None) s.met (met_of input m ∷ []) ∙ ap (λ d. decide d (met_of input m)) s.decides ∙ decides_by input m.anew m.value before now;
      before_inside = earlier;
      now_inside = now_inside_met (length input) m (before_met m before now) earlier value;
    }

-- The values that were met up to here mean this.
pub record AreSought (input : List ℕ) (key : Key) (from to : Cursor) (meanings : List (List ℕ)) : Type 0 where
  pub start : IsStart input from
  pub inside : to.at ≤ length input
  pub met : List MetEntry
  pub walk : IsWalk input key from to met
  pub mean : meanings ≡ map met_meaning met

pub no_meanings : (input : List ℕ) (key : Key) (c : Cursor) → IsStart input c → AreSought input key c c []
no_meanings input key c start = record { start = start; inside = start.inside; met = []; walk = no_walk input key c; mean = refl }

pub more_meanings : (input : List ℕ) (key : Key) (a b c : Cursor) (meanings : List (List ℕ)) (m : Met) → AreSought input key a b meanings → IsWalk input key b c (mets_of input (Some m))
    → c.at ≤ length input → AreSought input key a c (meanings ++ met_meaning (met_of input m) ∷ [])
more_meanings input key a b c meanings m s walk inside = record {
  start = s.start;
  inside = inside;
  met = s.met ++ met_of input m ∷ [];
  walk = both_walks input key a b c s.met (met_of input m ∷ []) s.walk walk;
  mean = ap (λ t. t ++ met_meaning (met_of input m) ∷ []) s.mean ∙ sym (map-append met_meaning s.met (met_of input m ∷ []));
}

-- the walk went to the end
to_end : (input : List ℕ) (key : Key) (a b c : Cursor) (met : List MetEntry) → IsStart input a → IsWalk input key a b met → IsWalk input key b c [] → c.at ≡ length input
    → (d : Document) × Reads input d × (option_map plain (decided met).1 ≡ value_of_key key d) × (map met_meaning met ≡ values_of_key key d)
to_end input key a b c met start walk rest end =
    let all = subst (IsWalk input key a c) (append-nil met) (both_walks input key a b c met [] walk rest) in
    let whole = whole_walk input key a c met start.unmarked_is (subst (λ n. length input ≤ n) (sym end) (omega arith)) all in
    let met_is : met_in key first_standing whole.0 ≡ met = ap (λ s. met_in key s whole.0) (sym start.stands) ∙ whole.2 in (
      gathered whole.0,
      whole.1,
      ap (λ m. option_map plain (decided m).1) (sym met_is) ∙ value_met key whole.0,
      ap (map met_meaning) (sym met_is) ∙ values_met key whole.0,
    )

meant_place : (input : List ℕ) (place : Option ℕ) → option_map (λ first. plain (raw_at input first)) place ≡ option_map plain (raw_of_place input place)
meant_place input None = refl
meant_place input (Some first) = refl

pub value_found : (input : List ℕ) (key : Key) (a b c : Cursor) (before now : Option ℕ) → IsSought input key a b before now → IsWalk input key b c [] → c.at ≡ length input
    → (d : Document) × Reads input d × (option_map (λ first. plain (raw_at input first)) now ≡ value_of_key key d)
value_found input key a b c before now s rest end =
    let found = to_end input key a b c s.met s.start s.walk rest end in
    (found.0, found.1, meant_place input now ∙ ap (λ d. option_map plain d.1) (sym s.decides) ∙ found.2)

pub values_found : (input : List ℕ) (key : Key) (a b c : Cursor) (meanings : List (List ℕ)) → AreSought input key a b meanings → IsWalk input key b c [] → c.at ≡ length input
    → (d : Document) × Reads input d × (meanings ≡ values_of_key key d)
values_found input key a b c meanings s rest end =
    let found = to_end input key a b c s.met s.start s.walk rest end in
    (found.0, found.1, s.mean ∙ found.3)

-- the text is refused
pub text_misread : (input : List ℕ) (key : Key) (a b : Cursor) (met : List MetEntry) (e : ReadError) → IsStart input a → IsWalk input key a b met → IsBreak input b.at b.wanted e → IsMisread input e
text_misread input key a b met e start walk broken =
    misread input a.at e start.line start.inside start.unmarked_is (subst (λ w. IsBreak input a.at w e) start.wanted (broken_walk input key a b met e walk broken))
