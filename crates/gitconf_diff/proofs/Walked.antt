-- Steps of the walks over the settings of one key.
use Rattle.std.proofs.Common.{◌≡◌, ℕ, ◌+◌, ◌<◌, ◌≤◌, Bool, true, false, not, ◌&&◌, List, [], ◌∷◌, ◌++◌, length, get_or, take, drop, zero, suc, Option, Some, None, refl, sym, ap, subst, ◌∙◌, arith, take-append-drop}
use Rattle.std.specs.Prelude.{filter, if◌then◌else◌, unwrap_or, position}
use Rattle.std.specs.Option.{option_eq}
use Rattle.std.specs.Cmp.Lexicographic.{pointwise}
use Rattle.std.specs.Str.{bytes_eq}
use Rattle.std.proofs.lemmas.List.{drop_more, drop_all, take-map, drop-map}
use Rattle.gitconf_diff.specs.PlainSettings.{PlainSetting, plain_mentions, are_same, differ_alone, found_in, goes_on, kept_of, mention_names, same_names, same_side, plain_mention, values_of, IsBySide}
use Rattle.gitconf_diff.specs.declared.mention.Mention.{Mention}
use Rattle.gitconf_diff.specs.declared.setting.Side.TheVariants.{One, Other}
use Rattle.gitconf_diff.proofs.Orders.{Ascends, same_equiv}
use Rattle.gitconf_diff.proofs.Groups.{AreOf, NoneIsOf, alike, at_front, behind_front, by_side, firsts, front_ascends, rest_ascends, in_two, kept_step, place_of_told, place_or_all}

-- the settings have the same values, in order
abbrev pub have_same : (one other : List Mention) → Bool
have_same one other = pointwise (option_eq bytes_eq) (values_of (plain_mentions one)) (values_of (plain_mentions other))

opened : (settings : List Mention) (at : ℕ) (s : Mention) → s ≡ get_or settings at s → at < length settings → drop at settings ≡ s ∷ drop (at + 1) settings
opened settings at s is within = drop_more settings at s within ∙ (λ i. sym is i ∷ drop (at + 1) settings)

pub same_step : (one other : List Mention) (at : ℕ) (s t : Mention) → s ≡ get_or one at s → t ≡ get_or other at t → at < length one → at < length other
    → have_same (drop at one) (drop at other) ≡ (option_eq bytes_eq (plain_mention s).value (plain_mention t).value && have_same (drop (at + 1) one) (drop (at + 1) other))
same_step one other at s t is that within too = λ i. have_same (opened one at s is within i) (opened other at t that too i)

pub same_more : (one other : List Mention) (at : ℕ) (s t : Mention) → s ≡ get_or one at s → t ≡ get_or other at t → at < length one → at < length other
    → option_eq bytes_eq (plain_mention s).value (plain_mention t).value ≡ true → have_same one other ≡ have_same (drop at one) (drop at other)
    → have_same one other ≡ have_same (drop (at + 1) one) (drop (at + 1) other)
same_more one other at s t is that within too same so =
    so ∙ same_step one other at s t is that within too ∙ ap (λ b. b && have_same (drop (at + 1) one) (drop (at + 1) other)) same

pub same_not : (one other : List Mention) (at : ℕ) (s t : Mention) → s ≡ get_or one at s → t ≡ get_or other at t → at < length one → at < length other
    → option_eq bytes_eq (plain_mention s).value (plain_mention t).value ≡ false → have_same one other ≡ have_same (drop at one) (drop at other) → have_same one other ≡ false
same_not one other at s t is that within too same so =
    so ∙ same_step one other at s t is that within too ∙ ap (λ b. b && have_same (drop (at + 1) one) (drop (at + 1) other)) same

pub same_all : (one other : List Mention) (at : ℕ) → length one ≤ at → length other ≤ at → have_same one other ≡ have_same (drop at one) (drop at other) → have_same one other ≡ true
same_all one other at past too so = so ∙ (λ i. have_same (drop_all at one past i) (drop_all at other too i))

pub same_long : (one other : List Mention) → (length one ≡ length other → ⊥) → have_same one other ≡ false
same_long [] [] differ = absurd (differ refl)
same_long [] (t ∷ other) differ = refl
same_long (s ∷ one) [] differ = refl
same_long (s ∷ one) (t ∷ other) differ = ap (λ b. option_eq bytes_eq (plain_mention s).value (plain_mention t).value && b) (same_long one other (λ e. differ (ap suc e))) ∙ never (option_eq bytes_eq (plain_mention s).value (plain_mention t).value)
  where
    never : (b : Bool) → (b && false) ≡ false
    never true = refl
    never false = refl

-- what a lookup finds, by what it finds behind a setting
abbrev after : Option (List ℕ) → (goes : Bool) → (value : Option (List ℕ)) → Option (List ℕ)
after found goes value = elim found [ Some v ↦ Some v | None ↦ if goes then None else value ]

-- what a lookup finds from a place on, where it finds nothing behind it
pub found_step : (settings : List Mention) (at : ℕ) (s : Mention) → at < length settings → found_in (plain_mentions (drop (at + 1) settings)) ≡ None
    → found_in (plain_mentions (drop at settings)) ≡ (if goes_on (plain_mention (get_or settings at s)) (plain_mentions (drop (at + 1) settings)) then None else (plain_mention (get_or settings at s)).value)
found_step settings at s within none =
    ap (λ ss. found_in (plain_mentions ss)) (drop_more settings at s within)
    ∙ ap (λ o. after o (goes_on (plain_mention (get_or settings at s)) (plain_mentions (drop (at + 1) settings))) (plain_mention (get_or settings at s)).value) none

-- the same, of any answer that says so at each default
pub found_here : (settings : List Mention) (at : ℕ) (r : Option (List ℕ)) → at < length settings
    → ((d : Mention) → r ≡ (if goes_on (plain_mention (get_or settings at d)) (plain_mentions (drop (at + 1) settings)) then None else (plain_mention (get_or settings at d)).value))
    → found_in (plain_mentions (drop (at + 1) settings)) ≡ None → found_in (plain_mentions (drop at settings)) ≡ r
found_here [] at r within is none = absurd (omega arith)
found_here (s ∷ settings) at r within is none = found_step (s ∷ settings) at s within none ∙ sym (is s)

-- and what it finds from a place on, it finds
pub found_behind : (settings : List Mention) (at : ℕ) (v : List ℕ) → found_in (plain_mentions (drop at settings)) ≡ Some v → found_in (plain_mentions settings) ≡ Some v
found_behind settings zero v found = found
found_behind [] (suc at) v found = found
found_behind (s ∷ settings) (suc at) v found = rw (found_behind settings at v found) refl

-- of settings of which the first file's come first: what each says
pub differ_split : (settings : List Mention) (n : ℕ) → IsBySide (plain_mentions settings) → n ≡ unwrap_or (position (λ s. same_side Other s.side) settings) (length settings)
    → not (are_same (plain_mentions (take n settings)) (plain_mentions (drop n settings))) ≡ differ_alone (plain_mentions settings)
differ_split settings n by is =
    let place : n ≡ firsts (plain_mentions settings) = is ∙ place_or_all (λ s. same_side Other s.side) settings ∙ place_of_told (λ t. same_side Other t.side) settings in
    let two = in_two (plain_mentions settings) by in
    let one : plain_mentions (take n settings) ≡ filter (λ u. same_side One u.side) (plain_mentions settings) = sym (take-map plain_mention n settings) ∙ ap (λ n. take n (plain_mentions settings)) place ∙ two.0 in
    let other : plain_mentions (drop n settings) ≡ filter (λ u. same_side Other u.side) (plain_mentions settings) = sym (drop-map plain_mention n settings) ∙ ap (λ n. drop n (plain_mentions settings)) place ∙ two.1 in
    λ i. not (are_same (one i) (other i))

-- what holds of the settings at the front that have the names of the first, and of those behind them
pub record IsGrouped (group behind whole : List Mention) : Type 0 where
  pub sides : IsBySide (plain_mentions group)
  pub up : Ascends (plain_mentions behind)
  pub kept : kept_of (plain_mentions whole) ≡ (if differ_alone (plain_mentions group) then plain_mentions group else []) ++ kept_of (plain_mentions behind)

pub grouped : (first : Mention) (others : List Mention) (n : ℕ) → Ascends (plain_mentions (first ∷ others))
    → n ≡ unwrap_or (position (λ s. not (same_names (mention_names first) (mention_names s))) others) (length others)
    → IsGrouped (take (suc n) (first ∷ others)) (drop (suc n) (first ∷ others)) (first ∷ others)
grouped first others n up is =
    let place : n ≡ alike (mention_names first) (plain_mentions others)
    = is ∙ place_or_all (λ s. not (same_names (mention_names first) (mention_names s))) others ∙ place_of_told (λ t. not (same_names (mention_names first) t.names)) others in
    let group : plain_mentions (take n others) ≡ take (alike (mention_names first) (plain_mentions others)) (plain_mentions others) = sym (take-map plain_mention n others) ∙ ap (λ n. take n (plain_mentions others)) place in
    let behind : plain_mentions (drop n others) ≡ drop (alike (mention_names first) (plain_mentions others)) (plain_mentions others) = sym (drop-map plain_mention n others) ∙ ap (λ n. drop n (plain_mentions others)) place in
    let are : AreOf (mention_names first) (plain_mentions (take n others)) = subst (λ (ts : List PlainSetting). AreOf (mention_names first) ts) (sym group) (at_front (mention_names first) (plain_mentions others)) in
    let none : NoneIsOf (mention_names first) (plain_mentions (drop n others)) = subst (λ (ts : List PlainSetting). NoneIsOf (mention_names first) ts) (sym behind) (behind_front (plain_mention first) (plain_mentions others) up.0 up.1) in
    let whole : plain_mentions (take n others) ++ plain_mentions (drop n others) ≡ plain_mentions others
    = (λ i. sym (take-map plain_mention n others) i ++ sym (drop-map plain_mention n others) i) ∙ take-append-drop n (plain_mentions others) in
    let rising : Ascends (plain_mention first ∷ (plain_mentions (take n others) ++ plain_mentions (drop n others))) = subst (λ (ts : List PlainSetting). Ascends (plain_mention first ∷ ts)) (sym whole) up in
    let all : AreOf (mention_names first) (plain_mention first ∷ plain_mentions (take n others)) = (same_equiv.refl (mention_names first), are) in
    record {
      sides = by_side (mention_names first) (plain_mention first ∷ plain_mentions (take n others)) all (front_ascends (plain_mention first ∷ plain_mentions (take n others)) (plain_mentions (drop n others)) rising);
      up = rest_ascends (plain_mention first ∷ plain_mentions (take n others)) (plain_mentions (drop n others)) rising;
      kept =
          (λ i. kept_of (plain_mention first ∷ sym whole i))
          ∙ kept_step (mention_names first) (plain_mention first ∷ plain_mentions (take n others)) (plain_mentions (drop n others)) all none;
    }
