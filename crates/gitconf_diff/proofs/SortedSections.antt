-- The settings of sections that were sorted by their names.
use Rattle.std.proofs.Common.{◌≡◌, Bool, true, false, not, ◌&&◌, List, [], ◌∷◌, ◌++◌, map, refl, sym, ap, ◌∙◌}
use Rattle.std.specs.Prelude.{filter, if◌then◌else◌}
use Rattle.std.specs.List.{AllByRecursion, list_all}
use Rattle.std.specs.List.Sorted.{IsPermutation, IsStableBy}
use Rattle.std.specs.Ordering.{is_lt}
use Rattle.std.specs.declared.cmp.Ordering.TheVariants.{Less}
use Rattle.std.proofs.lemmas.Grind.{flat_map-append}
use Rattle.std.proofs.lemmas.List.Elements.{filter-append, recursion_from_All, All-from_recursion}
use Rattle.std.proofs.lemmas.List.Sorted.{All-permutation}
use Rattle.gitconf_text.specs.Document.{DocumentEntry}
use Rattle.gitconf_state.specs.State.{SectionState, entries_of}
use Rattle.gitconf_diff.specs.PlainSettings.{Names, PlainSetting, are_same, said_of, is_said, same_side}
use Rattle.gitconf_diff.specs.PlainSections.{Heading, PlainSection, heading, heading_cmp, is_before, plain_section, plain_sections, same_heading, setting_in, settings_in, settings_of_one, sided}
use Rattle.gitconf_diff.specs.Settings.{setting_of, settings_of}
use Rattle.gitconf_diff.specs.Differences.{Different, AreKept}
use Rattle.gitconf_diff.specs.declared.sections.SideSection.{SideSection}
use Rattle.gitconf_diff.specs.declared.setting.Side.{Side}
use Rattle.gitconf_diff.specs.declared.setting.Side.TheVariants.{One, Other}
use Rattle.gitconf_diff.proofs.Groups.{map_append}
use Rattle.gitconf_diff.proofs.Headings.{heading_equiv, ties_are_alike, AreBehind, AreUnder}
use Rattle.gitconf_diff.proofs.Joined.{all_joined, all_parts, apart_names, heading_of, is_after, is_under}
use Rattle.gitconf_diff.proofs.Kept.{filter_stays}

-- the settings of sections of these names, and of those behind them
under_one : (h : Heading) (s : PlainSection) → same_heading h s.heading ≡ true → (entries : List DocumentEntry) → list_all (is_under h) (map (setting_in s) entries) ≡ true
under_one h s same [] = refl
under_one h s same (e ∷ entries) = λ i. same i && under_one h s same entries i

pub all_under : (h : Heading) (sections : List SideSection) → AreUnder h sections → list_all (is_under h) (settings_in (plain_sections sections)) ≡ true
all_under h [] are = refl
all_under h (s ∷ sections) are =
    all_joined (is_under h) (settings_of_one (plain_section s)) (settings_in (plain_sections sections)) (under_one h (plain_section s) are.0 (plain_section s).entries) (all_under h sections are.1)

after_one : (h : Heading) (s : PlainSection) → heading_cmp h s.heading ≡ Less → (entries : List DocumentEntry) → list_all (is_after h) (map (setting_in s) entries) ≡ true
after_one h s less [] = refl
after_one h s less (e ∷ entries) = λ i. is_lt (less i) && after_one h s less entries i

pub all_after : (h : Heading) (sections : List SideSection) → AreBehind h sections → list_all (is_after h) (settings_in (plain_sections sections)) ≡ true
all_after h [] are = refl
all_after h (s ∷ sections) are =
    all_joined (is_after h) (settings_of_one (plain_section s)) (settings_in (plain_sections sections)) (after_one h (plain_section s) are.0 (plain_section s).entries) (all_after h sections are.1)

pub settings_joined : (front back : List SideSection) → settings_in (plain_sections (front ++ back)) ≡ settings_in (plain_sections front) ++ settings_in (plain_sections back)
settings_joined front back = ap settings_in (map_append plain_section front back) ∙ flat_map-append settings_of_one (plain_sections front) (plain_sections back)

-- what is said of names stands in the sections that have them
said_elsewhere : (names : Names) (side : Side) (s : PlainSection) → same_heading (heading_of names) s.heading ≡ false → (entries : List DocumentEntry) → said_of names side (map (setting_in s) entries) ≡ []
said_elsewhere names side s apart [] = refl
said_elsewhere names side s apart (e ∷ entries) =
    let here : is_said names side (setting_in s e) ≡ false = ap (λ b. b && same_side side s.side) (apart_names names (setting_in s e).names apart) in
    rw here (said_elsewhere names side s apart entries)

said_there : (names : Names) (side : Side) (sections : List SideSection)
    → said_of names side (settings_in (plain_sections sections)) ≡ said_of names side (settings_in (plain_sections (filter (λ s. same_heading (heading_of names) (heading s)) sections)))
said_there names side [] = refl
said_there names side (s ∷ sections) = go (same_heading (heading_of names) (heading s)) refl (said_there names side sections)
  where
    here : List PlainSetting
    here = settings_of_one (plain_section s)

    kept : List SideSection
    kept = filter (λ s. same_heading (heading_of names) (heading s)) sections

    go : (b : Bool) → same_heading (heading_of names) (heading s) ≡ b → said_of names side (settings_in (plain_sections sections)) ≡ said_of names side (settings_in (plain_sections kept))
        → said_of names side (settings_in (plain_sections (s ∷ sections))) ≡ said_of names side (settings_in (plain_sections (if b then s ∷ kept else kept)))
    go true same more =
        filter-append (is_said names side) here (settings_in (plain_sections sections)) ∙ ap (λ ts. said_of names side here ++ ts) more
        ∙ sym (filter-append (is_said names side) here (settings_in (plain_sections kept)))
    go false apart more =
        filter-append (is_said names side) here (settings_in (plain_sections sections)) ∙ ap (λ ts. ts ++ said_of names side (settings_in (plain_sections sections))) (said_elsewhere names side (plain_section s) apart (plain_section s).entries)
        ∙ more

said_stays : (names : Names) (side : Side) (old new : List SideSection) → IsPermutation old new → IsStableBy is_before old new
    → said_of names side (settings_in (plain_sections new)) ≡ said_of names side (settings_in (plain_sections old))
said_stays names side old new moved stable =
    let stays : filter (λ s. same_heading (heading_of names) (heading s)) new ≡ filter (λ s. same_heading (heading_of names) (heading s)) old
    = filter_stays is_before (λ s. same_heading (heading_of names) (heading s)) (λ s same t. heading_equiv.congr (heading_of names) (heading s) (heading t) same ∙ sym (ties_are_alike s t)) old new moved stable in
    said_there names side new ∙ ap (λ ss. said_of names side (settings_in (plain_sections ss))) stays ∙ sym (said_there names side old)

each_passes : (p : PlainSetting → Bool) (sections : List SideSection) → list_all p (settings_in (plain_sections sections)) ≡ true → AllByRecursion (λ s. list_all p (settings_of_one (plain_section s)) ≡ true) sections
each_passes p [] all = tt
each_passes p (s ∷ sections) all = let parts = all_parts p (settings_of_one (plain_section s)) (settings_in (plain_sections sections)) all in (parts.0, each_passes p sections parts.1)

all_pass : (p : PlainSetting → Bool) (sections : List SideSection) → AllByRecursion (λ s. list_all p (settings_of_one (plain_section s)) ≡ true) sections → list_all p (settings_in (plain_sections sections)) ≡ true
all_pass p [] all = refl
all_pass p (s ∷ sections) all = all_joined p (settings_of_one (plain_section s)) (settings_in (plain_sections sections)) all.0 (all_pass p sections all.1)

-- the differences of sections that were sorted are those of the sections as they were
pub kept_as_before : (old new : List SideSection) (found : List Different) → IsPermutation old new → IsStableBy is_before old new
    → AreKept (settings_in (plain_sections new)) found → AreKept (settings_in (plain_sections old)) found
kept_as_before old new found moved stable are =
    let said : (names : Names) (side : Side) → said_of names side (settings_in (plain_sections new)) ≡ said_of names side (settings_in (plain_sections old)) = λ names side. said_stays names side old new moved stable in
    record {
      kept = are.kept;
      told = are.told;
      is = λ names side. are.is names side ∙ (λ i. if not (are_same (said names One i) (said names Other i)) then said names side i else []);
      sorted = are.sorted;
      all = λ p all. are.all p (
          all_pass p new (
          recursion_from_All (λ s. list_all p (settings_of_one (plain_section s)) ≡ true) new (
          All-permutation (λ s. list_all p (settings_of_one (plain_section s)) ≡ true) old new moved (
          All-from_recursion (λ s. list_all p (settings_of_one (plain_section s)) ≡ true) old (each_passes p old all)))));
    }

-- the settings of a file's sections
same_settings : (side : Side) (s : SectionState) (entries : List DocumentEntry) → map (setting_in (sided side s)) entries ≡ map (setting_of side s) entries
same_settings side s [] = refl
same_settings side s (e ∷ entries) = ap (λ ts. setting_of side s e ∷ ts) (same_settings side s entries)

pub settings_of_file : (side : Side) (sections : List SectionState) → settings_in (map (sided side) sections) ≡ settings_of side sections
settings_of_file side [] = refl
settings_of_file side (s ∷ sections) = λ i. same_settings side s (entries_of s.items) i ++ settings_of_file side sections i

pub settings_of_both : (one other : List SectionState) → settings_in (map (sided One) one ++ map (sided Other) other) ≡ settings_of One one ++ settings_of Other other
settings_of_both one other = flat_map-append settings_of_one (map (sided One) one) (map (sided Other) other) ∙ (λ i. settings_of_file One one i ++ settings_of_file Other other i)
