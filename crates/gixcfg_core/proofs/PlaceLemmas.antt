-- A place of a text, put together.
use Rattle.std.proofs.Common.{◌≡◌, ℕ, ◌+◌, ◌-◌, List, length, take, drop, map, chars, string_bytes, sym, ap, ◌∙◌}
use Rattle.std.proofs.lemmas.Str.{chars_from_encodes, IsUtf8-string_bytes}
use Rattle.std.specs.List.{count_by, flat_map}
use Rattle.std.specs.Prelude.{nat_lt}
use Rattle.bstr.specs.Utf8.{lossy_chars}
use Rattle.gixcfg_core.specs.Line.{is_feed, IsPlaceOf, last_line, line_behind, line_before, line_from, most_before, most_behind, shown, shown_char, under_char, without_mark}
use Rattle.gixcfg_core.specs.declared.place.Place.{Place}

pub made : (text : List ℕ) (left : ℕ) (place : Place) (read rest whole front back before behind : List ℕ) →
    read ≡ take (length text - left) text → rest ≡ drop (length text - left) text →
    whole ≡ without_mark read → front ≡ last_line whole → back ≡ line_from rest →
    before ≡ drop (length front - most_before) front → behind ≡ take most_behind back →
    string_bytes place.before ≡ shown (lossy_chars before) → string_bytes place.behind ≡ shown (lossy_chars behind) →
    string_bytes place.under ≡ flat_map under_char (chars (string_bytes place.before)) →
    place.column ≡ length (lossy_chars front) + 1 →
    place.line ≡ count_by is_feed read + 1 →
    place.is_cut_before ≡ nat_lt most_before (length front) → place.is_cut_behind ≡ nat_lt most_behind (length back) →
    IsPlaceOf text left place
made text left place read rest whole front back before behind reads rests wholes fronts backs befores behinds shown_front shown_back unders columns counted cut_front cut_back =
    let there : front ≡ line_before text left = fronts ∙ ap last_line (wholes ∙ ap without_mark reads) in
    let on : back ≡ line_behind text left = backs ∙ ap line_from rests in
    let first = befores ∙ ap (λ t. drop (length t - most_before) t) there in
    let spelled : chars (string_bytes place.before) ≡ map shown_char (lossy_chars before) =
    sym (chars_from_encodes (map shown_char (lossy_chars before)) (string_bytes place.before) (IsUtf8-string_bytes place.before) (sym shown_front)) in
    record {
      line = counted ∙ ap (λ t. count_by is_feed t + 1) reads;
      column = columns ∙ ap (λ t. length (lossy_chars t) + 1) there;
      cut_before = cut_front ∙ ap (λ t. nat_lt most_before (length t)) there;
      cut_behind = cut_back ∙ ap (λ t. nat_lt most_behind (length t)) on;
      before = shown_front ∙ ap (λ t. shown (lossy_chars t)) first;
      behind = shown_back ∙ ap (λ t. shown (lossy_chars t)) (behinds ∙ ap (take most_behind) on);
      under = unders ∙ ap (flat_map under_char) spelled ∙ ap (λ t. flat_map under_char (map shown_char (lossy_chars t))) first;
    }
