-- Where an entry and its parts end is what the functional reader reads.
use Rattle.std.proofs.Common.{◌≡◌, ℕ, ◌+◌, ◌-◌, ◌≤◌, true, false, List, [], ◌∷◌, ◌++◌, length, drop, map, Some, None, refl, ap, sym, ◌∙◌, arith, append_assoc}
use Rattle.std.specs.Prelude.{◌==◌}
use Rattle.std.proofs.lemmas.List.{length-drop, length-take-le, map-append, take-append-drop}
use Rattle.gitconf_text.specs.Text.{begins}
use Rattle.gitconf_text.specs.Token.{Token, NameToken, WhitespaceToken, SeparatorToken, filled, value_tokens}
use Rattle.gitconf_text.specs.Value.{Value}
use Rattle.gitconf_items.specs.declared.event.Event.{Event}
use Rattle.gitconf_items.specs.declared.event.Event.TheVariants as kinds
use Rattle.gitconf_items.specs.declared.entry.Assigned.TheVariants as assigned
use Rattle.gitconf_read.specs.declared.reading.run.Run.TheVariants as runs
use Rattle.gitconf_items.specs.Events.{bytes_of, token_of}
use Rattle.gitconf_read.specs.ItemReading.{IsReadTo, IsValueRead}
use Rattle.gitconf_read.specs.Reading.{span, with_blanks, run_end_at, value_at, assigned_at, entry_at}
use Rattle.gitconf_read.proofs.ItemReading.{bare_reads}
use Rattle.gitconf_read.proofs.TokensLaws.{blanks_tokens}
use Rattle.gitconf_parse.specs.Places.{IsEntryRead}
use Rattle.gitconf_parse.proofs.Raws.{raw_is}

-- the blanks between two offsets
span_blanks : (input : List ℕ) (events : List Event) (from end : ℕ) → from ≤ end → end ≤ length input
    → map (token_of input) (with_blanks events from end) ≡ map (token_of input) events ++ filled WhitespaceToken (bytes_of input (span from end))
span_blanks input events from end ordered within =
    let left = length-drop from input in
    let long : length (bytes_of input (span from end)) ≡ end - from = length-take-le (end - from) (drop from input) (omega (arith, within, left)) in
    blanks_tokens input (bytes_of input (span from end)) (drop (end - from) (drop from input)) events from end (sym (take-append-drop (end - from) (drop from input))) (omega (arith, long, ordered))

-- the events before a value
abbrev before_value : (n name_end blanks_end first : ℕ) → List Event
before_value n name_end blanks_end first =
    with_blanks (with_blanks (kinds.SectionValueName (span n name_end) ∷ []) name_end blanks_end ++ kinds.KeyValueSeparator ∷ []) (blanks_end + 1) first

-- the tokens before a value
abbrev tokens_before : (input : List ℕ) → (n name_end blanks_end first : ℕ) → List Token → List Token
tokens_before input n name_end blanks_end first tokens =
    NameToken (bytes_of input (span n name_end)) ∷ (filled WhitespaceToken (bytes_of input (span name_end blanks_end))
    ++ (SeparatorToken ∷ (filled WhitespaceToken (bytes_of input (span (blanks_end + 1) first)) ++ tokens)))

entry_value : (input : List ℕ) (n name_end blanks_end first : ℕ) → name_end ≡ run_end_at input runs.NameBytes (n + 1) → blanks_end ≡ run_end_at input runs.Blanks name_end
    → begins (λ b. b == 61) (drop blanks_end input) ≡ true → first ≡ run_end_at input runs.Blanks (blanks_end + 1)
    → entry_at input n [] ≡ value_at first (before_value n name_end blanks_end first) (drop first input)
unfolding entry_at assigned_at
entry_value input n name_end blanks_end first name_is blanks_is sign first_is = let here = rw (blanks_is, name_is) at sign in rw (first_is, blanks_is, name_is, here, assigned_at) refl

entry_read : (input : List ℕ) (n name_end blanks_end first end : ℕ) (tokens : List Token) → name_end ≡ run_end_at input runs.NameBytes (n + 1) → blanks_end ≡ run_end_at input runs.Blanks name_end
    → begins (λ b. b == 61) (drop blanks_end input) ≡ true → first ≡ run_end_at input runs.Blanks (blanks_end + 1)
    → name_end ≤ blanks_end → blanks_end + 1 ≤ first → first ≤ length input → IsValueRead input first end tokens
    → IsReadTo input (entry_at input n []) end (tokens_before input n name_end blanks_end first tokens)
entry_read input n name_end blanks_end first end tokens name_is blanks_is sign first_is one two three r =
    let begun : List Event = with_blanks (kinds.SectionValueName (span n name_end) ∷ []) name_end blanks_end in
    let named = span_blanks input (kinds.SectionValueName (span n name_end) ∷ []) name_end blanks_end one (omega (arith, two, three)) in
    let signed = map-append (token_of input) begun (kinds.KeyValueSeparator ∷ []) in
    let blanks = filled WhitespaceToken (bytes_of input (span name_end blanks_end)) in
    let behind = filled WhitespaceToken (bytes_of input (span (blanks_end + 1) first)) in
    let spaced = span_blanks input (begun ++ kinds.KeyValueSeparator ∷ []) (blanks_end + 1) first two three in
    record {
      events = before_value n name_end blanks_end first ++ r.events;
      read = entry_value input n name_end blanks_end first name_is blanks_is sign first_is ∙ r.read (before_value n name_end blanks_end first);
      tokens_are = map-append (token_of input) (before_value n name_end blanks_end first) r.events
          ∙ ap (λ t. map (token_of input) (before_value n name_end blanks_end first) ++ t) r.tokens_are
          ∙ ap (λ t. t ++ tokens) (spaced ∙ ap (λ t. t ++ filled WhitespaceToken (bytes_of input (span (blanks_end + 1) first))) (signed ∙ ap (λ t. t ++ SeparatorToken ∷ []) named))
          ∙ ap (λ t. NameToken (bytes_of input (span n name_end)) ∷ t) (append_assoc (blanks ++ SeparatorToken ∷ []) behind tokens ∙ append_assoc blanks (SeparatorToken ∷ []) (behind ++ tokens));
    }

-- An entry with a value.
pub entry_found : (input : List ℕ) (n name_end blanks_end first end : ℕ) (v : Value) → name_end ≡ run_end_at input runs.NameBytes (n + 1) → blanks_end ≡ run_end_at input runs.Blanks name_end
    → begins (λ b. b == 61) (drop blanks_end input) ≡ true → first ≡ run_end_at input runs.Blanks (blanks_end + 1)
    → name_end ≤ blanks_end → blanks_end + 1 ≤ first → first ≤ length input → IsValueRead input first end (value_tokens v.pieces v.last)
    → IsEntryRead input n (record { name_end = name_end; value = Some first; end = end })
entry_found input n name_end blanks_end first end v name_is blanks_is sign first_is one two three r = record {
  entry = record {
    name = bytes_of input (span n name_end);
    blanks = bytes_of input (span name_end blanks_end);
    assigned = Some (record { blanks = bytes_of input (span (blanks_end + 1) first); value = v });
  };
  read = entry_read input n name_end blanks_end first end _ name_is blanks_is sign first_is one two three r;
  name = refl;
  raw = ap Some (sym (raw_is input first end v.pieces v.last r));
}

-- An entry without `=`.
pub entry_bare : (input : List ℕ) (n name_end blanks_end : ℕ) → name_end ≡ run_end_at input runs.NameBytes (n + 1) → blanks_end ≡ run_end_at input runs.Blanks name_end
    → begins (λ b. b == 61) (drop blanks_end input) ≡ false → name_end ≤ blanks_end → blanks_end ≤ length input
    → IsEntryRead input n (record { name_end = name_end; value = None; end = blanks_end })
entry_bare input n name_end blanks_end name_is blanks_is sign one two = record {
  entry = record { name = bytes_of input (span n name_end); blanks = bytes_of input (span name_end blanks_end); assigned = None };
  read = bare_reads input n name_end blanks_end (record { name = span n name_end; blanks = span name_end blanks_end; assigned = assigned.Nothing }) name_is blanks_is sign one two refl;
  name = refl;
  raw = refl;
}
