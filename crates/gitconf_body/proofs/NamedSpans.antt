-- Spans whose length alone tells that their bytes are not a name.
use Rattle.std.proofs.Common.{◌≡◌, ℕ, ◌+◌, ◌≤◌, true, false, List, length, drop, ap, sym, ◌∙◌, arith}
use Rattle.std.proofs.lemmas.List.{length-drop, length-map, length-take-le}
use Rattle.std.proofs.lemmas.Slice.Eq.{bytes_eq-Decides}
use Rattle.gitconf_text.specs.Bytes.{fold}
use Rattle.gitconf_text.specs.Names.{is_same_name}
use Rattle.gitconf_text.proofs.Tests.{refuted}
use Rattle.gitconf_items.specs.Events.{bytes_of}
use Rattle.gitconf_items.specs.declared.event.Span.{Span}

same_length : (a b : List ℕ) → is_same_name a b ≡ true → length a ≡ length b
same_length a b same = sym (length-map a _) ∙ ap length ((bytes_eq-Decides (fold a) (fold b)).0 same) ∙ length-map b _

length-bytes_of : (buffer : List ℕ) (s : Span) → s.start + s.len ≤ length buffer → length (bytes_of buffer s) ≡ s.len
length-bytes_of buffer s within = length-take-le s.len (drop s.start buffer) (let rest = length-drop s.start buffer in omega arith)

-- a span within the buffer that is longer or shorter than the name
pub other_length : (buffer : List ℕ) (s : Span) (name : List ℕ) → s.start + s.len ≤ length buffer → (s.len ≡ length name → ⊥)
    → is_same_name name (bytes_of buffer s) ≡ false
other_length buffer s name within apart =
    refuted (is_same_name name (bytes_of buffer s)) (λ same. apart (sym (same_length name (bytes_of buffer s) same ∙ length-bytes_of buffer s within)))
