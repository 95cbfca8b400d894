-- A buffer that only grows, and what is in it.
use Rattle.std.specs.Prelude.{◌≡◌, ◌⊎◌, ℕ, ◌+◌, ◌<◌, ◌≤◌, ◌^◌, List, length, Result, IfErr, IsErrOf, OnOk}
use Rattle.gitconf_items.specs.declared.event.Span.{Span}
use Rattle.gitconf_items.specs.Events.{bytes_of, SpanFits}
use Rattle.gitconf_items.specs.ShownEvents.{IsExtended}

-- these bytes are at the span
pub record StandsAt (buffer : List ℕ) (s : Span) (bytes : List ℕ) : Type 0 where
  pub fits : SpanFits (length buffer) s
  pub is : bytes_of buffer s ≡ bytes

-- That many bytes were added to the buffer, or, if they were refused, at most that many; it stays below the limit. A refusal says that
-- they are too many, only if they would pass the limit, or that memory ran out.
pub record Grows {T : Type 0} (result : Result T ℕ) (count : ℕ) (old new : List ℕ) : Type 0 where
  pub extended : IsExtended old new
  pub room : length new < 2 ^ 32
  pub put : OnOk result (length new ≡ length old + count)
  pub grown : length new ≤ length old + count
  pub too_large : IsErrOf result 3 → 2 ^ 32 ≤ length old + count
  pub known : IfErr result (λ e. (e ≡ 3) ⊎ (e ≡ 27))
