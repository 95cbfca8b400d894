-- The events that were read of a text are its tokens.
use Rattle.std.proofs.Common.{◌≡◌, ℕ, true, List, length, map, refl}
use Rattle.std.specs.Prelude.{◌<◌, ◌^◌}
use Rattle.std.specs.List.{AllByRecursion}
use Rattle.gitconf_text.specs.Token.{tokens_of}
use Rattle.gitconf_items.specs.declared.event.Event.{Event}
use Rattle.gitconf_items.specs.Events.{token_of}
use Rattle.gitconf_items.specs.ShownEvents.{IsShown}
use Rattle.gitconf_items.specs.EventList.{IsSelected, EventsFit}
use Rattle.gitconf_items.proofs.Selections.{selection_all}
use Rattle.gitconf_read.specs.Parsing.{IsRead}

-- the events that were read of a text, in a buffer that is the text
pub read_selected : (input buffer : List ℕ) (events others : List Event) → buffer ≡ input → IsRead input events → map (token_of buffer) others ≡ map (token_of buffer) events
    → IsSelected buffer (record { tokens = map (token_of buffer) others; keeps_entries = true; used = length buffer })
read_selected input buffer events others same read decoded = record {
  parts = read.parts;
  text = rw same read.text;
  tokens = rw (decoded, same, read.tokens) (selection_all true (tokens_of read.parts));
  used = refl;
}

pub read_fits : (input buffer copies : List ℕ) (events others : List Event) → IsRead input events → buffer ≡ input → length input < 2 ^ 32 → map (token_of buffer) others ≡ map (token_of buffer) events
    → AllByRecursion (IsShown buffer copies) others → EventsFit buffer copies others true
read_fits input buffer copies events others read same room decoded shown = record { room = rw same room; shown = shown; selected = read_selected input buffer events others same read decoded }
