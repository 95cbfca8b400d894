-- A text has at most one document: the same text gives the same events, these the same tokens, and the tokens the document.
use Rattle.std.proofs.Common.{◌≡◌, ℕ, ◌+◌, List, [], ◌++◌, length, drop, map, Ok, ap, sym, ◌∙◌, append-nil}
use Rattle.gitconf_text.specs.Part.{Part, spelled, AreFit}
use Rattle.gitconf_text.specs.Token.{tokens_of}
use Rattle.gitconf_text.specs.Document.{gathered}
use Rattle.gitconf_read.specs.declared.reading.Expected.TheVariants as expected
use Rattle.gitconf_read.specs.Reading.{text_from}
use Rattle.gitconf_items.proofs.ToldParts.{told_parts}
use Rattle.gitconf_items.proofs.TokenDocument.{nothing, told}
use Rattle.gitconf_items.specs.Events.{token_of}
use Rattle.gitconf_read.proofs.At.{behind_front}
use Rattle.gitconf_read.proofs.Skips.{text_from-end}
use Rattle.gitconf_read.proofs.TextTakes.{after_parts, wanted_after, text_again}
use Rattle.gitconf_read.proofs.TokensLaws.{parts_events_tokens}

-- all parts of a text are read to their events
pub all_again : (parts : List Part) (input : List ℕ) (n : ℕ) → drop n input ≡ spelled parts → AreFit parts []
    → text_from input expected.SectionHeader [] n 0 (drop n input) ≡ Ok (after_parts [] n parts)
all_again parts input n stands fits =
    let here : drop n input ≡ spelled parts ++ [] = stands ∙ sym (append-nil (spelled parts)) in
    text_again parts [] input n expected.SectionHeader [] here fits
    ∙ ap (λ t. text_from input (wanted_after expected.SectionHeader parts) (after_parts [] n parts) (n + length (spelled parts)) 0 t) (behind_front input (spelled parts) [] n here)
    ∙ text_from-end input (wanted_after expected.SectionHeader parts) (after_parts [] n parts) (n + length (spelled parts))

-- The same text has the same tokens.
pub one_tokens : (text : List ℕ) (parts others : List Part) → text ≡ spelled parts → AreFit parts [] → text ≡ spelled others → AreFit others [] → tokens_of parts ≡ tokens_of others
one_tokens text parts others stands fits stands_too fits_too =
    let events : after_parts [] 0 parts ≡ after_parts [] 0 others = (let e = sym (all_again parts text 0 stands fits) ∙ all_again others text 0 stands_too fits_too in cc) in
    sym (parts_events_tokens parts [] text [] 0 (stands ∙ sym (append-nil _)) fits)
    ∙ ap (λ events. map (token_of text) events) events
    ∙ parts_events_tokens others [] text [] 0 (stands_too ∙ sym (append-nil _)) fits_too

-- The same text has the same document.
pub one_document : (text : List ℕ) (parts others : List Part) → text ≡ spelled parts → AreFit parts [] → text ≡ spelled others → AreFit others [] → gathered parts ≡ gathered others
one_document text parts others stands fits stands_too fits_too =
    sym (told_parts parts) ∙ ap (λ t. (told t nothing).document) (one_tokens text parts others stands fits stands_too fits_too) ∙ told_parts others
