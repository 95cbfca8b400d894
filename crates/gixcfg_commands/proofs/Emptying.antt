-- What a section is left with.
use Rattle.std.proofs.Common.{◌≡◌, ◌∙◌, ◌||◌, ◌==◌, ℕ, Bool, not, List, [], ◌∷◌, ap, refl}
use Rattle.std.specs.List.{list_any}
use Rattle.gitconf_items.specs.Items.{items_of}
use Rattle.gitconf_items.specs.declared.items.Item.{Item}
use Rattle.gitconf_items.specs.declared.items.Item.TheVariants.{Blanks, LineEnds, Comment, Entry}
use Rattle.gitconf_sources.specs.Key.{Key}
use Rattle.gitconf_state.specs.Printing.{printed_kept}
use Rattle.gitconf_state.specs.State.{State, is_comment, is_entry}
use Rattle.gixcfg_commands.specs.Emptied.{emptied, is_kept, text_of_rest}

-- an entry or a comment is there if it is stored
pub kept_among : (buffer : List ℕ) (items : List Item) → list_any is_kept items ≡ list_any (λ i. is_entry i || is_comment i) (items_of buffer items)
kept_among buffer [] = refl
kept_among buffer (Blanks run ∷ items) = kept_among buffer items
kept_among buffer (LineEnds run ∷ items) = kept_among buffer items
kept_among buffer (Comment tag text ∷ items) = refl
kept_among buffer (Entry e ∷ items) = refl

-- the text is that without the numbers of a list, if what is asked has those
pub kept_alike : (gone : List ℕ) (has : ℕ → Bool) (file : State) → ((q : ℕ) → has q ≡ list_any (λ n. q == n) gone)
    → printed_kept (λ s. not (has s.number)) file ≡ printed_kept (λ s. not (list_any (λ n. s.number == n) gone)) file
kept_alike gone has file same = λ i. printed_kept (λ s. not (same s.number i)) file

-- the bytes are those of the text without the sections that are left with nothing
pub rest_made : (key : Key) (file : State) (losses seen all : List Bool) (gone text bytes : List ℕ) → seen ≡ losses → losses ≡ all → gone ≡ emptied key seen file
    → text ≡ printed_kept (λ s. not (list_any (λ n. s.number == n) gone)) file → bytes ≡ text → bytes ≡ text_of_rest key all file
rest_made key file losses seen all gone text bytes shown are goes is told =
    told ∙ (is ∙ ap (λ (numbers : List ℕ). printed_kept (λ s. not (list_any (λ n. s.number == n) numbers)) file) (goes ∙ ap (λ (ls : List Bool). emptied key ls file) (shown ∙ are)))
