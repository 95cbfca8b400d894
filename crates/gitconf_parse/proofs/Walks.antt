-- A walk, part by part.
use Rattle.std.proofs.Common.{◌≡◌, ℕ, ◌+◌, ◌≤◌, ◌<◌, Bool, true, false, List, [], ◌∷◌, ◌++◌, length, drop, get_or, inr, refl, ap, sym, subst, ◌∙◌, append_assoc, append-nil}
use Rattle.std.specs.Prelude.{◌==◌, ◌&&◌, slice_index}
use Rattle.std.proofs.lemmas.Bool.{eqb-true}
use Rattle.std.proofs.lemmas.Grind.{flat_map-append}
use Rattle.gitconf_sources.specs.Key.{Key}
use Rattle.gitconf_text.specs.Document.{Reads, gathered, unmarked}
use Rattle.gitconf_text.specs.Names.{is_same_name}
use Rattle.gitconf_text.specs.Part.{Item, BlanksItem, LineEndsItem, CommentItem, EntryItem, Part, ItemPart}
use Rattle.gitconf_text.specs.Token.{item_tokens, part_tokens, tokens_of}
use Rattle.gitconf_items.specs.declared.items.Keep.TheVariants as keeps
use Rattle.gitconf_items.specs.Events.{bytes_of}
use Rattle.gitconf_items.proofs.Documents.{same_tokens}
use Rattle.gitconf_read.specs.declared.reading.Expected.{Expected}
use Rattle.gitconf_read.specs.declared.reading.ReadError.{ReadError}
use Rattle.gitconf_read.specs.declared.reading.part.Opening.{Opening}
use Rattle.gitconf_read.specs.declared.reading.part.Opening.TheVariants as openings
use Rattle.gitconf_read.specs.declared.reading.ReadError.TheVariants as errors
use Rattle.gitconf_read.specs.declared.reading.run.Run.TheVariants as runs
use Rattle.gitconf_read.specs.ItemReading.{IsReadTo, IsRefusal}
use Rattle.gitconf_read.specs.Reading.{entry_at, opening_of, part_at, run_end_at, span}
use Rattle.gitconf_read.specs.Stretches.{IsBreak, IsStretch}
use Rattle.gitconf_read.proofs.At.{byte_at}
use Rattle.gitconf_read.proofs.ItemReading.{blanks_read, comment_read, entry_part, line_ends_read, no_item_read}
use Rattle.gitconf_read.proofs.PartTakes.{IsOpening, opening_is}
use Rattle.gitconf_read.proofs.Runs.{cut_at}
use Rattle.gitconf_read.proofs.Stretches.{both_stretches, broken_behind, item_read, no_stretch, part_broken, whole_text}
use Rattle.gitconf_parse.specs.declared.lookup.entry.EntryPlace.{EntryPlace}
use Rattle.gitconf_parse.specs.declared.lookup.walk.Cursor.{Cursor}
use Rattle.gitconf_parse.specs.Met.{MetEntry, Standing, after_part, after_parts, is_met, met_at, met_in}
use Rattle.gitconf_parse.specs.Places.{IsEntryRead}
use Rattle.gitconf_parse.specs.Walk.{IsGap, IsWalk, met_of, standing}

pub met_both : (key : Key) (s : Standing) (ps qs : List Part) → met_in key s (ps ++ qs) ≡ met_in key s ps ++ met_in key (after_parts key s ps) qs
met_both key s [] qs = refl
met_both key s (p ∷ ps) qs =
    ap (λ t. met_at key s p ++ t) (met_both key (after_part key s p) ps qs)
    ∙ sym (append_assoc (met_at key s p) (met_in key (after_part key s p) ps) (met_in key (after_parts key (after_part key s p) ps) qs))

pub after_both : (key : Key) (s : Standing) (ps qs : List Part) → after_parts key s (ps ++ qs) ≡ after_parts key (after_parts key s ps) qs
after_both key s [] qs = refl
after_both key s (p ∷ ps) qs = after_both key (after_part key s p) ps qs

-- nothing was read yet
pub no_walk : (input : List ℕ) (key : Key) (c : Cursor) → IsWalk input key c c []
no_walk input key c = record { parts = []; stretch = no_stretch input c.at c.wanted; met_are = refl; stands = refl }

-- one walk after another
pub both_walks : (input : List ℕ) (key : Key) (a b c : Cursor) (some more : List MetEntry) → IsWalk input key a b some → IsWalk input key b c more → IsWalk input key a c (some ++ more)
both_walks input key a b c some more x y = record {
  parts = x.parts ++ y.parts;
  stretch = subst (λ t. IsStretch input a.at a.wanted c.at c.wanted t) (sym (flat_map-append part_tokens x.parts y.parts))
      (both_stretches input a.at b.at c.at a.wanted b.wanted c.wanted (tokens_of x.parts) (tokens_of y.parts) x.stretch y.stretch);
  met_are = met_both key (standing a) x.parts y.parts ∙ ap (λ s. met_in key (standing a) x.parts ++ met_in key s y.parts) x.stands
      ∙ ap (λ t. t ++ met_in key (standing b) y.parts) x.met_are ∙ ap (λ t. some ++ t) y.met_are;
  stands = after_both key (standing a) x.parts y.parts ∙ ap (λ s. after_parts key s y.parts) x.stands ∙ y.stands;
}

-- one part more
pub part_walk : (input : List ℕ) (key : Key) (a b c : Cursor) (some : List MetEntry) (p : Part) → IsWalk input key a b some → IsStretch input b.at b.wanted c.at c.wanted (part_tokens p)
    → after_part key (standing b) p ≡ standing c → IsWalk input key a c (some ++ met_at key (standing b) p)
part_walk input key a b c some p x stretch stands = both_walks input key a b c some (met_at key (standing b) p) x (record {
  parts = p ∷ [];
  stretch = subst (λ t. IsStretch input b.at b.wanted c.at c.wanted t) (sym (append-nil (part_tokens p))) stretch;
  met_are = append-nil (met_at key (standing b) p);
  stands = stands;
})

-- a part at which nothing is met
pub quiet_walk : (input : List ℕ) (key : Key) (a b c : Cursor) (p : Part) → IsWalk input key a b [] → IsStretch input b.at b.wanted c.at c.wanted (part_tokens p)
    → met_at key (standing b) p ≡ [] → after_part key (standing b) p ≡ standing c → IsWalk input key a c []
quiet_walk input key a b c p x stretch none stands = subst (IsWalk input key a c) none (part_walk input key a b c [] p x stretch stands)

-- no bracket is where anything but a header opens
bracket_opens : (input : List ℕ) (n : ℕ) → n < length input → get_or input n 0 ≡ 91 → opening_of (drop n input) ≡ openings.Header
bracket_opens input n within byte = rw (cut_at input n within, byte) refl

abbrev is_header : Opening → Bool
is_header openings.Header = true
is_header _ = false

pub no_bracket : (input : List ℕ) (n : ℕ) (opening : Opening) → n < length input → opening_of (drop n input) ≡ opening → is_header opening ≡ false → (get_or input n 0 == 91) ≡ false
no_bracket input n opening within opens other = go (get_or input n 0 == 91) refl
  where
    go : (t : Bool) → (get_or input n 0 == 91) ≡ t → t ≡ false
    go false e = refl
    go true e = let header = bracket_opens input n within (eqb-true (get_or input n 0) 91 e) in let wrong = ap is_header (sym header ∙ opens) ∙ other in absurd (cc)

-- an item that was read is a stretch
pub item_stretch : (input : List ℕ) (n : ℕ) (wanted : Expected) (end : ℕ) (i : Item) (opening : Opening) → n < length input → opening_of (drop n input) ≡ opening → is_header opening ≡ false
    → IsReadTo input (part_at input n wanted []) end (item_tokens i) → IsStretch input n wanted end wanted (part_tokens (ItemPart i))
item_stretch input n wanted end i opening within opens other r = item_read input n wanted end (item_tokens i) within (no_bracket input n opening within opens other) r

-- an entry, too
pub entry_stretch : (input : List ℕ) (n : ℕ) (wanted : Expected) (place : EntryPlace) → n < length input → opening_of (drop n input) ≡ openings.Entry → (r : IsEntryRead input n place)
    → IsStretch input n wanted place.end wanted (part_tokens (ItemPart (EntryItem r.entry)))
entry_stretch input n wanted place within opens r =
    item_stretch input n wanted place.end (EntryItem r.entry) openings.Entry within opens refl (rw (entry_part input n wanted opens) r.read)

-- Blanks, line endings and comments.
pub blanks_walk : (input : List ℕ) (key : Key) (a b : Cursor) (end : ℕ) → IsWalk input key a b [] → b.at < length input → opening_of (drop b.at input) ≡ openings.Blanks → end ≡ run_end_at input runs.Blanks (b.at + 1)
    → IsWalk input key a (record { at = end; wanted = b.wanted; meant = b.meant; anew = b.anew }) []
blanks_walk input key a b end x within opens end_is =
    quiet_walk input key a b (record { at = end; wanted = b.wanted; meant = b.meant; anew = b.anew }) (ItemPart (BlanksItem (bytes_of input (span b.at end)))) x
    (item_stretch input b.at b.wanted end (BlanksItem (bytes_of input (span b.at end))) openings.Blanks within opens refl (blanks_read input b.at b.wanted end opens end_is)) refl refl

pub line_ends_walk : (input : List ℕ) (key : Key) (a b : Cursor) (end : ℕ) → IsWalk input key a b [] → b.at < length input → opening_of (drop b.at input) ≡ openings.LineEnds → end ≡ run_end_at input runs.LineEnds (b.at + 1)
    → IsWalk input key a (record { at = end; wanted = b.wanted; meant = b.meant; anew = b.anew }) []
line_ends_walk input key a b end x within opens end_is =
    quiet_walk input key a b (record { at = end; wanted = b.wanted; meant = b.meant; anew = b.anew }) (ItemPart (LineEndsItem (bytes_of input (span b.at end)))) x
    (item_stretch input b.at b.wanted end (LineEndsItem (bytes_of input (span b.at end))) openings.LineEnds within opens refl (line_ends_read input b.at b.wanted end opens end_is)) refl refl

pub comment_walk : (input : List ℕ) (key : Key) (a b : Cursor) (end : ℕ) → IsWalk input key a b [] → b.at < length input → opening_of (drop b.at input) ≡ openings.Comment → end ≡ run_end_at input runs.CommentText (b.at + 1)
    → IsWalk input key a (record { at = end; wanted = b.wanted; meant = b.meant; anew = b.anew }) []
comment_walk input key a b end x within opens end_is =
    quiet_walk input key a b (record { at = end; wanted = b.wanted; meant = b.meant; anew = b.anew }) (ItemPart (CommentItem (slice_index input b.at) (bytes_of input (span (b.at + 1) end)))) x
    (item_stretch input b.at b.wanted end (CommentItem (slice_index input b.at) (bytes_of input (span (b.at + 1) end))) openings.Comment within opens refl (comment_read input b.at b.wanted end opens end_is)) refl refl

-- a bracket opens a header
pub header_byte : (input : List ℕ) (n : ℕ) → opening_of (drop n input) ≡ openings.Header → get_or input n 0 ≡ 91
header_byte input n opens = let bracket : (rest : List ℕ) × (drop n input ≡ 91 ∷ rest) = subst (λ k. IsOpening k (drop n input)) opens (opening_is (drop n input)) in byte_at input 91 bracket.0 n bracket.1

-- where an entry is refused, the text breaks
pub entry_broken : (input : List ℕ) (n : ℕ) (wanted : Expected) (e : ReadError) → n < length input → opening_of (drop n input) ≡ openings.Entry → IsRefusal (entry_at input n []) e → IsBreak input n wanted e
entry_broken input n wanted e within opens refused = part_broken input n wanted [] [] e within (rw (entry_part input n wanted opens) refused)

-- and where nothing may begin
pub nothing_broken : (input : List ℕ) (n : ℕ) (wanted : Expected) → n < length input → opening_of (drop n input) ≡ openings.Nothing → IsBreak input n wanted (errors.Fault (record { at = n; expected = wanted }))
nothing_broken input n wanted within opens =
    part_broken input n wanted [] [] (errors.Fault (record { at = n; expected = wanted })) within
    (no_item_read input n wanted openings.Nothing (no_bracket input n openings.Nothing within opens refl) (sym opens) (inr refl))

-- An entry of the key is met.
pub entry_met : (input : List ℕ) (key : Key) (a b : Cursor) (place : EntryPlace) → IsWalk input key a b [] → b.at < length input → opening_of (drop b.at input) ≡ openings.Entry
    → IsEntryRead input b.at place → (b.meant && is_same_name key.name (bytes_of input (span b.at place.name_end))) ≡ true
    → IsWalk input key a (record { at = place.end; wanted = b.wanted; meant = b.meant; anew = false }) (met_of input (record { anew = b.anew; value = place.value }) ∷ [])
entry_met input key a b place x within opens r named =
    let c : Cursor = record { at = place.end; wanted = b.wanted; meant = b.meant; anew = false } in
    let is : is_met key (standing b) r.entry ≡ true = ap (λ name. b.meant && is_same_name key.name name) r.name ∙ named in
    subst (IsWalk input key a c) (rw is (ap (λ raw. record { anew = b.anew; raw = raw } ∷ []) r.raw))
    (part_walk input key a b c [] (ItemPart (EntryItem r.entry)) x (entry_stretch input b.at b.wanted place within opens r) (rw is refl))

-- An entry is none of the key.
pub entry_passed : (input : List ℕ) (key : Key) (a b : Cursor) (place : EntryPlace) → IsWalk input key a b [] → b.at < length input → opening_of (drop b.at input) ≡ openings.Entry
    → IsEntryRead input b.at place → (b.meant && is_same_name key.name (bytes_of input (span b.at place.name_end))) ≡ false
    → IsWalk input key a (record { at = place.end; wanted = b.wanted; meant = b.meant; anew = b.anew }) []
entry_passed input key a b place x within opens r other =
    let c : Cursor = record { at = place.end; wanted = b.wanted; meant = b.meant; anew = b.anew } in
    let is : is_met key (standing b) r.entry ≡ false = ap (λ name. b.meant && is_same_name key.name name) r.name ∙ other in
    quiet_walk input key a b c (ItemPart (EntryItem r.entry)) x (entry_stretch input b.at b.wanted place within opens r) (rw is refl) (rw is refl)

-- where a walk comes before a break, it breaks there
pub broken_walk : (input : List ℕ) (key : Key) (a b : Cursor) (some : List MetEntry) (e : ReadError) → IsWalk input key a b some → IsBreak input b.at b.wanted e → IsBreak input a.at a.wanted e
broken_walk input key a b some e x broken = broken_behind input a.at b.at a.wanted b.wanted (tokens_of x.parts) e x.stretch broken

-- a gap behind a walk
pub gap_walk : (input : List ℕ) (key : Key) (a b : Cursor) (end : ℕ) (met : List MetEntry) → IsWalk input key a b met → IsGap input b.at b.wanted end
    → IsWalk input key a (record { at = end; wanted = b.wanted; meant = b.meant; anew = b.anew }) met
gap_walk input key a b end met x g =
    let c : Cursor = record { at = end; wanted = b.wanted; meant = b.meant; anew = b.anew } in
    subst (IsWalk input key a c) (append-nil met)
    (both_walks input key a b c met [] x (record { parts = g.parts; stretch = g.stretch; met_are = (g.quiet key (standing b)).0; stands = (g.quiet key (standing b)).1 }))

-- What a walk over a whole text meets is what its document has.
pub whole_walk : (input : List ℕ) (key : Key) (a b : Cursor) (met : List MetEntry) → drop a.at input ≡ unmarked input → length input ≤ b.at → IsWalk input key a b met
    → (parts : List Part) × Reads input (gathered parts) × (met_in key (standing a) parts ≡ met)
whole_walk input key a b met mark end x =
    let text = whole_text keeps.All input a.at a.wanted b.wanted b.at (tokens_of x.parts) mark end (record { tokens = tokens_of x.parts; stretch = x.stretch; kept_are = refl }) in
    (x.parts, (text.0, text.1, same_tokens x.parts text.0 text.2), x.met_are)
