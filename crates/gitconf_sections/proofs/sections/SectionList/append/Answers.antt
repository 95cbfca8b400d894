use Rattle.std.proofs.Common.{rules, ◌≡◌, ◌+◌, ◌++◌, length, ap, sym, subst, ◌∙◌, arith}
use Rattle.std.proofs.lemmas.List.{length-map}
use Rattle.gitconf_text.specs.Sections.{no_number}
use Rattle.gitconf_sections.specs.Rows.{moved_rows, numbers_in}
use Rattle.gitconf_sections.specs.Tables.{ArePlacedTo}
use Rattle.gitconf_sections.proofs.Adding.{joined_apart, joined_before, joined_kept, joined_within, rows_joined}
use Rattle.gitconf_sections.proofs.Listing.{listed_later}
use Rattle.gitconf_sections.proofs.RowLemmas.{full_words_shown, words_shown}
use Rattle.gitconf_sections.proofs.sections.SectionList.append.Goals as goal

pub change_words-requires-clause-names : goal.change_words-requires-clause-names
change_words-requires-clause-names c =
    let other = c.other.inside in
    c.other.invariant.table.names ∙ words_shown other.letters.items other.list.items other.seed other.rows.items

pub change_words-requires-clause-full : goal.change_words-requires-clause-full
change_words-requires-clause-full c =
    let other = c.other.inside in
    c.other.invariant.table.full ∙ full_words_shown other.letters.items other.list.items other.seed other.rows.items

pub put_rows-requires-clause-listed : goal.put_rows-requires-clause-listed
put_rows-requires-clause-listed c =
    let other = c.other.inside in
    listed_later 0 (length other.list.items) _ other.rows.items (omega (arith, c.in_ok-reserve_items.ensures.fits, c.len.ensures, c.len-3.ensures, other.list.ok)) c.other.invariant.listed

pub relocate-requires-clause-within : goal.relocate-requires-clause-within
relocate-requires-clause-within c =
    let old = c.self.inside in
    let other = c.other.inside in
    let letters : c.put_rows.new.letters.items ≡ old.letters.items ++ other.letters.items = c.put_rows.ensures.letters ∙ (λ j. c.reserve_all.ensures.items.1 j ++ c.deref.ensures.value j) in
    let list : c.append.new.self.items ≡ old.list.items ++ other.list.items = search rules in
    let by : c.len-3.result ≡ length old.list.items = omega (arith, c.len-3.ensures, c.reserve_items.new.list.ok, ap length c.reserve_items.ensures.items) in
    let put : c.put_rows.new.rows.items ≡ old.rows.items ++ moved_rows old.next (length old.letters.items) (length old.list.items) other.rows.items =
    c.put_rows.ensures.rows ∙ (λ j. c.reserve_all.ensures.items.0 j ++ moved_rows old.next (length (c.reserve_all.ensures.items.1 j)) (by j) other.rows.items) in
    let counted : c.len-count.result ≡ length other.rows.items = omega (arith, c.len-count.ensures, other.rows.ok) in
    let long : length c.reserve_all.new.places.items ≡ old.next + c.len-count.result = omega (arith, c.in_ok-reserve_all.ensures.placed, c.reserve_all.new.places.ok) in
    joined_within c.self.invariant c.other.invariant c.put_rows.new.letters.items c.append.new.self.items c.put_rows.new.rows.items letters list put c.len-count.result counted c.reserve_all.new.places.items long

pub relocate-requires-clause-once : goal.relocate-requires-clause-once
relocate-requires-clause-once c =
    let old = c.self.inside in
    let other = c.other.inside in
    let letters : c.put_rows.new.letters.items ≡ old.letters.items ++ other.letters.items = c.put_rows.ensures.letters ∙ (λ j. c.reserve_all.ensures.items.1 j ++ c.deref.ensures.value j) in
    let list : c.append.new.self.items ≡ old.list.items ++ other.list.items = search rules in
    let by : c.len-3.result ≡ length old.list.items = omega (arith, c.len-3.ensures, c.reserve_items.new.list.ok, ap length c.reserve_items.ensures.items) in
    let put : c.put_rows.new.rows.items ≡ old.rows.items ++ moved_rows old.next (length old.letters.items) (length old.list.items) other.rows.items =
    c.put_rows.ensures.rows ∙ (λ j. c.reserve_all.ensures.items.0 j ++ moved_rows old.next (length (c.reserve_all.ensures.items.1 j)) (by j) other.rows.items) in
    let counted : c.len-count.result ≡ length other.rows.items = omega (arith, c.len-count.ensures, other.rows.ok) in
    joined_apart c.self.invariant c.other.invariant c.put_rows.new.letters.items c.append.new.self.items c.put_rows.new.rows.items letters list put c.len-count.result counted

pub relocate-requires-clause-before : goal.relocate-requires-clause-before
relocate-requires-clause-before c =
    let old = c.self.inside in
    let other = c.other.inside in
    let letters : c.put_rows.new.letters.items ≡ old.letters.items ++ other.letters.items = c.put_rows.ensures.letters ∙ (λ j. c.reserve_all.ensures.items.1 j ++ c.deref.ensures.value j) in
    let list : c.append.new.self.items ≡ old.list.items ++ other.list.items = search rules in
    let by : c.len-3.result ≡ length old.list.items = omega (arith, c.len-3.ensures, c.reserve_items.new.list.ok, ap length c.reserve_items.ensures.items) in
    let put : c.put_rows.new.rows.items ≡ old.rows.items ++ moved_rows old.next (length old.letters.items) (length old.list.items) other.rows.items =
    c.put_rows.ensures.rows ∙ (λ j. c.reserve_all.ensures.items.0 j ++ moved_rows old.next (length (c.reserve_all.ensures.items.1 j)) (by j) other.rows.items) in
    let counted : c.len-count.result ≡ length other.rows.items = omega (arith, c.len-count.ensures, other.rows.ok) in
    let rows = old.rows.items in
    let position : c.len-position.result ≡ length (numbers_in rows) = omega (arith, c.len-position.ensures, c.reserve_all.new.rows.ok, ap length c.reserve_all.ensures.items.0, length-map rows (λ r. r.id)) in
    let same = c.in_ok-reserve_all.ensures.kept (omega (arith, c.self.invariant.table.counted)) in
    subst (λ n. ArePlacedTo n (numbers_in c.put_rows.new.rows.items) c.reserve_all.new.places.items) (sym position)
    (joined_before c.self.invariant c.other.invariant c.put_rows.new.letters.items c.append.new.self.items c.put_rows.new.rows.items letters list put c.len-count.result counted c.reserve_all.new.places.items same)

pub invariant_of-self-2 : goal.invariant_of-self-2
invariant_of-self-2 c =
    let old = c.self.inside in
    let other = c.other.inside in
    let letters : c.put_rows.new.letters.items ≡ old.letters.items ++ other.letters.items = c.put_rows.ensures.letters ∙ (λ j. c.reserve_all.ensures.items.1 j ++ c.deref.ensures.value j) in
    let list : c.append.new.self.items ≡ old.list.items ++ other.list.items = search rules in
    let by : c.len-3.result ≡ length old.list.items = omega (arith, c.len-3.ensures, c.reserve_items.new.list.ok, ap length c.reserve_items.ensures.items) in
    let put : c.put_rows.new.rows.items ≡ old.rows.items ++ moved_rows old.next (length old.letters.items) (length old.list.items) other.rows.items =
    c.put_rows.ensures.rows ∙ (λ j. c.reserve_all.ensures.items.0 j ++ moved_rows old.next (length (c.reserve_all.ensures.items.1 j)) (by j) other.rows.items) in
    let counted : c.len-count.result ≡ length other.rows.items = omega (arith, c.len-count.ensures, other.rows.ok) in
    let long : length c.reserve_all.new.places.items ≡ old.next + c.len-count.result = omega (arith, c.in_ok-reserve_all.ensures.placed, c.reserve_all.new.places.ok) in
    let left : c.numbers_left.result + old.next ≡ no_number = rw (← c.self.view_is) at c.numbers_left.ensures in
    joined_kept c.self.invariant c.other.invariant c.put_rows.new.letters.items c.append.new.self.items c.put_rows.new.rows.items letters list put c.len-count.result counted
    (omega (arith, left, c.if-numbers_left-count.false)) c.relocate.new.places.items c.append-2.new.self.words c.append-3.new.self.words (c.relocate.ensures.len ∙ long) c.relocate.ensures.placed
    (c.append-2.ensures ∙ (λ j. c.reserve_all.ensures.words.0 j ++ c.change_words.ensures.names j))
    (c.append-3.ensures ∙ (λ j. c.reserve_all.ensures.words.1 j ++ c.change_words.ensures.full j))

pub returns-clause-ok : goal.returns-clause-ok
returns-clause-ok c =
    let old = c.self.inside in
    let other = c.other.inside in
    let letters : c.put_rows.new.letters.items ≡ old.letters.items ++ other.letters.items = c.put_rows.ensures.letters ∙ (λ j. c.reserve_all.ensures.items.1 j ++ c.deref.ensures.value j) in
    let list : c.append.new.self.items ≡ old.list.items ++ other.list.items = search rules in
    let by : c.len-3.result ≡ length old.list.items = omega (arith, c.len-3.ensures, c.reserve_items.new.list.ok, ap length c.reserve_items.ensures.items) in
    let put : c.put_rows.new.rows.items ≡ old.rows.items ++ moved_rows old.next (length old.letters.items) (length old.list.items) other.rows.items =
    c.put_rows.ensures.rows ∙ (λ j. c.reserve_all.ensures.items.0 j ++ moved_rows old.next (length (c.reserve_all.ensures.items.1 j)) (by j) other.rows.items) in
    let counted : c.len-count.result ≡ length other.rows.items = omega (arith, c.len-count.ensures, other.rows.ok) in
    rw (← c.self.view_is, ← c.other.view_is) (rows_joined c.self.invariant c.other.invariant c.put_rows.new.letters.items c.append.new.self.items c.put_rows.new.rows.items letters list put c.len-count.result counted)
