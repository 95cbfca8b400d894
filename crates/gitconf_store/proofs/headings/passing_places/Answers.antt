use Rattle.std.proofs.Common.{rules, ◌≡◌, ◌&&◌, ℕ, Bool, true, false, [], ◌∷◌, ◌++◌, length, refl, ap, sym, append-nil, ◌∙◌}
use Rattle.std.specs.Option.{option_copied}
use Rattle.gitconf_text.specs.Sections.{SectionEntry, is_named}
use Rattle.gitconf_sections.specs.Walks.{named_left}
use Rattle.gitconf_sections.specs.Section.{Section, viewed}
use Rattle.gitconf_store.proofs.Places.PassingPlaces.{begun, both_pass, first_fails, none_told, pass_by, passes_any, place_found, put_by, reached, second_fails, told_by, told_put}
use Rattle.gitconf_store.proofs.headings.passing_places.Goals as goal

pub loop-found-init : goal.loop-found-init
loop-found-init g c =
    let named : SectionEntry Section → Bool = is_named c.args.name.now (option_copied c.args.subsection) in
    let es = c.args.table.now.entries in (
      [],
      es,
      record {
        callable = c.requires;
        left = c.named-left.ensures.left;
        so_far = rw c.new-places.ensures.items (begun named es);
        told = λ keeps h. (h, rw c.new-places.ensures.items refl);
      },
    )

pub loop-found-preserved-in-Continue-1 : goal.loop-found-preserved-in-Continue-1
loop-found-preserved-in-Continue-1 g c =
    let named : SectionEntry Section → Bool = is_named c.args.name.now (option_copied c.args.subsection) in
    let es = c.args.table.now.entries in
    let inv = c.loop-found.invariant.2 in
    let places = c.loop-found.places.items in
    let it : ℕ × Section = (c.in-Some.found.0, viewed c.in-Some.found.1) in
    let is : named_left c.loop-found.left ≡ it ∷ named_left c.next.new.self = search rules in
    let r = reached named es c.loop-found.invariant.0 c.loop-found.invariant.1 places it.0 it.1 (named_left c.next.new.self) inv.so_far (sym inv.left ∙ is) in
    let place = place_found c.args.table.now named r.before r.later r.found places it.0 c.put_place.ensures.numbered r.number r.so_far in
    let put : c.put_place.new.places.items ≡ places ++ length r.before ∷ [] = rw place at c.in_ok-put_place.ensures.ok in (
      r.before ++ r.found ∷ [],
      r.later,
      record {
        callable = c.passes.ensures.callable;
        left = sym r.left;
        so_far = put_by named es r.before r.later r.found places c.put_place.new.places.items r.has put r.so_far;
        told = λ keeps h.
            let told = inv.told keeps h in
            let passed = c.passes.ensures.exact keeps told.0 in
            let same = passed.1 in
            let kept : keeps it.1.meta.value ≡ true = search rules in
            let test : SectionEntry Section → Bool = λ e. named e && keeps e.section.meta.value in
            let passes : test r.found ≡ true = both_pass (named r.found) (keeps r.found.section.meta.value) r.has (ap (λ (s : Section). keeps s.meta.value) r.holds ∙ kept) in (
              passed.0,
              told_put named es r.before r.later r.found places c.put_place.new.places.items test passes put
                  ∙ ap (λ ms. places ++ ms) (sym (r.moved test (λ x n. first_fails (named x) (keeps x.section.meta.value) n)))
                  ∙ told.1,
            );
      },
    )

pub returns-in_err-put_place-clause-refused : goal.returns-in_err-put_place-clause-refused
returns-in_err-put_place-clause-refused g c = λ keeps h.
    let named : SectionEntry Section → Bool = is_named c.args.name.now (option_copied c.args.subsection) in
    let es = c.args.table.now.entries in
    let inv = c.loop-found.invariant.2 in
    let places = c.loop-found.places.items in
    let it : ℕ × Section = (c.in-Some.found.0, viewed c.in-Some.found.1) in
    let is : named_left c.loop-found.left ≡ it ∷ named_left c.next.new.self = search rules in
    let r = reached named es c.loop-found.invariant.0 c.loop-found.invariant.1 places it.0 it.1 (named_left c.next.new.self) inv.so_far (sym inv.left ∙ is) in
    let told = inv.told keeps h in
    let same = (c.passes.ensures.exact keeps told.0).1 in
    let kept : keeps it.1.meta.value ≡ true = search rules in
    let test : SectionEntry Section → Bool = λ e. named e && keeps e.section.meta.value in
    let passes : test r.found ≡ true = both_pass (named r.found) (keeps r.found.section.meta.value) r.has (ap (λ (s : Section). keeps s.meta.value) r.holds ∙ kept) in
    Rattle.gitconf_body.proofs.Outcomes.if_err_at_all c.from_residual.result (passes_any named es r.before r.later r.found places test passes r.so_far)

pub loop-found-preserved : goal.loop-found-preserved
loop-found-preserved g c =
    let named : SectionEntry Section → Bool = is_named c.args.name.now (option_copied c.args.subsection) in
    let es = c.args.table.now.entries in
    let inv = c.loop-found.invariant.2 in
    let places = c.loop-found.places.items in
    let it : ℕ × Section = (c.in-Some.found.0, viewed c.in-Some.found.1) in
    let is : named_left c.loop-found.left ≡ it ∷ named_left c.next.new.self = search rules in
    let r = reached named es c.loop-found.invariant.0 c.loop-found.invariant.1 places it.0 it.1 (named_left c.next.new.self) inv.so_far (sym inv.left ∙ is) in (
      r.before ++ r.found ∷ [],
      r.later,
      record {
        callable = c.passes.ensures.callable;
        left = sym r.left;
        so_far = pass_by named es r.before r.later r.found places r.so_far;
        told = λ keeps h.
            let told = inv.told keeps h in
            let passed = c.passes.ensures.exact keeps told.0 in
            let same = passed.1 in
            let skipped : keeps it.1.meta.value ≡ false = search rules in
            let test : SectionEntry Section → Bool = λ e. named e && keeps e.section.meta.value in
            let fails : test r.found ≡ false = second_fails (named r.found) (keeps r.found.section.meta.value) (ap (λ (s : Section). keeps s.meta.value) r.holds ∙ skipped) in (
              passed.0,
              told_by named es r.before r.later r.found places test fails
                  ∙ ap (λ ms. places ++ ms) (sym (r.moved test (λ x n. first_fails (named x) (keeps x.section.meta.value) n)))
                  ∙ told.1,
            );
      },
    )

pub returns-clause-some : goal.returns-clause-some
returns-clause-some g c =
    let h = c.loop-found.invariant.2.so_far.marks [] tt in
    (h.0, sym (append-nil c.loop-found.places.items) ∙ h.1, h.2)

pub returns-clause-exact : goal.returns-clause-exact
returns-clause-exact g c = λ keeps h.
    let named : SectionEntry Section → Bool = is_named c.args.name.now (option_copied c.args.subsection) in
    let inv = c.loop-found.invariant.2 in
    let places = c.loop-found.places.items in
    let end : named_left c.loop-found.left ≡ [] = search rules in
    let test : SectionEntry Section → Bool = λ e. named e && keeps e.section.meta.value in
    let none = none_told named c.args.table.now.entries c.loop-found.invariant.1 (length c.loop-found.invariant.0) test (λ x n. first_fails (named x) (keeps x.section.meta.value) n) (sym inv.left ∙ end) in
    sym (append-nil places) ∙ ap (λ ms. places ++ ms) (sym none) ∙ (inv.told keeps h).1
