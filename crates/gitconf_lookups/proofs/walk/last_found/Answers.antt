use Rattle.std.proofs.Common.{rules, ◌≡◌, true, false, [], ◌∷◌, Some, None, refl, sym, ap, ◌∙◌}
use Rattle.std.specs.Option.{option_map}
use Rattle.gitconf_text.specs.Document.{document_entry}
use Rattle.gitconf_items.specs.Items.{entry_of}
use Rattle.gitconf_lookups.specs.Finding.{deciding_entry}
use Rattle.gitconf_views.specs.Views.{shown}
use Rattle.gitconf_lookups.specs.Walks.{named_left}
use Rattle.gitconf_lookups.proofs.SomeSections.{none_of}
use Rattle.gitconf_lookups.proofs.Walking.{behind_last, decides, last_of, skipped, undecided}
use Rattle.gitconf_lookups.proofs.walk.last_found.Goals as goal

pub returns-in-Some-deciding_entry-clause-exact : goal.returns-in-Some-deciding_entry-clause-exact
returns-in-Some-deciding_entry-clause-exact g c = λ keeps h.
    let section = c.in-Some.section in
    let s = shown section in
    let e = document_entry (entry_of section.buffer.now c.in-Some-deciding_entry.entry.now) in
    let told = c.loop-section.invariant.told keeps h in
    let passed = (c.passes.ensures.exact keeps told.0).1 in
    let kept : keeps s.meta ≡ true = search rules in
    let gives : deciding_entry c.args.deciding c.args.key.now s ≡ Some e =
    sym c.deciding_entry.ensures ∙ ap (λ o. option_map (λ a. document_entry (entry_of section.buffer.now a.now)) o) c.in-Some-deciding_entry.is in
    sym (told.1 ∙ decides c.args.deciding c.args.key.now keeps (named_left c.loop-section.left) (named_left c.next_back.new.self) s e c.in-Some.ensures.steps kept gives)

pub returns-in-Some-deciding_entry-clause-some : goal.returns-in-Some-deciding_entry-clause-some
returns-in-Some-deciding_entry-clause-some g c =
    let section = c.in-Some.section in
    let s = shown section in
    let e = document_entry (entry_of section.buffer.now c.in-Some-deciding_entry.entry.now) in
    let all = named_left c.args.sections in
    let left = named_left c.loop-section.left in
    let next = named_left c.next_back.new.self in
    let gives : deciding_entry c.args.deciding c.args.key.now s ≡ Some e =
    sym c.deciding_entry.ensures ∙ ap (λ o. option_map (λ a. document_entry (entry_of section.buffer.now a.now)) o) c.in-Some-deciding_entry.is in (
      s ∷ [],
      last_of all left next s c.in-Some.ensures.steps c.loop-section.invariant.behind,
      sym (decides c.args.deciding c.args.key.now (λ _. true) (s ∷ []) [] s e refl refl gives),
    )

pub returns-clause-some : goal.returns-clause-some
returns-clause-some g c = ([], none_of (named_left c.args.sections), refl)

pub loop-section-preserved : goal.loop-section-preserved
loop-section-preserved g c = record {
  callable = c.passes.ensures.callable;
  behind = behind_last (named_left c.args.sections) (named_left c.loop-section.left) (named_left c.next_back.new.self) (shown c.in-Some.section) c.in-Some.ensures.steps c.loop-section.invariant.behind;
  told = λ keeps h.
      let s = shown c.in-Some.section in
      let told = c.loop-section.invariant.told keeps h in
      let passed = c.passes.ensures.exact keeps told.0 in
      let same = passed.1 in
      let passes : keeps s.meta ≡ false = search rules in (
        passed.0,
        told.1 ∙ skipped c.args.deciding c.args.key.now keeps (named_left c.loop-section.left) (named_left c.next_back.new.self) s c.in-Some.ensures.steps passes,
      );
}

pub loop-section-preserved-in_default-deciding_entry : goal.loop-section-preserved-in_default-deciding_entry
loop-section-preserved-in_default-deciding_entry g c = record {
  callable = c.passes.ensures.callable;
  behind = behind_last (named_left c.args.sections) (named_left c.loop-section.left) (named_left c.next_back.new.self) (shown c.in-Some.section) c.in-Some.ensures.steps c.loop-section.invariant.behind;
  told = λ keeps h.
      let section = c.in-Some.section in
      let s = shown section in
      let told = c.loop-section.invariant.told keeps h in
      let passed = c.passes.ensures.exact keeps told.0 in
      let same = passed.1 in
      let kept : keeps s.meta ≡ true = search rules in
      let none : c.deciding_entry.result ≡ None = search rules in
      let gives : deciding_entry c.args.deciding c.args.key.now s ≡ None =
      sym c.deciding_entry.ensures ∙ ap (λ o. option_map (λ a. document_entry (entry_of section.buffer.now a.now)) o) none in (
        passed.0,
        told.1 ∙ undecided c.args.deciding c.args.key.now keeps (named_left c.loop-section.left) (named_left c.next_back.new.self) s c.in-Some.ensures.steps kept gives,
      );
}
