use Rattle.std.proofs.Common.{rules, ◌≡◌, ◌+◌, ◌∷◌, ◌++◌, [], true, Ok, Some, None, length, refl, ap, sym, subst, ◌∙◌, arith}
use Rattle.std.specs.Option.{option_copied}
use Rattle.std.proofs.lemmas.List.{length-map}
use Rattle.gitconf_text.specs.Names.{is_made_name, is_valid_or_none}
use Rattle.gitconf_text.specs.Sections.{place_of}
use Rattle.gitconf_sections.proofs.SectionLemmas.{number_at-place}
use Rattle.gitconf_state.specs.Edit.{header_bytes, with_used}
use Rattle.gitconf_state.specs.Edits.{Rename, apply, numbered, renamed}
use Rattle.gitconf_state.specs.State.{State}
use Rattle.gitconf_body.specs.Done.{IsRefusedFor, first_cause, room_causes, header_causes, heading_causes}
use Rattle.gitconf_body.specs.Refusals.{header_refusal}
use Rattle.gitconf_views.specs.Store.{section_state}
use Rattle.gitconf_store.specs.Edited.{put_bytes}
use Rattle.gitconf_store.proofs.Edits.Numbered.{edited_stands, sections_keep_numbers}
use Rattle.gitconf_store.proofs.Headers.Renamed.{bytes_there, renamed_nowhere}
use Rattle.gitconf_store.proofs.Headers.Renaming.{is_numbered, marks_of, numbered_renamed, one_is, one_place, unnumbered, unnumbered_stays}
use Rattle.gitconf_store.proofs.store.Store.rename.Goals as goal

pub returns-in_default-clause-done : goal.returns-in_default-clause-done
returns-in_default-clause-done c =
    let inside = c.self.inside in
    let none : place_of c.args.id inside.sections ≡ None = search rules in
    let no : numbered c.args.id c.args.self.now ≡ None = unnumbered inside.buffer.items inside.front.items inside.meta.value inside.sections c.args.self.now c.args.id none c.self.view_is in
    let named : is_made_name c.args.name.now ≡ true = search rules in
    let valid : is_valid_or_none (option_copied c.args.subsection_name) ≡ true = search rules in
    renamed_nowhere c.args.id c.args.name.now (option_copied c.args.subsection_name) c.args.self.now (rw (← c.self.view_is) c.self.invariant.room) no
    (unnumbered_stays inside.buffer.items inside.front.items inside.meta.value inside.sections c.args.self.now c.args.id (renamed c.args.name.now (option_copied c.args.subsection_name)) none c.self.view_is)
    named valid

pub put_header-requires-clause-marks : goal.put_header-requires-clause-marks
put_header-requires-clause-marks c =
    let inside = c.self.inside in
    let at = c.in-Some.at in
    let count : length c.args.self.now.sections ≡ length inside.sections.entries = ap (λ (s : State). length s.sections) (sym c.self.view_is) ∙ length-map inside.sections.entries (section_state inside.buffer.items) in
    let first : at ≡ 0 + at = omega arith in (
      marks_of at,
      (λ i. first i ∷ []) ∙ one_place 0 at,
      one_is at c.args.self.now.sections (let w = c.in-Some.ensures.within in omega (arith, w, count)),
    )

pub returns-in_err-put_header-clause-done : goal.returns-in_err-put_header-clause-done
returns-in_err-put_header-clause-done c =
    let inside = c.self.inside in
    let place : place_of c.args.id inside.sections ≡ Some c.in-Some.at = search rules in
    let there : numbered c.args.id c.args.self.now ≡ None → ⊥ =
    is_numbered inside.buffer.items inside.front.items inside.meta.value inside.sections c.args.self.now c.args.id c.in-Some.at (number_at-place c.args.id inside.sections c.in-Some.at place) c.self.view_is in
    let told : IsRefusedFor header_refusal (first_cause (heading_causes c.args.name.now (option_copied c.args.subsection_name) c.args.self.now.used)) c.from_residual-in_err-put_header.result = search rules in
    record {
      ok = search rules;
      err = search rules;
      told = subst (λ n. IsRefusedFor header_refusal (first_cause (header_causes true c.args.name.now (option_copied c.args.subsection_name) ++ room_causes c.args.self.now.used n)) c.from_residual-in_err-put_header.result)
          (sym (bytes_there c.args.id (header_bytes c.args.name.now (option_copied c.args.subsection_name)) c.args.self.now there)) told;
    }

pub returns-clause-done : goal.returns-clause-done
returns-clause-done c =
    let inside = c.self.inside in
    let at = c.in-Some.at in
    let name = c.args.name.now in
    let subsection = option_copied c.args.subsection_name in
    let old = c.args.self.now in
    let place : place_of c.args.id inside.sections ≡ Some at = search rules in
    let first : at ≡ 0 + at = omega arith in
    let there : numbered c.args.id old ≡ None → ⊥ =
    is_numbered inside.buffer.items inside.front.items inside.meta.value inside.sections old c.args.id at (number_at-place c.args.id inside.sections at place) c.self.view_is in
    let is : c.put_header.new.self ≡ with_used c.put_header.new.self.used (apply (Rename c.args.id name subsection) old) =
    c.in_ok-put_header.ensures.ok (marks_of at) ((λ i. first i ∷ []) ∙ one_place 0 at)
    ∙ ap (with_used c.put_header.new.self.used) (numbered_renamed inside.buffer.items inside.front.items inside.meta.value inside.sections old c.args.id at name subsection
    c.position.ensures.numbered.once (number_at-place c.args.id inside.sections at place) c.self.view_is) in
    let put : c.put_header.new.self.used ≡ old.used + header_bytes name subsection = search rules in
    let told : IsRefusedFor header_refusal (first_cause (heading_causes name subsection old.used)) (Ok (tt {0})) = search rules in
    let bytes = bytes_there c.args.id (header_bytes name subsection) old there in
    record {
      ok = is ∙ ap (λ n. with_used n (apply (Rename c.args.id name subsection) old)) (put ∙ ap (λ n. old.used + n) (sym bytes));
      err = tt;
      told = subst (λ n. IsRefusedFor header_refusal (first_cause (header_causes true name subsection ++ room_causes old.used n)) (Ok (tt {0}))) (sym bytes) told;
    }

pub returns-in_default-clause-stands : goal.returns-in_default-clause-stands
returns-in_default-clause-stands c = λ stands. stands

pub returns-clause-stands : goal.returns-clause-stands
returns-clause-stands c =
    edited_stands header_refusal (Rename c.args.id c.args.name.now (option_copied c.args.subsection_name)) _ c.args.self.now c.put_header.new.self c.args.id
    (sections_keep_numbers c.args.id c.args.id (renamed c.args.name.now (option_copied c.args.subsection_name)) (λ s. refl) c.args.self.now) (returns-clause-done c)
