use Rattle.std.proofs.Common.{◌≡◌, ℕ, None, Ok, Some, ap, refl, rules, subst}
use Rattle.std.specs.Prelude.{codes}
use Rattle.bstr.specs.Owned.{bstring_bytes}
use Rattle.gitconf_body.specs.Refusals.{header_refusal, value_refusal}
use Rattle.gitconf_state.specs.Edit.{new_section}
use Rattle.gitconf_state.specs.Editors.{Editor, editor_of}
use Rattle.gitconf_state.specs.Edits.{Done, NewSection, Number, Push, SetValue}
use Rattle.gitconf_state.specs.Printing.{printed}
use Rattle.gix_config.specs.SectionEditors.{edited, editor, number_of, told}
use Rattle.gix_config_laws.specs.Programs.{section_made}
use Rattle.gix_config_laws.specs.Steps.{IsStep, raw}
use Rattle.gix_config_laws.proofs.CallSteps.{quiet_step}
use Rattle.gix_config_laws.proofs.NewEditors.{editor_made}
use Rattle.gix_config_laws.proofs.ReadsAfterLemmas.{reads_after, some_weaker}
use Rattle.gix_config_laws.proofs.ReadsBack.{is_editor_step, is_step}
use Rattle.gix_config_laws.proofs.programs.section_made.Goals as goal

pub returns : goal.returns
returns c =
    let loaded = c.in-Ok.file in
    let load = c.in-Ok.ensures.made in
    let section = c.in-Ok-new_section.section in
    let is = c.in-Ok-new_section.ensures in
    let name = codes "st" in
    let at = editor_of loaded (new_section (codes "alias") None loaded) in
    let made = is_editor_step edited (λ e. Number (number_of e)) header_refusal (NewSection (codes "alias") None) (Ok section) loaded (edited section)
    is.made (ap (λ (p : ℕ × Editor). Number p.0) is.editor) is.told refl tt in
    let pushed = subst (λ (p : ℕ × Editor). IsStep (Push p.0 p.1 name (Some (codes "status")) None) (λ _. Done) value_refusal c.push.result (edited section) (edited c.push.new.self))
    is.editor (quiet_step value_refusal (Push (number_of section) (editor section) name (Some (codes "status")) None) c.push.result (edited section) (edited c.push.new.self) refl c.push.ensures.done) in
    let same : told c.push.new.self ≡ (loaded.next, at) = search (rules, c.push.ensures.same_section, c.push.ensures.same_editor, is.editor) in
    let set = subst (λ (p : ℕ × Editor). IsStep (SetValue p.0 p.1 name (codes "status -s")) raw value_refusal c.set.result (edited c.push.new.self) (edited c.set.new.self))
    same (is_step raw value_refusal (SetValue (number_of c.push.new.self) (editor c.push.new.self) name (codes "status -s")) c.set.result (edited c.push.new.self) (edited c.set.new.self)
    c.set.ensures.answer c.set.ensures.done) in
    let is_editor = editor_made (codes "alias") None loaded in
    some_weaker c.written.result _ _ (λ written wrote. (
      made.0,
      pushed.0,
      set.0,
      reads_after c.args.text.now (section_made made.0 pushed.0 set.0) loaded (edited c.set.new.self) load.0 load.1 load.2
          (edited section, made.1, (edited c.push.new.self, pushed.1, (edited c.set.new.self, set.1, refl)))
          ((tt, refl), ((is_editor, refl), ((is_editor, refl), tt))) (bstring_bytes written)
          (let same_file : bstring_bytes written ≡ printed (edited c.set.new.self) = search (rules, wrote) in same_file),
    )) c.written.ensures
