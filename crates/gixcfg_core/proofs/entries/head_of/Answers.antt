use Rattle.std.proofs.Common.{◌≡◌, ◌++◌, ◌∙◌, [], ap, drop, length, rules, sym, take}
use Rattle.std.proofs.Math.Seq.{drop-append_seam, take-append_seam}
use Rattle.std.specs.Prelude.{if◌then◌else◌, not}
use Rattle.gitconf_items.specs.Events.{header_of}
use Rattle.gitconf_text.specs.Header.{name_of, subsection_of}
use Rattle.gixcfg_core.specs.CStrings.{c_string, has_null}
use Rattle.gixcfg_core.specs.Entries.{names_part, section_names}
use Rattle.gixcfg_core.proofs.CStringLemmas.{names_behind}
use Rattle.gixcfg_core.proofs.entries.head_of.Goals as goal

pub returns : goal.returns
returns c = λ name.
    let header = header_of c.args.section.now.buffer.now c.args.section.now.header.now in
    let names = section_names (name_of header) (subsection_of header) in
    let before = c.args.before.now in
    let added : c.add_section_names.new.text.items ≡ before ++ names = search rules in
    let part : names_part c.args.line.now (names ++ name) ≡ c_string (names ++ name) = search rules in
    let had = c.end_at_null-has_name.ensures.had ∙ ap (λ t. has_null (drop (length before) t)) added ∙ ap has_null (drop-append_seam before names) in
    let ended = c.end_at_null-has_name.ensures.ended ∙ ap (λ t. take (length before) t ++ c_string (drop (length before) t)) added
    ∙ ap (λ t. t ++ c_string (drop (length before) (before ++ names))) (take-append_seam before names) ∙ ap (λ t. before ++ c_string t) (drop-append_seam before names) in
    ap (λ t. t ++ (if not c.end_at_null-has_name.result then c_string name else [])) ended
    ∙ names_behind before names name c.end_at_null-has_name.result had ∙ ap (λ t. before ++ t) (sym part)
