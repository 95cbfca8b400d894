use Rattle.std.proofs.Common.{◌≡◌, ◌+◌, ◌∷◌, ◌++◌, drop, ap, sym, ◌∙◌, append_assoc, arith}
use Rattle.std.proofs.lemmas.List.{drop_more}
use Rattle.gitconf_diff.specs.PlainSettings.{plain_mentions}
use Rattle.gitconf_diff.specs.PlainSections.{plain_section, plain_sections, settings_in, settings_of_one}
use Rattle.gitconf_diff.proofs.sections.mentions_of.Goals as goal

pub loop-section-preserved : goal.loop-section-preserved
loop-section-preserved c =
    let k = c.loop-section.section-index in
    let rest = settings_in (plain_sections (drop (k + 1) c.args.sections.now)) in
    let opened : drop k c.args.sections.now ≡ c.section-item.result ∷ drop (k + 1) c.args.sections.now
    = drop_more c.args.sections.now k c.section-item.result (omega arith) ∙ (λ i. sym c.section-item.is i ∷ drop (k + 1) c.args.sections.now) in
    ap (λ ms. ms ++ rest) c.in_ok-add_mentions.ensures
    ∙ append_assoc (plain_mentions c.loop-section.mentions.items) (settings_of_one (plain_section c.section-item.result)) rest
    ∙ ap (λ ss. plain_mentions c.loop-section.mentions.items ++ settings_in (plain_sections ss)) (sym opened)
    ∙ c.loop-section.invariant
