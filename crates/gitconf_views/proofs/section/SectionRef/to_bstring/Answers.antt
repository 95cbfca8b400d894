use Rattle.std.proofs.Common.{rules, ◌≡◌, refl}
use Rattle.bstr.specs.Owned.{bstring_bytes}
use Rattle.gitconf_state.specs.Printing.{printed_section}
use Rattle.gitconf_views.specs.Views.{shown}
use Rattle.gitconf_views.proofs.SectionReads.{section_text_reads}
use Rattle.gitconf_views.proofs.section.SectionRef.to_bstring.Goals as goal

pub returns-in-Ok-clause-reads : goal.returns-in-Ok-clause-reads
returns-in-Ok-clause-reads c = λ clean.
    let text : bstring_bytes c.new.result ≡ printed_section (shown c.args.self.now) = search rules in
    let viewed = c.args.self.now.viewed in
    section_text_reads (bstring_bytes c.new.result) (shown c.args.self.now) text (record { header = viewed.spelled; items = viewed.items; held = refl }) clean
