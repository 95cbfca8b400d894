use Rattle.std.proofs.Common.{sym, subst}
use Rattle.gitconf_items.specs.Sink.{Writes}
use Rattle.gitconf_print.proofs.Printed.{printed_section-is}
use Rattle.gitconf_views.specs.Views.{shown}
use Rattle.gitconf_views.proofs.section.SectionRef.write_to.Goals as goal

pub returns-clause-written : goal.returns-clause-written
returns-clause-written g c =
    let s = shown c.args.self.now in
    subst (λ t. Writes c.write_section.result t (g.W.Sink.told c.args.out.now) (g.W.Sink.told c.write_section.new.out))
    (sym (printed_section-is s))
    c.write_section.ensures.written
