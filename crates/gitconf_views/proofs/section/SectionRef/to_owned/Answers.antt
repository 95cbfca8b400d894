use Rattle.std.proofs.Common.{◌≡◌, length, ap, arith}
use Rattle.gitconf_views.specs.Alone.{section_size}
use Rattle.gitconf_views.specs.Views.{shown}
use Rattle.gitconf_views.proofs.section.SectionRef.to_owned.Goals as goal

pub returns : goal.returns
returns c =
    let none : length c.new-buffer.result.items ≡ 0 = ap length c.new-buffer.ensures.items in
    let count : length c.owned_section.new.to.items ≡ section_size (shown c.args.self.now) = omega (arith, none, c.in_ok-section.ensures.put) in
    λ i. record { section = c.in_ok-section.ensures.same c.args.self.now.id i; used = count i }
