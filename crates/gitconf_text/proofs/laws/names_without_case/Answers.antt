use Rattle.std.proofs.Common.{◌∙◌, ap}
use Rattle.std.specs.Cmp.Lexicographic.{bytes_decides, nat_list_cmp_total, slice_cmp, texts_ties}
use Rattle.std.specs.Ordering.{is_eq, nat_cmp}
use Rattle.std.proofs.lemmas.Cmp.{tied_itself}
use Rattle.gitconf_text.specs.Bytes.{fold}
use Rattle.gitconf_text.proofs.laws.names_without_case.Goals as goal

pub returns-clause-order : goal.returns-clause-order
returns-clause-order c = λ a b. (
  λ e. (bytes_decides (fold a) (fold b)).0 (texts_ties (fold a) (fold b) ∙ ap is_eq e),
  λ e. ap (λ bytes. slice_cmp nat_cmp bytes (fold b)) e ∙ tied_itself nat_list_cmp_total (fold b),
)
