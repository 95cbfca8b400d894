use Rattle.std.proofs.Common.{◌∙◌, sym}
use Rattle.gitconf_text.proofs.ValuesPlain.{coded_by_backslash}
use Rattle.gitconf_text.proofs.value.decoding.has_coded_byte.Goals as goal

-- src/value/decoding.rt:47:1
pub returns-else-contains : goal.returns-else-contains
returns-else-contains c = c.contains-else-contains.ensures.value ∙ coded_by_backslash c.args.text.now (sym c.contains.ensures.value ∙ c.if-contains.false)
