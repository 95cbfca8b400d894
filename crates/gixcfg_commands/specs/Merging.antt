-- What `merge` is asked for.
use Rattle.gitconf_merge.specs.declared.favor.Favor.{Favor}
use Rattle.gitconf_merge.specs.declared.favor.Favor.TheVariants as favors
use Rattle.gixcfg_words.specs.declared.command.Favor as words
use Rattle.gixcfg_words.specs.declared.command.Favor.TheVariants as asked

-- the favor that the words ask for
abbrev pub favor_asked : words.Favor → Favor
favor_asked asked.Neither = favors.Neither
favor_asked asked.Ours = favors.Ours
favor_asked asked.Theirs = favors.Theirs
favor_asked asked.Union = favors.Union
