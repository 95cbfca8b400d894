-- What help says.
use Rattle.std.specs.Prelude.{ℕ, List, Option, Some, None}
use Rattle.gixcfg_words.specs.declared.help.TheConstants.{OVERVIEW, GET, SET, UNSET, LIST, RENAME, REMOVE, FMT, CHECK, DIFF, EXPLAIN, MERGE, HELP, FORMS}
use Rattle.gixcfg_words.specs.declared.verbs.Verb.{Verb}
use Rattle.gixcfg_words.specs.declared.verbs.Verb.TheVariants.{Get, Set, Unset, List as TheList, RenameSection, RemoveSection, Fmt, Check, Diff, Explain, Merge, Help, Forms}

-- the help on a command, or on all
abbrev pub help_text : Option Verb → List ℕ
help_text None = OVERVIEW.now
help_text (Some Get) = GET.now
help_text (Some Set) = SET.now
help_text (Some Unset) = UNSET.now
help_text (Some TheList) = LIST.now
help_text (Some RenameSection) = RENAME.now
help_text (Some RemoveSection) = REMOVE.now
help_text (Some Fmt) = FMT.now
help_text (Some Check) = CHECK.now
help_text (Some Diff) = DIFF.now
help_text (Some Explain) = EXPLAIN.now
help_text (Some Merge) = MERGE.now
help_text (Some Help) = HELP.now
help_text (Some Forms) = FORMS.now
