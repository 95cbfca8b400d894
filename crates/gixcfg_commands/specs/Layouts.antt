-- The layout that `fmt` is asked for.
-- Source: this project's manual page, `fmt`.
use Rattle.std.specs.Prelude.{Option, Some, None}
use Rattle.gitconf_layout.specs.Layout.{default_options}
use Rattle.gitconf_layout.specs.declared.format.Indent.{Indent}
use Rattle.gitconf_layout.specs.declared.format.Indent.TheVariants as indents
use Rattle.gitconf_layout.specs.declared.format.Newline.{Newline}
use Rattle.gitconf_layout.specs.declared.format.Newline.TheVariants as newlines
use Rattle.gitconf_layout.specs.declared.format.Options.{Options}
use Rattle.gixcfg_words.specs.declared.command.Fmt.{Fmt}
use Rattle.gixcfg_words.specs.declared.command.Indent.{Indent as AskedIndent}
use Rattle.gixcfg_words.specs.declared.command.Indent.TheVariants.{Tabs, Spaces}
use Rattle.gixcfg_words.specs.declared.command.Newline.{Newline as AskedNewline}
use Rattle.gixcfg_words.specs.declared.command.Newline.TheVariants.{Lf, CrLf, Detect}

-- what comes before a name: what is asked for, else a tab
abbrev pub indent_asked : Option AskedIndent → Indent
indent_asked None = indents.Tabs 1
indent_asked (Some (Tabs count)) = indents.Tabs count
indent_asked (Some (Spaces count)) = indents.Spaces count

-- what lines end with: what is asked for, else what the text has
abbrev pub newline_asked : Option AskedNewline → Newline
newline_asked None = newlines.Detect
newline_asked (Some Detect) = newlines.Detect
newline_asked (Some Lf) = newlines.Lf
newline_asked (Some CrLf) = newlines.CrLf

-- the default layout but for these two
abbrev pub layout_asked : Fmt → Options
layout_asked fmt = record default_options { key_value_indent = indent_asked fmt.indent; newline = newline_asked fmt.newline }
