-- How a text is laid out, as a program in C says it.
use Rattle.std.specs.Prelude.{ℕ, Bool, if◌then◌else◌, Option, Some, None}
use Rattle.gix_config_c.specs.declared.layout.Layout.{Layout}
use Rattle.gitconf_layout.specs.declared.format.Indent.{Indent}
use Rattle.gitconf_layout.specs.declared.format.Indent.TheVariants.{Spaces, Tabs}
use Rattle.gitconf_layout.specs.declared.format.Newline.{Newline}
use Rattle.gitconf_layout.specs.declared.format.Newline.TheVariants.{CrLf, Detect, Lf}
use Rattle.gitconf_layout.specs.declared.format.Options.{Options}

-- as many tabs, or spaces
abbrev pub indent_of : (has_tabs : Bool) → (count : ℕ) → Indent
indent_of has_tabs count = if has_tabs then Tabs count else Spaces count

-- the line ending of the text, or one of the two
abbrev pub newline_of : (detects is_crlf : Bool) → Newline
newline_of detects is_crlf = if detects then Detect else if is_crlf then CrLf else Lf

-- the limit, if there is one
abbrev pub limit_of : (limits : Bool) → (count : ℕ) → Option ℕ
limit_of limits count = if limits then Some count else None

-- the options that are said
abbrev pub options_of : Layout → Options
options_of l = record {
  root_comment_indent = if l.keeps_root_blanks then None else Some (indent_of l.has_root_tabs l.root_indent);
  key_value_indent = indent_of l.has_tabs l.indent;
  spaces_around_separator = l.spaces_around_separator;
  newline = newline_of l.detects_newline l.is_crlf;
  ensure_trailing_newline = l.ensures_trailing_newline;
  max_leading_blank_lines = limit_of l.limits_leading_blank_lines l.max_leading_blank_lines;
  max_consecutive_blank_lines = limit_of l.limits_blank_lines l.max_blank_lines;
}
