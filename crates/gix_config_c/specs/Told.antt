-- What a program told of files.
use Rattle.std.specs.Prelude.{ℕ, Bool, false, List, Option, Some, None, is_some}
use Rattle.std.specs.Map.{lookup}
use Rattle.std.specs.Str.{bytes_eq}
use Rattle.gitconf_sources.specs.InMemory.{entry_at}
use Rattle.gitconf_sources.specs.Reports.{FileReport, IsFile, NoFile, Unopened, Unread}
use Rattle.gitconf_sources.specs.declared.source.Trust.TheVariants.{Full}
use Rattle.gix_config_c.specs.declared.told.Report.{Report}
use Rattle.gix_config_c.specs.declared.told.Report.TheVariants as reports

-- what is known of a file by what was told of it
abbrev pub report_of : Report → FileReport
report_of reports.Missing = NoFile
report_of (reports.Text text) = IsFile text.items Full
report_of reports.Unopened = Unopened false
report_of reports.Unread = Unread

-- what was told of paths
abbrev pub Tells : Type 0
Tells = List (List ℕ × FileReport)

-- what is at a path; one of which nothing was told can't be opened
abbrev pub told_at : Tells → (path : List ℕ) → FileReport
told_at told path = entry_at (Unopened false) told path

-- whether something was told of a path, or of a variable
abbrev pub is_told : {W : Type 0} → List (List ℕ × W) → (name : List ℕ) → Bool
is_told told name = is_some (lookup (bytes_eq name) told)

-- the text of a file, if there is one
abbrev pub text_told : FileReport → Option (List ℕ)
text_told (IsFile text trust) = Some text
text_told NoFile = None
text_told (Unopened not_found) = None
text_told Unread = None
