-- Tables in memory: entries under texts, one for each text, in the order of the texts.
use Rattle.std.specs.Prelude.{◌≡◌, ℕ, List, [], map, Result, Ok, Err, unwrap_or, string_bytes}
use Rattle.std.specs.Ordering.{nat_cmp}
use Rattle.std.specs.Cmp.Lexicographic.{slice_cmp}
use Rattle.std.specs.Str.{bytes_eq}
use Rattle.std.specs.Map.{lookup}
use Rattle.std.specs.BTreeMap.{insert_entry}
use Rattle.std.specs.declared.string.String.{String}
use Rattle.std.specs.declared.vec.Vec.{Vec}
use Rattle.std.specs.declared.alloc.Global.{Global}
use Rattle.gitconf_sources.specs.Reports.{FileReport, NoFile, IsFile, Unopened, Unread, VariableReport, NotSet, variable_report}
use Rattle.gitconf_sources.specs.declared.fault.FileFault.{FileFault}
use Rattle.gitconf_sources.specs.declared.fault.Stage.TheVariants.{Memory}
use Rattle.gitconf_sources.specs.declared.env.EnvVar.{EnvVar}
use Rattle.gitconf_sources.specs.declared.mem_files.MemFile.{MemFile}
use Rattle.gitconf_sources.specs.declared.mem_files.MemFile.TheVariants.{Bytes, OpenFault, ReadFault}

-- the entries as a list, each under the bytes of its text
abbrev pub reported_entries : {V W : Type 0} → (V → W) → List (String Global × V) → List (List ℕ × W)
reported_entries told entries = map (λ e. (string_bytes e.0, told e.1)) entries

-- the table with this entry in place of one with the same key, otherwise at its place in the order
abbrev pub with_entry : {W : Type 0} → (key : List ℕ) → W → List (List ℕ × W) → List (List ℕ × W)
with_entry key told entries = insert_entry (slice_cmp nat_cmp) entries key told

-- the entry of a key, or what holds for a key without one
abbrev pub entry_at : {W : Type 0} → W → List (List ℕ × W) → (key : List ℕ) → W
entry_at absent entries key = unwrap_or (lookup (bytes_eq key) entries) absent

-- what is known of a file in memory
abbrev pub file_report : MemFile → FileReport
file_report (Bytes bytes trust) = IsFile bytes.items trust
file_report (OpenFault not_found) = Unopened not_found
file_report ReadFault = Unread

-- the files of a tree as a list, each under the bytes of its path
abbrev pub file_entries : List (String Global × MemFile) → List (List ℕ × FileReport)
file_entries entries = reported_entries file_report entries

-- what is at a path
abbrev pub file_at : List (List ℕ × FileReport) → (path : List ℕ) → FileReport
file_at files path = entry_at NoFile files path

-- files by their paths, and how many faults were returned
pub record FileTable : Type 0 where
  pub files : List (List ℕ × FileReport)
  pub failures : ℕ

-- these files, and this many faults returned so far
abbrev pub file_table : List (List ℕ × FileReport) → ℕ → FileTable
file_table files failures = record { files = files; failures = failures }

-- no files, and no fault so far
abbrev pub no_files : FileTable
no_files = file_table [] 0

-- a copy of the bytes, or out of memory
abbrev pub IsCopyOf : {Z : Type 0} → Result (Vec ℕ Z) FileFault → (bytes : List ℕ) → Type 0
IsCopyOf (Ok copy) bytes = copy.items ≡ bytes
IsCopyOf (Err fault) bytes = fault.stage ≡ Memory

-- the variables of a tree as a list, each under the bytes of its name
abbrev pub variable_entries : List (String Global × EnvVar) → List (List ℕ × VariableReport)
variable_entries entries = reported_entries variable_report entries

-- what a name is set to
abbrev pub variable_at : List (List ℕ × VariableReport) → (name : List ℕ) → VariableReport
variable_at variables name = entry_at NotSet variables name
