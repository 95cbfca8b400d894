-- Which trouble another fault is, and the exit status of each.
use Rattle.std.specs.Prelude.{◌≡◌, ◌≤◌, ◌⊎◌, ◌==◌, ◌&&◌, ltb, if◌then◌else◌, ℕ}
use Rattle.gixcfg_files.specs.declared.fault.Fault.{Fault}
use Rattle.gixcfg_files.specs.declared.fault.Fault.TheVariants as files
use Rattle.gixcfg_core.specs.declared.typed.Fault.{Fault as TypeFault}
use Rattle.gixcfg_core.specs.declared.typed.Fault.TheVariants as types
use Rattle.gixcfg_core.specs.declared.urls.Fault.{Fault as UrlFault}
use Rattle.gixcfg_core.specs.declared.urls.Fault.TheVariants as urls
use Rattle.gixcfg_core.specs.declared.trouble.Trouble.{Trouble}
use Rattle.gixcfg_core.specs.declared.trouble.Trouble.TheVariants as kinds

-- 1 for what is missing or named in a way that isn't allowed, and for a text that isn't laid out; 2 for a pattern that can't be read and for what is no URL; 3 for a
-- text, an edit or a value that is refused; 4 for a file or a stream that failed; 5 for several entries or none, and for memory; 128 where
-- there is no repository or no home folder
abbrev pub status_of : Trouble → ℕ
status_of kinds.Missing = 1
status_of kinds.Different = 1
status_of kinds.NoSection = 1
status_of (kinds.BadName number) = 1
status_of kinds.BadPattern = 2
status_of (kinds.BadUrl refusal) = 2
status_of (kinds.Text message) = 3
status_of (kinds.Refused number) = 3
status_of kinds.Uncommented = 3
status_of (kinds.Untyped refusal) = 3
status_of (kinds.Unread message) = 4
status_of (kinds.File files.NoRepository) = 128
status_of (kinds.File files.NoHome) = 128
status_of (kinds.File fault) = 4
status_of kinds.NoFile = 4
status_of kinds.Input = 4
status_of kinds.Output = 4
status_of kinds.Closed = 4
status_of kinds.Several = 5
status_of kinds.NoEntry = 5
status_of kinds.Memory = 5

-- an exit status of a call: up to 5, or 128
abbrev pub IsStatus : ℕ → Type 0
IsStatus status = (status ≤ 5) ⊎ (status ≡ 128)

-- the status of a refusal by the library, by its number: 5 for out of memory, 4 if a file can't be opened or read, else 3
abbrev pub refusal_status : (number : ℕ) → ℕ
refusal_status number = if number == 27 then 5 else (if ltb 18 number && ltb number 22 then 4 else 3)

-- the trouble that a value is which isn't of the type
abbrev pub of_type : TypeFault → Trouble
of_type (types.Refused refusal) = kinds.Untyped refusal
of_type types.Memory = kinds.Memory

-- the trouble that a text is which is no URL
abbrev pub of_url : UrlFault → Trouble
of_url (urls.Refused refusal) = kinds.BadUrl refusal
of_url urls.Memory = kinds.Memory

-- the trouble that a fault of a file is
abbrev pub of_file : Fault → Trouble
of_file files.Memory = kinds.Memory
of_file fault = kinds.File fault

-- the trouble that a refusal of an edit is, by its number
abbrev pub trouble_of_number : (number : ℕ) → Trouble
trouble_of_number number = if number == 27 then kinds.Memory else (if ltb 3 number && ltb number 7 then kinds.BadName number else kinds.Refused number)
