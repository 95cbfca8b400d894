-- Which file is loaded, as a program in C says it.
use Rattle.std.specs.Prelude.{ℕ, Option, Some, None, Result, Ok, Err}
use Rattle.gitconf_text.specs.SectionKeys.{as_utf8}
use Rattle.gitconf_includes.specs.Rules.{Rules, rules_of_includes}
use Rattle.gitconf_sources.specs.Metadata.{Meta, meta_of_file}
use Rattle.gix_config_c.specs.Followed.{rules_of}
use Rattle.gix_config_c.specs.Origins.{source_of, trust_of}
use Rattle.gix_config_c.specs.declared.load.Load.{Load}
use Rattle.gix_config_c.specs.declared.load.Wanted.{Wanted}

-- where the file comes from, and the rules of its includes
pub record PlainWanted : Type 0 where
  pub meta : Meta
  pub rules : Rules

-- that of the library's call
abbrev pub plain_wanted : Wanted → PlainWanted
plain_wanted w = record { meta = meta_of_file w.path.now w.source w.trust; rules = record (rules_of_includes w.includes) { lossy = w.lossy } }

-- something that has to be there, or the number that says that it isn't
abbrev pub or_number : {A B : Type 0} → (number : ℕ) → Option A → (A → Result B ℕ) → Result B ℕ
or_number number None next = Err number
or_number number (Some it) next = next it

-- what a program wants; 101 if a text isn't text, else 104 for a number that no source or trust has
abbrev pub wanted_of : Load → Result PlainWanted ℕ
wanted_of load =
    or_number 101 (as_utf8 load.path.now)
    (λ path. or_number 101 (rules_of load.includes)
    (λ rules. or_number 104 (source_of load.source)
    (λ source. or_number 104 (trust_of load.trust)
    (λ trust. Ok (record { meta = meta_of_file path source trust; rules = rules })))))
