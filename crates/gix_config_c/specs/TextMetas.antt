-- Where a text comes from, as a program in C says it.
use Rattle.std.specs.Prelude.{ℕ, Result, Ok}
use Rattle.std.specs.Option.{option_copied}
use Rattle.gitconf_sources.specs.Metadata.{Meta}
use Rattle.gix_config_c.specs.Folders.{text_if}
use Rattle.gix_config_c.specs.Loads.{or_number}
use Rattle.gix_config_c.specs.Origins.{source_of, trust_of}
use Rattle.gix_config_c.specs.declared.text_meta.Known.{Known}
use Rattle.gix_config_c.specs.declared.text_meta.TextMeta.{TextMeta}

-- the metadata that the library makes of it: no file includes the text
abbrev pub plain_meta : Known → Meta
plain_meta known = record { path = option_copied known.path; source = known.source; level = 0; trust = known.trust }

-- that of what a program says; 101 if a path that is there isn't text, else 104 for a number that no source or trust has
abbrev pub meta_of : TextMeta → Result Meta ℕ
meta_of given =
    or_number 101 (text_if given.has_path given.path.now)
    (λ path. or_number 104 (source_of given.source)
    (λ source. or_number 104 (trust_of given.trust)
    (λ trust. Ok (record { path = path; source = source; level = 0; trust = trust }))))
