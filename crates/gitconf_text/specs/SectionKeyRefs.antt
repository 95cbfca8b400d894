-- What a borrowed key of a section shows.
use Rattle.std.specs.Prelude.{option_map}
use Rattle.gitconf_text.specs.SectionKeys.{SectionKey}
use Rattle.gitconf_text.specs.declared.parse.section.unvalidated.KeyRef.{KeyRef}

-- the bytes of a key's two parts
abbrev pub section_key_of : KeyRef → SectionKey
section_key_of key = record {
  section = key.section_name.now;
  subsection = option_map (λ bytes. bytes.now) key.subsection_name;
}
