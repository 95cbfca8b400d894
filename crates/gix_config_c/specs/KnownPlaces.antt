-- The places of configuration that a program knows.
use Rattle.std.specs.Prelude.{ℕ, List, Option, None, string_bytes}
use Rattle.std.specs.Option.{option_and_then, option_copied, option_map}
use Rattle.gitconf_text.specs.SectionKeys.{as_utf8}
use Rattle.gitconf_sources.specs.declared.host.Places.{Places}
use Rattle.gix_config_c.specs.Folders.{text_if}
use Rattle.gix_config_c.specs.declared.places.KnownPlaces.{KnownPlaces}
use Rattle.gix_config_c.specs.declared.places.PlaceTexts.{PlaceTexts}
use Rattle.gix_config_c.specs.declared.places.Repository.{Repository}
use Rattle.gix_config_c.specs.declared.places.RepositoryTexts.{RepositoryTexts}

-- the path of what was installed with git, the folder that `etc/gitconfig` is in, the user's home folder, and those of users
pub record PlainPlaces : Type 0 where
  pub installation : Option (List ℕ)
  pub prefix : List ℕ
  pub home : Option (List ℕ)
  pub homes : Option (List (List ℕ × List ℕ))

-- those that the library's call is given
abbrev pub plain_places : Places → PlainPlaces
plain_places places = record {
  installation = option_map string_bytes places.installation_config;
  prefix = string_bytes places.system_prefix;
  home = option_map string_bytes places.home;
  homes = places.homes;
}

-- those of texts
abbrev pub plain_texts : PlaceTexts → PlainPlaces
plain_texts texts = record {
  installation = option_copied texts.installation;
  prefix = texts.system_prefix.now;
  home = option_copied texts.home;
  homes = None;
}

-- those that a program gives; none if one that is known isn't text
abbrev pub places_of : KnownPlaces → Option PlainPlaces
places_of places =
    option_and_then
    (λ installation. option_and_then
    (λ prefix. option_map (λ home. record { installation = installation; prefix = prefix; home = home; homes = None }) (text_if places.has_home places.home.now))
    (as_utf8 places.system_prefix.now))
    (text_if places.has_installation places.installation.now)

-- a repository: its folder, the same with its links resolved, and the places besides
pub record PlainRepository : Type 0 where
  pub folder : List ℕ
  pub real : List ℕ
  pub places : PlainPlaces

-- that of texts
abbrev pub repository_texts : RepositoryTexts → PlainRepository
repository_texts r = record { folder = r.folder.now; real = r.real.now; places = plain_texts r.places }

-- that which a program gives; none if a text that is known isn't text
abbrev pub repository_of : Repository → Option PlainRepository
repository_of r =
    option_and_then
    (λ folder. option_and_then (λ real. option_map (λ places. record { folder = folder; real = real; places = places }) (places_of r.places)) (as_utf8 r.real_git_folder.now))
    (as_utf8 r.git_folder.now)
