-- Single keys, by computation.
use Rattle.std.proofs.Common.{◌≡◌, ℕ, List, [], ◌∷◌, ◌++◌, Option, Some, None, refl}
use lib.Utf8.{encode}
use Rattle.std.specs.Prelude.{codes}
use Rattle.std.specs.Str.{is_utf8, chars}
use Rattle.gitconf_text.specs.SectionKeys.{SectionKey, parsed_section_key}
use Rattle.gitconf_sources.specs.Key.{Key, parsed_key}

abbrev key : List ℕ → Option (List ℕ) → List ℕ → Option Key
key section subsection name = Some (record { section = section; subsection = subsection; name = name })

abbrev section_key : List ℕ → Option (List ℕ) → Option SectionKey
section_key section subsection = Some (record { section = section; subsection = subsection })

pub no_dot : parsed_key (codes "core") ≡ None
unfolding parsed_key is_utf8 chars encode
no_dot = refl

pub one_dot : parsed_key (codes "core.editor") ≡ key (codes "core") None (codes "editor")
unfolding parsed_key is_utf8 chars encode
one_dot = refl

pub two_dots : parsed_key (codes "remote.origin.url") ≡ key (codes "remote") (Some (codes "origin")) (codes "url")
unfolding parsed_key is_utf8 chars encode
two_dots = refl

pub dots_between : parsed_key (codes "url.https://a.b/.insteadOf") ≡ key (codes "url") (Some (codes "https://a.b/")) (codes "insteadOf")
unfolding parsed_key is_utf8 chars encode
dots_between = refl

pub empty_between : parsed_key (codes "a..b") ≡ key (codes "a") (Some []) (codes "b")
unfolding parsed_key is_utf8 chars encode
empty_between = refl

pub dot_alone : parsed_key (codes ".") ≡ key [] None []
unfolding parsed_key is_utf8 chars encode
dot_alone = refl

pub not_text : parsed_key (255 ∷ codes ".b") ≡ None
unfolding parsed_key is_utf8 chars encode
not_text = refl

pub subsection_not_text : parsed_key (codes "a." ++ 255 ∷ codes ".b") ≡ key (codes "a") (Some (255 ∷ [])) (codes "b")
unfolding parsed_key is_utf8 chars encode
subsection_not_text = refl

pub section_alone : parsed_section_key (codes "core") ≡ section_key (codes "core") None
unfolding is_utf8 chars encode
section_alone = refl

pub section_and_one : parsed_section_key (codes "core.editor") ≡ section_key (codes "core") (Some (codes "editor"))
unfolding is_utf8 chars encode
section_and_one = refl

pub section_and_address : parsed_section_key (codes "url.https://a.b/.insteadOf") ≡ section_key (codes "url") (Some (codes "https://a.b/.insteadOf"))
unfolding is_utf8 chars encode
section_and_address = refl

pub section_and_more : parsed_section_key (codes "remote.origin.url") ≡ section_key (codes "remote") (Some (codes "origin.url"))
unfolding is_utf8 chars encode
section_and_more = refl

pub section_dots : parsed_section_key (codes "a..b") ≡ section_key (codes "a") (Some (codes ".b"))
unfolding is_utf8 chars encode
section_dots = refl

pub section_dot_alone : parsed_section_key (codes ".") ≡ section_key [] (Some [])
unfolding is_utf8 chars encode
section_dot_alone = refl
