-- Texts with quotes round them, stripped.
use Rattle.std.proofs.Common.{◌≡◌, true, false, [], refl, codes}
use Rattle.gitconf_text.specs.Stripped.{stripped, needs_decoding}

pub no_quotes_to_strip : stripped (codes "a b") ≡ codes "a b"
no_quotes_to_strip = refl

pub one_pair : stripped (codes "\"a b\"") ≡ codes "a b"
one_pair = refl

pub three_pairs : stripped (codes "\"\"\"a\"\"\"") ≡ codes "a"
three_pairs = refl

pub nothing_between : stripped (codes "\"\"\"\"") ≡ []
nothing_between = refl

-- a quote has no second one
pub lone_quote_stays : stripped (codes "\"\"\"") ≡ codes "\""
lone_quote_stays = refl

-- the last quote is an escape's
pub quote_of_an_escape_stays : stripped (codes "\"a\\\"") ≡ codes "\"a\\\""
quote_of_an_escape_stays = refl

pub quote_of_an_inner_escape_stays : stripped (codes "\"\"a\\\"\"") ≡ codes "\"a\\\""
quote_of_an_inner_escape_stays = refl

-- each of two quoted parts loses its outer quote alone
pub two_quoted_parts : stripped (codes "\"a\" \"b\"") ≡ codes "a\" \"b"
two_quoted_parts = refl

pub two_quoted_parts_are_decoded : needs_decoding (codes "\"a\" \"b\"") ≡ true
two_quoted_parts_are_decoded = refl

pub quoted_text_is_borrowed : needs_decoding (codes "\"a;b\"") ≡ false
quoted_text_is_borrowed = refl
