use Rattle.std.proofs.Common.{append-nil, ap, refl, sym, [], ◌∙◌}
use Rattle.gitconf_text.specs.Token.{HeaderToken}
use Rattle.std.proofs.lemmas.List.{get_or_default}
use Rattle.gitconf_items.specs.Events.{header_of}
use Rattle.gitconf_items.specs.ShownEvents.{shown_token}
use Rattle.gitconf_read.proofs.compact.decode.decode_at.Goals as goal

pub returns-in-Some : goal.returns-in-Some
returns-in-Some c = record {
  header = c.in-Some.header;
  after_is = refl;
  same = c.in-Some.ensures.same ∙ ap (header_of c.args.buffer.now) (c.index.ensures ∙ get_or_default _ _ _ _ c.requires.within);
  shown = record { fits = c.in-Some.ensures.fits; copy_fits = c.in-Some.ensures.no_copy _; shown = c.in-Some.ensures.shown _ ∙ ap (λ h. shown_token (HeaderToken h)) (sym c.in-Some.ensures.same) };
  extended = ([], sym (append-nil _));
}
