-- What a call keeps of a session.
use Rattle.std.specs.Prelude.{◌≡◌}
use Rattle.script_commands.specs.declared.session.Session.{Session}
use Rattle.script_words.specs.declared.words.Slot.{Slot}
use Rattle.script_words.specs.declared.words.Slot.TheVariants.{F, G, H, I}

-- nothing changes but the file at that place
abbrev pub ChangesFile : Slot → (old new : Session) → Type 0
ChangesFile F old new = new ≡ record old { f = new.f }
ChangesFile G old new = new ≡ record old { g = new.g }
ChangesFile H old new = new ≡ record old { h = new.h }
ChangesFile I old new = new ≡ record old { i = new.i }

-- nothing changes but the file at that place, and the text that it was loaded from
abbrev pub LoadsFile : Slot → (old new : Session) → Type 0
LoadsFile F old new = new ≡ record old { f = new.f; loaded = new.loaded }
LoadsFile G old new = new ≡ record old { g = new.g; loaded = new.loaded }
LoadsFile H old new = new ≡ record old { h = new.h; loaded = new.loaded }
LoadsFile I old new = new ≡ record old { i = new.i; loaded = new.loaded }
