use Rattle.std.proofs.Common.{◌≡◌, drop}
use denote.Text.{Utf8}
use denote.Shadow.{shadow}
use Rattle.gixcfg_core.specs.Comments.{lead_of}
use Rattle.gixcfg_core.proofs.CommentLemmas.{lead_or}
use Rattle.gixcfg_core.proofs.comments.lead_of.Given as goal

-- what is put before a comment of which that is left
abbrev pub invariant-loop-byte : goal.invariant-loop-byte
invariant-loop-byte l = shadow (Utf8 l.lead) × (lead_or l.lead (drop l.byte-index l.byte-items) ≡ lead_of l.comment)
