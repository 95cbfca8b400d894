use Rattle.std.proofs.Common.{◌≡◌, drop, false, map}
use Rattle.std.specs.List.{list_any}
use Rattle.bstr.specs.Owned.{bstring_bytes}
use Rattle.gitconf_glob.specs.Pattern.{matches}
use Rattle.gixcfg_commands.proofs.inclusions.has_url.Given as goal

-- one matches exactly if one of those that are left does
abbrev pub invariant-loop-url : goal.invariant-loop-url
invariant-loop-url l =
    list_any (matches false l.pattern) (map bstring_bytes (drop l.url-index l.urls)) ≡ list_any (matches false l.pattern) (map bstring_bytes l.urls)
