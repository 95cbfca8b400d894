-- The refusals of loaders, made of what caused them; running out of memory has one case in each.
use Rattle.std.specs.Prelude.{ℕ, ◌==◌, if◌then◌else◌, string_bytes}
use Rattle.std.specs.declared.alloc.Global.{Global}
use Rattle.std.specs.declared.string.String.{String}
use Rattle.gitconf_text.specs.declared.parse.section.header.Error.{Error as Header}
use Rattle.gitconf_text.specs.declared.parse.section.header.Error.TheVariants as header
use Rattle.gitconf_values.specs.Homes.{interpolate_number}
use Rattle.gitconf_values.specs.declared.path.interpolate.Error.{Error as Interpolate}
use Rattle.gitconf_values.specs.declared.path.interpolate.Error.TheVariants as interpolate
use Rattle.gitconf_body.specs.declared.value.Error.{Error as Value}
use Rattle.gitconf_body.specs.declared.value.Error.TheVariants as value
use Rattle.gitconf_includes.specs.Errors.{says}
use Rattle.gitconf_includes.specs.Said.{known}
use Rattle.gitconf_includes.specs.declared.includes.Error.{Error as Includes}
use Rattle.gitconf_includes.specs.declared.includes.Error.TheVariants as includes
use Rattle.gitconf_includes.specs.declared.init.Error.{Error as Init}
use Rattle.gitconf_includes.specs.declared.init.Error.TheVariants as init
use Rattle.gitconf_loaders.specs.Refused.{refused_number, BadCount, BadFile, BadInclude, BadPath, BadText, BadVariables, NoDot, NoEntry, NoKey, NoRoom, NoSection, NotText, NoValue, OutOfMemory, Refused, Unmade, Unparsed, Unreadable}
use Rattle.gitconf_loaders.specs.declared.from_paths.Error.{Error as Paths}
use Rattle.gitconf_loaders.specs.declared.from_paths.Error.TheVariants as paths
use Rattle.gitconf_loaders.specs.declared.from_env.Error.{Error as Env}
use Rattle.gitconf_loaders.specs.declared.from_env.Error.TheVariants as env
use Rattle.gitconf_loaders.specs.declared.from_git_dir.Error.{Error as Git}
use Rattle.gitconf_loaders.specs.declared.from_git_dir.Error.TheVariants as git

-- what a refusal of a file says
abbrev pub init_says : Init → Refused
init_says (init.Parse e) = Unparsed (known e)
init_says (init.Interpolate e) = BadPath (interpolate_number e)
init_says (init.Includes e) = BadInclude (says e)
init_says (init.Span number) = NoRoom number
init_says init.Memory = OutOfMemory

-- what a refused load by paths says
abbrev pub paths_says : Paths → Refused
paths_says (paths.Io path fault) = Unreadable (string_bytes path) fault
paths_says (paths.Init path e) = Unmade (string_bytes path) (init_says e)
paths_says paths.Memory = OutOfMemory

-- what a refused load by variables says
abbrev pub env_says : Env → Refused
env_says (env.IllformedUtf8 index kind) = NotText index kind.now
env_says (env.InvalidConfigCount input) = BadCount (string_bytes input)
env_says (env.InvalidKeyId index) = NoKey index
env_says (env.InvalidKeyValue index key) = NoDot index (string_bytes key)
env_says (env.InvalidValueId index) = NoValue index
env_says (env.PathInterpolationError e) = BadPath (interpolate_number e)
env_says (env.Includes e) = BadInclude (says e)
env_says (env.Section e) = NoSection e
env_says (env.SectionValue e) = NoEntry e
env_says env.Memory = OutOfMemory

-- what a refused load of a repository says
abbrev pub git_says : Git → Refused
git_says (git.FromPaths e) = BadFile (paths_says e)
git_says (git.FromEnv e) = BadVariables (env_says e)
git_says (git.Init e) = BadText (init_says e)
git_says (git.Includes e) = BadInclude (says e)
git_says (git.Span number) = NoRoom number
git_says git.Memory = OutOfMemory

-- the number of each
abbrev pub init_number : Init → ℕ
init_number e = refused_number (init_says e)

abbrev pub paths_number : Paths → ℕ
paths_number e = refused_number (paths_says e)

abbrev pub env_number : Env → ℕ
env_number e = refused_number (env_says e)

abbrev pub git_number : Git → ℕ
git_number e = refused_number (git_says e)

-- the refusal of a load because what was read at that path can't be made a file, or has no room behind those before it
abbrev pub paths_of_init : (path : String Global) → Init → Paths
paths_of_init path init.Memory = paths.Memory
paths_of_init path e = paths.Init path e

-- the refusal of the variables' entries because of an include
abbrev pub env_of_includes : Includes → Env
env_of_includes includes.Memory = env.Memory
env_of_includes e = env.Includes e

-- the refusal of the variables' entries because a section can't be made
abbrev pub env_of_header : Header → Env
env_of_header header.Memory = env.Memory
env_of_header e = env.Section e

-- the refusal of the variables' entries because a value can't be put in
abbrev pub env_of_value : Value → Env
env_of_value value.Memory = env.Memory
env_of_value e = env.SectionValue e

-- the refusal of the variables' entries because a path can't be interpolated
abbrev pub env_of_interpolate : Interpolate → Env
env_of_interpolate interpolate.Memory = env.Memory
env_of_interpolate e = env.PathInterpolationError e

-- the refusal of a repository's configuration because of a load by paths
abbrev pub git_of_paths : Paths → Git
git_of_paths paths.Memory = git.Memory
git_of_paths e = git.FromPaths e

-- the refusal of a repository's configuration because of the variables' entries
abbrev pub git_of_env : Env → Git
git_of_env env.Memory = git.Memory
git_of_env e = git.FromEnv e

-- the refusal of a repository's configuration because a file can't be made
abbrev pub git_of_init : Init → Git
git_of_init init.Memory = git.Memory
git_of_init e = git.Init e

-- the refusal of a repository's configuration because of an include
abbrev pub git_of_includes : Includes → Git
git_of_includes includes.Memory = git.Memory
git_of_includes e = git.Includes e

-- the refusal of a repository's configuration because there is no room for a file
abbrev pub git_of_span : (number : ℕ) → Git
git_of_span number = if number == 27 then git.Memory else git.Span number
