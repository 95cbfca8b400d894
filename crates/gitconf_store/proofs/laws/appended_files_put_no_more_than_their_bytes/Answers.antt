use Rattle.std.proofs.Common.{arith}
use Rattle.gitconf_state.specs.Edits.{between}
use Rattle.gitconf_state.specs.LineEnds.{file_line_end}
use Rattle.gitconf_store.specs.Appends.{items_before}
use Rattle.gitconf_store.proofs.Files.AppendedFiles.{line_bounded}
use Rattle.gitconf_store.proofs.laws.appended_files_put_no_more_than_their_bytes.Goals as goal

pub returns : goal.returns
returns c = λ other state.
    let put = line_bounded (file_line_end state) (between (file_line_end state) (items_before state) other.front) in
    omega (arith, put)
