-- What clauses of the crates of commands name of `gix_config`, which they reach through this one.
pub use Rattle.gix_config.specs.MultiValueEditors.{lent}
