-- Editors of sections that are in no file.
pub use Rattle.gitconf_views.specs.AloneEditors.{edited, editor, lent}
