-- Entries that say the same.
use Rattle.std.specs.Prelude.{◌≡◌, ℕ, List}
use Rattle.gitconf_items.specs.declared.entry.EntryParts.{EntryParts}
use Rattle.gitconf_items.specs.Items.{entry_of}
use Rattle.gitconf_items.specs.ItemsFit.{EntryFits}

-- two entries say the same in each buffer, and the spans of the second end no later than those of the first
pub record AreAlike (e f : EntryParts) : Type 0 where
  pub same : (buffer : List ℕ) → entry_of buffer f ≡ entry_of buffer e
  pub fits : (limit : ℕ) → EntryFits limit e → EntryFits limit f
