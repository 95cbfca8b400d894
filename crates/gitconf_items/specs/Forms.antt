-- How entries are held.
use Rattle.std.specs.Prelude.{ℕ, Bool, ◌+◌, ◌-◌, ◌<◌, ◌^◌, ◌||◌, eqb}
use Rattle.gitconf_items.specs.declared.event.Span.{Span}
use Rattle.gitconf_items.specs.declared.entry.Assigned.TheVariants as assigned
use Rattle.gitconf_items.specs.declared.entry.EntryParts.{EntryParts}
use Rattle.gitconf_items.specs.declared.entry.Form.{Form}
use Rattle.gitconf_items.specs.declared.entry.Form.TheVariants as forms

-- the span begins at this offset, or has no bytes
abbrev pub stands_at : Span → ℕ → Bool
stands_at s at = eqb s.len 0 || eqb s.start at

-- the parts of an entry, whatever form it is held in
abbrev pub parts_in : Form → EntryParts
parts_in (forms.Name name blanks) = record { name = name; blanks = record { start = name.start + name.len; len = blanks }; assigned = assigned.Nothing }
parts_in (forms.Line l) = record {
  name = record { start = l.start; len = l.name };
  blanks = record { start = l.start + l.name; len = l.before };
  assigned = assigned.Plain (record { start = l.start + l.name + l.before + 1; len = l.behind }) (record { start = l.start + l.name + l.before + 1 + l.behind; len = l.value });
}
parts_in (forms.Bare l) = record {
  name = record { start = l.start; len = l.name };
  blanks = record { start = 0; len = 0 };
  assigned = assigned.Plain (record { start = 0; len = 0 }) (record { start = l.start + l.name + l.before + 1 + l.behind; len = l.value });
}
parts_in (forms.Apart parts) = parts.value

-- the parts of an entry that a line has: its name between two offsets, `=` at a third, its value between two more, and blanks between these
abbrev pub line_parts : (start name_end sign first end : ℕ) → EntryParts
line_parts start name_end sign first end = record {
  name = record { start = start; len = name_end - start };
  blanks = record { start = name_end; len = sign - name_end };
  assigned = assigned.Plain (record { start = sign + 1; len = first - (sign + 1) }) (record { start = first; len = end - first });
}

-- each offset of its parts is one that a buffer may have
abbrev pub FormFits : Form → Type 0
FormFits (forms.Name name blanks) = name.start + name.len + blanks < 2 ^ 32
FormFits (forms.Line l) = l.start + l.name + l.before + 1 + l.behind + l.value < 2 ^ 32
FormFits (forms.Bare l) = l.start + l.name + l.before + 1 + l.behind + l.value < 2 ^ 32
FormFits (forms.Apart parts) = Unit {0}
