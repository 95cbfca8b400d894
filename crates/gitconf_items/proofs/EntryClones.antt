-- A clone of an entry's parts says the same.
use Rattle.std.proofs.Common.{◌≡◌, ℕ, List, [], map, Some, refl, sym, subst}
use Rattle.std.specs.List.{AllByRecursion, each_same}
use Rattle.gitconf_items.specs.declared.entry.Value.{Value}
use Rattle.gitconf_items.specs.declared.entry.Assigned.{Assigned}
use Rattle.gitconf_items.specs.declared.entry.Assigned.TheVariants as assigned
use Rattle.gitconf_items.specs.declared.entry.EntryParts.{EntryParts}
use Rattle.gitconf_items.specs.Events.{SpanFits, bytes_of}
use Rattle.gitconf_items.specs.Items.{piece_of, value_of, assigned_of}
use Rattle.gitconf_items.specs.ItemsFit.{PieceFits, ValueFits, AssignedFits}
use Rattle.gitconf_items.specs.Alike.{AreAlike}
use Rattle.gitconf_items.specs.contracts.entry.ValueClone.TheImpl as values
use Rattle.gitconf_items.specs.contracts.entry.AssignedClone.TheImpl as assigns
use Rattle.gitconf_items.specs.contracts.entry.EntryPartsClone.TheImpl as parted

cloned_value : (v w : Value) → (values.ghosts).is_clone v w → (buffer : List ℕ) → value_of buffer w ≡ value_of buffer v
cloned_value v w c buffer = λ i. record { pieces = map (piece_of buffer) (each_same v.pieces.items w.pieces.items c.0 i); last = bytes_of buffer (c.1 i) }

value_within : (v w : Value) → (values.ghosts).is_clone v w → (limit : ℕ) → ValueFits limit v → ValueFits limit w
value_within v w c limit h = (
  subst (AllByRecursion (PieceFits limit)) (sym (each_same v.pieces.items w.pieces.items c.0)) h.0,
  subst (SpanFits limit) (sym c.1) h.1,
)

cloned_assigned : (a b : Assigned) → (assigns.ghosts).is_clone a b → (buffer : List ℕ) → assigned_of buffer b ≡ assigned_of buffer a
cloned_assigned assigned.Nothing assigned.Nothing c buffer = refl
cloned_assigned (assigned.Plain blanks value) (assigned.Plain others other) c buffer = λ i. Some (record { blanks = bytes_of buffer (c.0 i); value = record { pieces = []; last = bytes_of buffer (c.1 i) } })
cloned_assigned (assigned.Continued a) (assigned.Continued b) c buffer = λ i. Some (record { blanks = bytes_of buffer (c.0 i); value = cloned_value a.value b.value c.1 buffer i })
cloned_assigned assigned.Nothing (assigned.Plain others other) c buffer = elim c [ ]
cloned_assigned assigned.Nothing (assigned.Continued b) c buffer = elim c [ ]
cloned_assigned (assigned.Plain blanks value) assigned.Nothing c buffer = elim c [ ]
cloned_assigned (assigned.Plain blanks value) (assigned.Continued b) c buffer = elim c [ ]
cloned_assigned (assigned.Continued a) assigned.Nothing c buffer = elim c [ ]
cloned_assigned (assigned.Continued a) (assigned.Plain others other) c buffer = elim c [ ]

assigned_within : (a b : Assigned) → (assigns.ghosts).is_clone a b → (limit : ℕ) → AssignedFits limit a → AssignedFits limit b
assigned_within assigned.Nothing assigned.Nothing c limit h = tt
assigned_within (assigned.Plain blanks value) (assigned.Plain others other) c limit h = (subst (SpanFits limit) (sym c.0) h.0, subst (SpanFits limit) (sym c.1) h.1)
assigned_within (assigned.Continued a) (assigned.Continued b) c limit h = (subst (SpanFits limit) (sym c.0) h.0, value_within a.value b.value c.1 limit h.1)
assigned_within assigned.Nothing (assigned.Plain others other) c limit h = elim c [ ]
assigned_within assigned.Nothing (assigned.Continued b) c limit h = elim c [ ]
assigned_within (assigned.Plain blanks value) assigned.Nothing c limit h = elim c [ ]
assigned_within (assigned.Plain blanks value) (assigned.Continued b) c limit h = elim c [ ]
assigned_within (assigned.Continued a) assigned.Nothing c limit h = elim c [ ]
assigned_within (assigned.Continued a) (assigned.Plain others other) c limit h = elim c [ ]

pub alike : (e f : EntryParts) → (parted.ghosts).is_clone e f → AreAlike e f
alike e f c = record {
  same = λ buffer i. record { name = bytes_of buffer (c.0 i); blanks = bytes_of buffer (c.1.0 i); assigned = cloned_assigned e.assigned f.assigned c.1.1 buffer i };
  fits = λ limit h. (subst (SpanFits limit) (sym c.0) h.0, subst (SpanFits limit) (sym c.1.0) h.1, assigned_within e.assigned f.assigned c.1.1 limit h.2);
}

pub alike_itself : (e : EntryParts) → AreAlike e e
alike_itself e = record { same = λ buffer. refl; fits = λ limit h. h }
