use Rattle.gitconf_items.specs.declared.entry.EntryParts.{EntryParts}
use Rattle.gitconf_items.specs.Items.{entry_of}
use Rattle.gitconf_text.specs.Part.{EntryItem}
use Rattle.gitconf_text.specs.Token.{item_tokens}
use Rattle.std.proofs.Common.{◌∙◌, sym, ap, arith}
use Rattle.gitconf_read.proofs.ItemReading.{begun, value_ended}
use Rattle.gitconf_read.proofs.Pieces.{span_is}
use Rattle.gitconf_read.proofs.reading.item.assigned_entry.Goals as goal

pub returns-in-Some-clause-found : goal.returns-in-Some-clause-found
returns-in-Some-clause-found c = record {
  tokens = _;
  value = value_ended _ _ _ _ _ _ (begun _ _) (sym c.piece_end.ensures.told ∙ c.in-Last.is);
  told = ap (λ (e : EntryParts). item_tokens (EntryItem (entry_of c.args.input.now e))) c.in-Some.ensures.told;
}

pub returns-in-Some-clause-spans : goal.returns-in-Some-clause-spans
returns-in-Some-clause-spans c =
    let ends = c.in-Last.ensures.ends in
    let ahead = ends.0 in
    let within = ends.1 in
    let a = c.requires.name in
    let b = c.requires.blanks in
    let d = c.requires.sign in
    rw c.in-Some.ensures.told (omega (arith, a, b, d, ahead, within), omega (arith, a, b, d, ahead, within), (omega (arith, a, b, d, ahead, within), omega (arith, a, b, d, ahead, within)))

pub returns-clause-found : goal.returns-clause-found
returns-clause-found c =
    let n = c.between-name.ensures in
    let b = c.between-blanks.ensures in
    let a = c.between-behind.ensures in
    rw (span_is _ _ _ n.start n.len, span_is _ _ _ b.start b.len, span_is _ _ _ a.start a.len) at c.long_entry.ensures.found
