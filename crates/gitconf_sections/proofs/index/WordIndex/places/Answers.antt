use Rattle.std.proofs.Common.{◌≡◌, length, arith}
use Rattle.std.proofs.lemmas.List.{get_or_read_under}
use Rattle.gitconf_sections.specs.Links.{bucket_of, ends_of}
use Rattle.gitconf_sections.proofs.LinkLemmas.{no_ends}
use Rattle.gitconf_sections.proofs.Places.{whole_left, whole_walk}
use Rattle.gitconf_sections.proofs.index.WordIndex.places.Goals as goal

pub invariant_of-result-2 : goal.invariant_of-result-2
invariant_of-result-2 c =
    let size : c.len.result ≡ length c.self.inside.buckets.items = omega (arith, c.len.ensures, c.self.inside.buckets.ok) in
    let ends : c.index-bucket.result.now ≡ ends_of c.self.inside.buckets.items c.bucket_of.result = get_or_read_under _ _ c.len.result _ no_ends c.index-bucket.ensures c.bucket_of.ensures.within size in
    let is : c.bucket_of.result ≡ bucket_of (length c.self.inside.buckets.items) c.args.word = rw size at c.bucket_of.ensures.bucket in
    (length c.self.inside.buckets.items, rw (c.deref-2.ensures.value, ends) (whole_walk c.self.inside.links.items c.self.inside.buckets.items c.args.word c.bucket_of.result c.self.invariant.linked c.self.invariant.long is (omega (arith, size, c.bucket_of.ensures.within))))

pub returns : goal.returns
returns c =
    let size : c.len.result ≡ length c.self.inside.buckets.items = omega (arith, c.len.ensures, c.self.inside.buckets.ok) in
    let ends : c.index-bucket.result.now ≡ ends_of c.self.inside.buckets.items c.bucket_of.result = get_or_read_under _ _ c.len.result _ no_ends c.index-bucket.ensures c.bucket_of.ensures.within size in
    let is : c.bucket_of.result ≡ bucket_of (length c.self.inside.buckets.items) c.args.word = rw size at c.bucket_of.ensures.bucket in
    rw (← c.self.view_is, c.deref-2.ensures.value, ends) (whole_left c.self.inside.links.items c.self.inside.buckets.items c.args.word c.bucket_of.result c.self.invariant.linked is (omega (arith, size, c.bucket_of.ensures.within)))
