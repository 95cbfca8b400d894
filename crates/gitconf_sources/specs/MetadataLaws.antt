-- The laws of the comparisons and of the hash of metadata, from those of its parts.
use Rattle.std.proofs.Common.{◌≡◌, ℕ, true, List, Option, Some, None, refl, ap, sym, true≢false}
use Rattle.std.specs.Option.{option_eq, option_cmp}
use Rattle.std.specs.Str.{bytes_eq}
use Rattle.std.specs.Ordering.{is_eq, nat_cmp, as_partial_cmp}
use Rattle.std.specs.Cmp.{IsEquivalence, IsTotalOrder, IsPartialEquivalence, IsPartialOrder, and_equiv, on_equiv, nat_eq_equiv, then_total, on_total, nat_cmp_total, both_tied, unsigned_ties, unsigned_Decides, partial_equiv_from_equiv, partial_order_from_total, partial_order_from_own_ties}
use Rattle.std.specs.Cmp.Lexicographic.{slice_cmp, options_equiv, nat_list_eq_equiv, options_total, nat_list_cmp_total, texts_ties, bytes_decides}
use Rattle.std.specs.Hash as fed
use Rattle.std.specs.Hash.{Alike, and-Alike, on_Alike, same_Alike}
use Rattle.gitconf_sources.specs.contracts.source.SourceEq.TheImpl.Laws as source_eq
use Rattle.gitconf_sources.specs.contracts.source.SourceOrd.TheImpl.Laws as source_ord
use Rattle.gitconf_sources.specs.contracts.source.SourceHash.TheImpl.Laws as source_hash
use Rattle.gitconf_sources.specs.contracts.source.TrustEq.TheImpl.Laws as trust_eq
use Rattle.gitconf_sources.specs.contracts.source.TrustOrd.TheImpl.Laws as trust_ord
use Rattle.gitconf_sources.specs.contracts.source.TrustHash.TheImpl.Laws as trust_hash
use Rattle.gitconf_sources.specs.Metadata.{Meta, same_meta, meta_cmp, meta_hash}

-- equality is an equivalence
pub same_meta_equiv : IsEquivalence same_meta
same_meta_equiv =
    and_equiv
    (and_equiv (and_equiv (on_equiv (λ (m : Meta). m.path) (options_equiv nat_list_eq_equiv)) (on_equiv (λ (m : Meta). m.source) source_eq.laws-law))
    (on_equiv (λ (m : Meta). m.level) nat_eq_equiv)) (on_equiv (λ (m : Meta). m.trust) trust_eq.laws-law)

-- equality is symmetric and transitive
pub same_meta_partial : IsPartialEquivalence same_meta
same_meta_partial = partial_equiv_from_equiv same_meta_equiv

-- the order is total
pub meta_cmp_total : IsTotalOrder meta_cmp
meta_cmp_total =
    then_total
    (then_total (then_total (on_total (λ (m : Meta). m.path) (options_total nat_list_cmp_total)) (on_total (λ (m : Meta). m.source) source_ord.total-law))
    (on_total (λ (m : Meta). m.level) nat_cmp_total)) (on_total (λ (m : Meta). m.trust) trust_ord.total-law)

-- two paths are equal where the order ties them
path_ties : (p q : Option (List ℕ)) → option_eq bytes_eq p q ≡ is_eq (option_cmp (slice_cmp nat_cmp) p q)
path_ties None None = refl
path_ties None (Some q) = refl
path_ties (Some p) None = refl
path_ties (Some p) (Some q) = texts_ties p q

-- metadata is equal where the order ties it
pub meta_ties : (x y : Meta) → same_meta x y ≡ is_eq (meta_cmp x y)
meta_ties x y =
    both_tied _ _ _ _
    (both_tied _ _ _ _ (both_tied _ _ _ _ (path_ties x.path y.path) (source_ord.matches_eq-law x.source y.source)) (unsigned_ties x.level y.level))
    (trust_ord.matches_eq-law x.trust y.trust)

-- equality and order agree, as a partial order
pub meta_partial : IsPartialOrder same_meta (as_partial_cmp meta_cmp)
meta_partial = partial_order_from_own_ties (partial_order_from_total meta_cmp_total) meta_ties

-- equal paths are hashed alike
path_alike : Alike (option_eq bytes_eq) (fed.option fed.str)
path_alike = record { fed = go }
  where
    go : (p q : Option (List ℕ)) → option_eq bytes_eq p q ≡ true → fed.option fed.str p ≡ fed.option fed.str q
    go None None e = refl
    go None (Some q) e = absurd (true≢false (sym e))
    go (Some p) None e = absurd (true≢false (sym e))
    go (Some p) (Some q) e = ap (λ t. fed.option fed.str (Some t)) ((bytes_decides p q).0 e)

-- equal metadata is hashed alike
pub meta_alike : Alike same_meta meta_hash
meta_alike =
    and-Alike
    (and-Alike (and-Alike (on_Alike (λ (m : Meta). m.path) path_alike) (on_Alike (λ (m : Meta). m.source) (record { fed = source_hash.respects_eq-law })))
    (on_Alike (λ (m : Meta). m.level) (same_Alike fed.u8 unsigned_Decides))) (on_Alike (λ (m : Meta). m.trust) (record { fed = trust_hash.respects_eq-law }))
