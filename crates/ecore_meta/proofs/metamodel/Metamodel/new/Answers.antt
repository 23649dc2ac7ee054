use Rattle.std.proofs.Common.{◌≡◌, ℕ, ◌<◌, List, [], length, sym, ap, subst, ◌∙◌, arith, map}
use Rattle.std.specs.Prelude.{slice_index, slice_index_or}
use Rattle.std.specs.List.{Contains}
use Rattle.atl_base.specs.declared.numbers.FeatId.{FeatId}
use Rattle.ecore_meta.specs.declared.parts.Class.{Class}
use Rattle.ecore_meta.specs.declared.parts.Feature.{Feature}
use Rattle.ecore_meta.specs.Order.{AreWithin}
use Rattle.ecore_meta.specs.Tables.{AreFeatureLists, AreConformed, AreFirsts, ArePlacesOf, IsRow, Row}
use Rattle.ecore_meta.specs.Valid.{AllDiffer}
use Rattle.ecore_meta.proofs.LookUps.{seen_within, places_differ, named_is}
use Rattle.ecore_meta.proofs.metamodel.Metamodel.new.Goals as goal

pub supers_first-requires-clause-within : goal.supers_first-requires-clause-within
supers_first-requires-clause-within c = subst AreWithin (sym c.as_slice-classes.ensures) c.requires.places.supers

pub feature_lists-requires-clause-within : goal.feature_lists-requires-clause-within
feature_lists-requires-clause-within c = subst AreWithin (sym c.as_slice-classes.ensures) c.requires.places.supers

pub conformed_lists-requires-clause-within : goal.conformed_lists-requires-clause-within
conformed_lists-requires-clause-within c = subst AreWithin (sym c.as_slice-classes.ensures) c.requires.places.supers

pub named_rows-requires-clause-within : goal.named_rows-requires-clause-within
named_rows-requires-clause-within c =
    let lists : AreFeatureLists c.args.parts.classes c.in_ok-seen.seen.items = subst (λ (l : List Class). AreFeatureLists l c.in_ok-seen.seen.items) c.as_slice-classes.ensures c.in_ok-seen.ensures in
    let of : ArePlacesOf c.args.parts.features c.in_ok-firsts.field-0.firsts c.in_ok-firsts.field-0.of.items =
    subst (λ (l : List Feature). ArePlacesOf l c.in_ok-firsts.field-0.firsts c.in_ok-firsts.field-0.of.items) c.as_slice.ensures c.in_ok-firsts.ensures.of in
    λ k f m.
    let within : f.0 < length c.args.parts.features =
    seen_within c.args.parts c.requires c.in_ok-seen.seen.items lists k f (subst (λ (l : List (List FeatId)). Contains (slice_index_or l k []) f) c.deref-4.ensures.value m) in
    omega (arith, within, of.lengths, ap length c.deref-3.ensures.value)

pub named_rows-requires-clause-differ : goal.named_rows-requires-clause-differ
named_rows-requires-clause-differ c =
    let lists : AreFeatureLists c.args.parts.classes c.in_ok-seen.seen.items = subst (λ (l : List Class). AreFeatureLists l c.in_ok-seen.seen.items) c.as_slice-classes.ensures c.in_ok-seen.ensures in
    let firsts : AreFirsts c.args.parts.features c.in_ok-firsts.field-0.firsts = subst (λ (l : List Feature). AreFirsts l c.in_ok-firsts.field-0.firsts) c.as_slice.ensures c.in_ok-firsts.ensures.firsts in
    let of : ArePlacesOf c.args.parts.features c.in_ok-firsts.field-0.firsts c.in_ok-firsts.field-0.of.items =
    subst (λ (l : List Feature). ArePlacesOf l c.in_ok-firsts.field-0.firsts c.in_ok-firsts.field-0.of.items) c.as_slice.ensures c.in_ok-firsts.ensures.of in
    λ k. subst (λ (l : List (List FeatId)). AllDiffer (map (λ f. slice_index c.deref-3.result.now f.0) (slice_index_or l k []))) (sym c.deref-4.ensures.value)
    (subst (λ (p : List ℕ). AllDiffer (map (λ f. slice_index p f.0) (slice_index_or c.in_ok-seen.seen.items k []))) (sym c.deref-3.ensures.value)
    (places_differ c.args.parts c.requires c.in_ok-seen.seen.items lists c.in_ok-firsts.field-0.firsts c.in_ok-firsts.field-0.of.items firsts of k))

pub invariant_of-result : goal.invariant_of-result
invariant_of-result c =
    let lists : AreFeatureLists c.args.parts.classes c.in_ok-seen.seen.items = subst (λ (l : List Class). AreFeatureLists l c.in_ok-seen.seen.items) c.as_slice-classes.ensures c.in_ok-seen.ensures in
    let firsts : AreFirsts c.args.parts.features c.in_ok-firsts.field-0.firsts = subst (λ (l : List Feature). AreFirsts l c.in_ok-firsts.field-0.firsts) c.as_slice.ensures c.in_ok-firsts.ensures.firsts in
    let of : ArePlacesOf c.args.parts.features c.in_ok-firsts.field-0.firsts c.in_ok-firsts.field-0.of.items =
    subst (λ (l : List Feature). ArePlacesOf l c.in_ok-firsts.field-0.firsts c.in_ok-firsts.field-0.of.items) c.as_slice.ensures c.in_ok-firsts.ensures.of in
    let seen : List (List FeatId) = c.in_ok-seen.seen.items in
    let rows : List Row = c.in_ok-named.named.items in
    let places : List ℕ = c.in_ok-firsts.field-0.of.items in
    let lengths : length rows ≡ length seen = c.in_ok-named.ensures.lengths ∙ ap length c.deref-4.ensures.value in
    let each : (n : ℕ) (d : Row) → n < length c.deref-4.result.now → IsRow c.deref-3.result.now (slice_index_or c.deref-4.result.now n []) (slice_index_or rows n d) = c.in_ok-named.ensures.each in
    let rows_are : (n : ℕ) (d : Row) → n < length seen → IsRow places (slice_index_or seen n []) (slice_index_or rows n d) =
    subst (λ (p : List ℕ). (n : ℕ) (d : Row) → n < length seen → IsRow p (slice_index_or seen n []) (slice_index_or rows n d)) c.deref-3.ensures.value
    (subst (λ (l : List (List FeatId)). (n : ℕ) (d : Row) → n < length l → IsRow c.deref-3.result.now (slice_index_or l n []) (slice_index_or rows n d)) c.deref-4.ensures.value each) in
    record {
      valid = c.requires;
      lists = lists;
      conforming = subst (λ (l : List Class). AreConformed l c.in_ok-conformed.conformed.items) c.as_slice-classes.ensures c.in_ok-conformed.ensures;
      names = firsts;
      named = named_is c.args.parts c.requires seen lists c.in_ok-firsts.field-0.firsts places firsts of rows lengths rows_are;
    }
