use Rattle.std.proofs.Common.{◌≡◌, ℕ, ◌+◌, ◌<◌, ◌≤◌, List, [], ◌∷◌, ◌++◌, length, get_or, map, sym, ap, subst, ◌∙◌, ⊎_elim, rules, arith}
use Rattle.std.specs.Prelude.{slice_index}
use Rattle.std.proofs.lemmas.Bool.{cases_lt}
use Rattle.std.proofs.lemmas.List.{get_or_append_left, get_or_push, length_push, get_or_default}
use Rattle.std.specs.List.{Contains}
use Rattle.atl_base.specs.declared.numbers.FeatId.{FeatId}
use Rattle.ecore_meta.specs.Tables.{IsRow, Row}
use Rattle.ecore_meta.specs.Valid.{AllDiffer}
use Rattle.ecore_meta.proofs.names.named_rows.Goals as goal

pub named_row-requires-clause-within : goal.named_row-requires-clause-within
named_row-requires-clause-within c =
    let at : ℕ = c.loop-list.list-index in
    let lists : List (List FeatId) = c.args.lists.now in
    let inside : at < length lists = search rules in
    let read : c.as_slice.result.now ≡ get_or lists at [] = c.as_slice.ensures ∙ c.list-item.is ∙ get_or_default lists at c.list-item.result [] inside in
    λ f m. c.requires.within at f (subst (λ (l : List FeatId). Contains l f) read m)

pub named_row-requires-clause-differ : goal.named_row-requires-clause-differ
named_row-requires-clause-differ c =
    let at : ℕ = c.loop-list.list-index in
    let lists : List (List FeatId) = c.args.lists.now in
    let inside : at < length lists = search rules in
    let read : c.as_slice.result.now ≡ get_or lists at [] = c.as_slice.ensures ∙ c.list-item.is ∙ get_or_default lists at c.list-item.result [] inside in
    subst (λ (l : List FeatId). AllDiffer (map (λ f. slice_index c.args.places.now f.0) l)) (sym read) (c.requires.differ at)

pub loop-list-preserved : goal.loop-list-preserved
loop-list-preserved c =
    let i = c.loop-list.invariant in
    let at : ℕ = c.loop-list.list-index in
    let lists : List (List FeatId) = c.args.lists.now in
    let rows : List Row = c.loop-list.rows.items in
    let row : Row = c.in_ok-named_row.field-0 in
    let inside : at < length lists = search rules in
    let read : c.as_slice.result.now ≡ get_or lists at [] = c.as_slice.ensures ∙ c.list-item.is ∙ get_or_default lists at c.list-item.result [] inside in
    let made : IsRow c.args.places.now (get_or lists at []) row = subst (λ (l : List FeatId). IsRow c.args.places.now l row) read c.in_ok-named_row.ensures in
    record {
      lengths = ap length c.in_ok-push.ensures.items ∙ length_push rows row ∙ ap (λ n. n + 1) i.lengths;
      each = λ k d h. subst (λ (r : List Row). IsRow c.args.places.now (get_or lists k []) (get_or r k d)) (sym c.in_ok-push.ensures.items)
          (⊎_elim
          (λ (old : k < at). subst (IsRow c.args.places.now (get_or lists k [])) (sym (get_or_append_left rows (row ∷ []) d k (omega (arith, i.lengths)))) (i.each k d old))
          (λ (new : at ≤ k).
          let same : at ≡ k = omega arith in
          subst (λ n. IsRow c.args.places.now (get_or lists n []) (get_or (rows ++ row ∷ []) n d)) same
          (subst (IsRow c.args.places.now (get_or lists at [])) (sym (get_or_push rows row d at i.lengths)) made))
          (cases_lt k at));
    }
