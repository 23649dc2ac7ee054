use Rattle.std.proofs.Common.{◌≡◌, ℕ, ◌+◌, ◌<◌, ◌≤◌, List, [], ◌∷◌, ◌++◌, Some, length, refl, sym, ap, subst, ◌∙◌, ⊎_elim, rules, arith}
use Rattle.std.specs.Prelude.{IsSome, slice_index}
use Rattle.std.specs.HashMap.{get_by_text}
use Rattle.std.proofs.lemmas.Bool.{cases_lt}
use Rattle.std.proofs.lemmas.List.{get_or_append_left, get_or_push, length_push}
use Rattle.ecore_meta.specs.Inheritance.{name_of}
use Rattle.ecore_meta.proofs.NameLaws.{name_at}
use Rattle.ecore_meta.proofs.names.first_places.Goals as goal

pub loop-place-preserved : goal.loop-place-preserved
loop-place-preserved c =
    let i = c.loop-place.invariant in
    let features = c.args.features.now in
    let here : ℕ = c.loop-place.place in
    let of : List ℕ = c.loop-place.of.items in
    let e = c.in_ok-first.ensures in
    let inside : here < length features = search rules in
    let name : name_of features (record { 0 = here }) ≡ c.as_str.result.now = name_at features here c.index-features-place.result inside ∙ ap (λ f. f.name) (sym c.index-features-place.is) ∙ sym c.as_str.ensures.text in
    record {
      bears = λ q k h. ⊎_elim
          (λ (old : get_by_text c.loop-place.firsts q ≡ Some k). i.bears q k old)
          (λ (new : (q ≡ c.as_str.result.now) × (k ≡ here)).
          subst (λ n. (n < length features) × (name_of features (record { 0 = n }) ≡ q)) (sym new.1) (inside, name ∙ sym new.0))
          (e.added q k h);
      lengths = ap length c.in_ok-push.ensures.items ∙ length_push of c.in_ok-first.first ∙ ap (λ n. n + 1) i.lengths;
      each = λ f h. subst (λ (l : List ℕ). get_by_text c.place_of.new.firsts (name_of features f) ≡ Some (slice_index l f.0)) (sym c.in_ok-push.ensures.items)
          (⊎_elim
          (λ (old : f.0 < here). e.kept (name_of features f) (slice_index of f.0) (i.each f old) ∙ ap Some (sym (get_or_append_left of (c.in_ok-first.first ∷ []) 0 f.0 (omega (arith, i.lengths)))))
          (λ (new : here ≤ f.0).
          let same : here ≡ f.0 = omega arith in
          subst (λ n. get_by_text c.place_of.new.firsts (name_of features (record { 0 = n })) ≡ Some (slice_index (of ++ c.in_ok-first.first ∷ []) n)) same
          (ap (get_by_text c.place_of.new.firsts) name ∙ e.here ∙ ap Some (sym (get_or_push of c.in_ok-first.first 0 here i.lengths))))
          (cases_lt f.0 here));
    }

pub returns-clause-firsts : goal.returns-clause-firsts
returns-clause-firsts c =
    let i = c.loop-place.invariant in
    record {
      bears = i.bears;
      each = λ f h. let done : f.0 < c.loop-place.place = search rules in subst IsSome (sym (i.each f done)) refl;
    }
