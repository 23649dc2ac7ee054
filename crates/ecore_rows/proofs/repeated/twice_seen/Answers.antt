use Rattle.std.proofs.Common.{◌≡◌, ℕ, ◌+◌, ◌-◌, ◌≤◌, [], ◌<◌, get_or, length, map, take, drop, inr, eqb, refl, sym, ap, ◌∙◌, subst, arith}
use Rattle.std.specs.Prelude.{true, false, max, ◌||◌}
use Rattle.std.specs.List.{list_any}
use Rattle.std.specs.List.Sorted.{IsNonDecreasing}
use Rattle.std.specs.Option.{option_copied}
use Rattle.std.proofs.lemmas.List.{take_rest, get_or_default}
use Rattle.xmi_text.specs.Inheriting.{conforms}
use Rattle.ecore_rows.specs.Rows.{twice_from}
use Rattle.ecore_rows.specs.CodeRows.{feature_rows_of}
use Rattle.ecore_rows.proofs.Reaching.{contained}
use Rattle.ecore_rows.proofs.SeenRows.{from, from_zero, AreLeft, left_next, class_step, none_next, none_left, some_or, none_or, or_false}
use Rattle.ecore_rows.proofs.repeated.twice_seen.Goals as goal

pub loop-k-init : goal.loop-k-init
loop-k-init c = record {
  told = ap (λ ks. twice_from c.args.supers.now c.args.class (map (λ k. k.now) ks) (from 0 (feature_rows_of c.args.features.now))) c.new-seen.ensures.empty
      ∙ ap (twice_from c.args.supers.now c.args.class []) (from_zero (feature_rows_of c.args.features.now));
  left = λ d h. inr (ap (list_any (eqb d)) c.as_slice-list.ensures.value ∙ c.in_ok-classes.ensures.same d ∙ ap (list_any (eqb d)) c.as_slice.ensures.keys ∙ c.in_ok-reached.ensures d ∙ ap (λ b. b || false) h);
}

pub returns-then-is_some : goal.returns-then-is_some
returns-then-is_some c =
    let supers = c.args.supers.now in
    let features = c.args.features.now in
    let rows = feature_rows_of features in
    let list = c.as_slice-list.result.now in
    let rising = subst IsNonDecreasing (sym c.as_slice-list.ensures.value) c.in_ok-classes.ensures.rising in
    let old = map (λ k. k.now) c.loop-k.seen.keys in
    let new = map (λ k. k.now) c.twice_own.new.seen.keys in
    let owner : ℕ = get_or list c.loop-k.k 0 in
    let inside : c.loop-k.k < length list = c.loop-k-test.true in
    let cut : feature_rows_of (take (length features - c.begin_of-begin.result) (drop c.begin_of-begin.result features)) ≡ from (max c.loop-k.next owner) rows =
    ap feature_rows_of (take_rest features c.begin_of-begin.result) ∙ c.begin_of-begin.ensures.begin ∙ ap (λ n. from n rows) c.later-start.ensures in
    let among : list_any (eqb owner) list ≡ true = contained list owner (c.loop-k.k, inside, get_or_default list c.loop-k.k owner 0 inside) in
    let conforming : conforms supers c.args.class owner ≡ true =
    or_false (conforms supers c.args.class owner) ∙ sym (c.in_ok-reached.ensures owner) ∙ ap (list_any (eqb owner)) (sym c.as_slice.ensures.keys) ∙ sym (c.in_ok-classes.ensures.same owner) ∙ ap (list_any (eqb owner)) (sym c.as_slice-list.ensures.value) ∙ among in
    let step = class_step supers c.args.class list rising rows _ old new (option_copied c.in_ok-name.name) c.loop-k.next c.loop-k.k owner c.requires.rising inside refl c.loop-k.invariant.left cut
    (c.in_ok-name.ensures supers c.args.class conforming) in
    some_or c.in_ok-name.name (twice_from supers c.args.class new (from (max c.loop-k.next (owner + 1)) rows)) (sym c.is_some.ensures ∙ c.if-is_some.true)
    ∙ sym step
    ∙ c.loop-k.invariant.told

pub loop-k-preserved : goal.loop-k-preserved
loop-k-preserved c =
    let supers = c.args.supers.now in
    let features = c.args.features.now in
    let rows = feature_rows_of features in
    let list = c.as_slice-list.result.now in
    let rising = subst IsNonDecreasing (sym c.as_slice-list.ensures.value) c.in_ok-classes.ensures.rising in
    let old = map (λ k. k.now) c.loop-k.seen.keys in
    let new = map (λ k. k.now) c.twice_own.new.seen.keys in
    let owner : ℕ = get_or list c.loop-k.k 0 in
    let inside : c.loop-k.k < length list = c.loop-k-test.true in
    let cut : feature_rows_of (take (length features - c.begin_of-begin.result) (drop c.begin_of-begin.result features)) ≡ from (max c.loop-k.next owner) rows =
    ap feature_rows_of (take_rest features c.begin_of-begin.result) ∙ c.begin_of-begin.ensures.begin ∙ ap (λ n. from n rows) c.later-start.ensures in
    let among : list_any (eqb owner) list ≡ true = contained list owner (c.loop-k.k, inside, get_or_default list c.loop-k.k owner 0 inside) in
    let conforming : conforms supers c.args.class owner ≡ true =
    or_false (conforms supers c.args.class owner) ∙ sym (c.in_ok-reached.ensures owner) ∙ ap (list_any (eqb owner)) (sym c.as_slice.ensures.keys) ∙ sym (c.in_ok-classes.ensures.same owner) ∙ ap (list_any (eqb owner)) (sym c.as_slice-list.ensures.value) ∙ among in
    let step = class_step supers c.args.class list rising rows _ old new (option_copied c.in_ok-name.name) c.loop-k.next c.loop-k.k owner c.requires.rising inside refl c.loop-k.invariant.left cut
    (c.in_ok-name.ensures supers c.args.class conforming) in
    record {
      told = ap (λ n. twice_from supers c.args.class new (from n rows)) c.past-next.ensures
          ∙ none_or c.in_ok-name.name (twice_from supers c.args.class new (from (max c.loop-k.next (owner + 1)) rows)) (sym c.is_some.ensures ∙ c.if-is_some.false)
          ∙ sym step
          ∙ c.loop-k.invariant.told;
      left = subst (λ n. AreLeft supers c.args.class list n (c.loop-k.k + 1)) (sym c.past-next.ensures)
          (left_next supers c.args.class list rising c.loop-k.next c.loop-k.k owner inside refl c.loop-k.invariant.left);
    }

pub returns : goal.returns
returns c =
    let list = c.as_slice-list.result.now in
    let rising = subst IsNonDecreasing (sym c.as_slice-list.ensures.value) c.in_ok-classes.ensures.rising in
    let past : length list ≤ c.loop-k.k = omega (arith, c.loop-k-test.false) in
    sym (none_left c.args.supers.now c.args.class (feature_rows_of c.args.features.now) c.loop-k.next (map (λ k. k.now) c.loop-k.seen.keys)
    (none_next c.args.supers.now c.args.class list rising c.loop-k.next c.loop-k.k past c.loop-k.invariant.left))
    ∙ c.loop-k.invariant.told
