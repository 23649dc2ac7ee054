use Rattle.std.proofs.Common.{◌≡◌, ◌++◌, map, sym, ap, ◌∙◌, subst}
use Rattle.std.specs.Prelude.{true, false}
use Rattle.std.proofs.lemmas.List.{map-append}
use Rattle.ecore_outline.specs.Entries.{entries_of}
use Rattle.ecore_names.specs.Targets.{own_of}
use Rattle.xmi_text.specs.Keys.{keys_of, AreFirsts}
use Rattle.ecore_names.specs.Owns.{owns_from, owns_of, row_key, row_own}
use Rattle.ecore_names.proofs.owns.owns_in.Goals as goal

pub returns : goal.returns
returns c =
    let file = entries_of c.args.entries.now in
    let kept = owns_from true 0 0 file in
    let skipped = owns_from false 0 0 file in
    let keys : keys_of c.push_owns-2.new.keys.items ≡ map row_key (owns_of file) =
    c.in_ok-push_owns-2.ensures.keys
    ∙ ap (λ l. l ++ map row_key skipped) (c.in_ok-push_owns.ensures.keys ∙ ap (λ l. keys_of l ++ map row_key kept) c.new-keys.ensures.items)
    ∙ sym (map-append row_key kept skipped) in
    record {
      places = subst (AreFirsts c.in_ok-places.places) (ap keys_of c.deref.ensures.value ∙ keys) c.in_ok-places.ensures;
      owns = c.in_ok-push_owns-2.ensures.owns
          ∙ ap (λ l. l ++ map row_own skipped) (c.in_ok-push_owns.ensures.owns ∙ ap (λ l. map own_of l ++ map row_own kept) c.new-owns.ensures.items)
          ∙ sym (map-append row_own kept skipped);
    }
