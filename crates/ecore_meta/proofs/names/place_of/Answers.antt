use Rattle.std.proofs.Common.{◌≡◌, ℕ, ◌⊎◌, List, None, Some, ap, subst, ◌∙◌, rules}
use Rattle.std.specs.Prelude.{string_bytes}
use Rattle.std.specs.HashMap.{get_by_text}
use Rattle.std.proofs.lemmas.Map.Text.{hash_map_updates_text}
use Rattle.ecore_meta.proofs.NameLaws.{text_kept, text_added}
use Rattle.ecore_meta.proofs.names.place_of.Goals as goal

pub returns-clause-kept : goal.returns-clause-kept
returns-clause-kept c =
    let absent : get_by_text c.args.firsts.now c.args.name.now ≡ None = search rules in
    text_kept (get_by_text c.args.firsts.now) (get_by_text c.insert.new.self) (string_bytes c.in_ok-from_str.field-0) c.args.place
    (hash_map_updates_text (string_bytes c.in_ok-from_str.field-0) c.args.firsts.now c.insert.new.self (Some c.args.place) c.in_ok-insert.ensures.updates)
    (ap (get_by_text c.args.firsts.now) c.in_ok-from_str.ensures.ok ∙ absent)

pub returns-clause-added : goal.returns-clause-added
returns-clause-added c =
    let absent : get_by_text c.args.firsts.now c.args.name.now ≡ None = search rules in
    subst (λ (bs : List ℕ). (q : List ℕ) (i : ℕ) → get_by_text c.insert.new.self q ≡ Some i → ((get_by_text c.args.firsts.now q ≡ Some i) ⊎ ((q ≡ bs) × (i ≡ c.args.place)))) c.in_ok-from_str.ensures.ok
    (text_added (get_by_text c.args.firsts.now) (get_by_text c.insert.new.self) (string_bytes c.in_ok-from_str.field-0) c.args.place
    (hash_map_updates_text (string_bytes c.in_ok-from_str.field-0) c.args.firsts.now c.insert.new.self (Some c.args.place) c.in_ok-insert.ensures.updates)
    (ap (get_by_text c.args.firsts.now) c.in_ok-from_str.ensures.ok ∙ absent))
