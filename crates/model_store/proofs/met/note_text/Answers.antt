use Rattle.std.proofs.Common.{◌≡◌, Bool, true, false, cond, refl, sym, ap, ◌∙◌, rules}
use Rattle.std.specs.Prelude.{◌||◌}
use Rattle.std.specs.HashSet.{contains_text}
use Rattle.std.specs.Str.{bytes_eq}
use Rattle.std.specs.String.{string_bytes}
use Rattle.std.proofs.lemmas.Cmp.{nat_list_eq_equiv}
use Rattle.std.proofs.lemmas.Map.Text.{hash_set_updates_text}
use Rattle.model_store.specs.declared.parts.Cellv.TheVariants.{Words}
use Rattle.model_store.specs.Writes.{same_value}
use Rattle.model_store.proofs.met.note_text.Goals as goal

or_cond : (b other : Bool) → cond b true other ≡ (b || other)
or_cond true other = refl
or_cond false other = refl

pub returns-in_ok-insert : goal.returns-in_ok-insert
returns-in_ok-insert c = λ t.
    let key = string_bytes c.in_ok-from_str.field-0 in
    let same : key ≡ c.in-Words.text = search rules in
    hash_set_updates_text key c.args.texts.now c.insert.new.self true c.in_ok-insert.ensures.updates t
    ∙ or_cond (bytes_eq key t) (contains_text c.args.texts.now t)
    ∙ ap (λ b. b || contains_text c.args.texts.now t) (nat_list_eq_equiv.symm key t ∙ ap (bytes_eq t) same ∙ ap (same_value (Words t)) (sym c.in-Words.is))
