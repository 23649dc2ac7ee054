-- The set has the values of its sort, and says nothing of the others.
use Rattle.std.proofs.Common.{◌≡◌, refl, ap, subst, ◌∙◌}
use Rattle.std.specs.Prelude.{◌||◌}
use Rattle.std.proofs.lemmas.Result.{on_ok_weaker}
use Rattle.model_store.specs.declared.met.Met.{Met}
use Rattle.model_store.specs.declared.met.Met.TheVariants.{Objects, Ints, Texts}
use Rattle.model_store.specs.declared.parts.Cellv.{Cellv}
use Rattle.model_store.specs.declared.parts.Cellv.TheVariants.{Words, Int, Truth, Literal, Obj}
use Rattle.model_store.specs.Rows.{Knows, met_or}
use Rattle.model_store.specs.Writes.{same_value}
use Rattle.model_store.proofs.RowValues.{knows_more}
use Rattle.model_store.proofs.met.note.Goals as goal

pub returns-in-Objects : goal.returns-in-Objects
returns-in-Objects c =
    let before : Met = Objects c.in-Objects.objects in
    let after : Met = Objects c.note_object.new.objects in
    on_ok_weaker c.note_object.result (λ noted cells k.
    knows_more before after c.args.value.now (λ v other.
    elim v as (λ (v : Cellv). met_or before v other ≡ other → met_or after v (same_value v c.args.value.now || other) ≡ (same_value v c.args.value.now || other)) [
      | Words t ↦ λ e. refl
      | Int n ↦ λ e. refl
      | Truth b ↦ λ e. refl
      | Literal l ↦ λ e. refl
      | Obj p ↦ λ e. noted p.0 ∙ ap (λ x. same_value (Obj p) c.args.value.now || x) e
    ])
    cells (subst (λ (met : Met). Knows met cells) c.in-Objects.is k)) c.note_object.ensures

pub returns-in-Ints : goal.returns-in-Ints
returns-in-Ints c =
    let before : Met = Ints c.in-Ints.ints in
    let after : Met = Ints c.note_int.new.ints in
    on_ok_weaker c.note_int.result (λ noted cells k.
    knows_more before after c.args.value.now (λ v other.
    elim v as (λ (v : Cellv). met_or before v other ≡ other → met_or after v (same_value v c.args.value.now || other) ≡ (same_value v c.args.value.now || other)) [
      | Words t ↦ λ e. refl
      | Int n ↦ λ e. noted n ∙ ap (λ x. same_value (Int n) c.args.value.now || x) e
      | Truth b ↦ λ e. refl
      | Literal l ↦ λ e. refl
      | Obj p ↦ λ e. refl
    ])
    cells (subst (λ (met : Met). Knows met cells) c.in-Ints.is k)) c.note_int.ensures

pub returns-in-Texts : goal.returns-in-Texts
returns-in-Texts c =
    let before : Met = Texts c.in-Texts.texts in
    let after : Met = Texts c.note_text.new.texts in
    on_ok_weaker c.note_text.result (λ noted cells k.
    knows_more before after c.args.value.now (λ v other.
    elim v as (λ (v : Cellv). met_or before v other ≡ other → met_or after v (same_value v c.args.value.now || other) ≡ (same_value v c.args.value.now || other)) [
      | Words t ↦ λ e. noted t ∙ ap (λ x. same_value (Words t) c.args.value.now || x) e
      | Int n ↦ λ e. refl
      | Truth b ↦ λ e. refl
      | Literal l ↦ λ e. refl
      | Obj p ↦ λ e. refl
    ])
    cells (subst (λ (met : Met). Knows met cells) c.in-Texts.is k)) c.note_text.ensures
