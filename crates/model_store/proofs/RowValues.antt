-- Whether a slot has a value, with one value more, and as its set of values says it.
use Rattle.std.proofs.Common.{◌≡◌, ℕ, ◌+◌, ◌<◌, List, [], ◌∷◌, ◌++◌, length, get_or, take, refl, sym, ap, subst, ◌∙◌}
use Rattle.std.specs.Prelude.{◌||◌, Bool, true, false}
use Rattle.std.specs.List.{list_any}
use Rattle.std.proofs.Math.Bool.{or_comm}
use Rattle.std.proofs.lemmas.Cmp.{nat_eq_equiv}
use Rattle.std.proofs.lemmas.List.{take_more}
use Rattle.std.proofs.lemmas.List.Folds.{list_any-append}
use Rattle.atl_base.specs.declared.numbers.ObjId.{ObjId}
use Rattle.model_store.specs.declared.met.Met.{Met}
use Rattle.model_store.specs.declared.parts.Cellv.{Cellv}
use Rattle.model_store.specs.declared.parts.Cellv.TheVariants.{Words, Int, Truth, Literal, Obj}
use Rattle.model_store.specs.Contents.{holds, refers_to}
use Rattle.model_store.specs.Rows.{Knows, met_or}
use Rattle.model_store.specs.Writes.{same_value}

or_none : (b : Bool) → (b || false) ≡ b
or_none true = refl
or_none false = refl

pub has_push : (v : Cellv) (cells : List Cellv) (value : Cellv) → list_any (same_value v) (cells ++ value ∷ []) ≡ (same_value v value || list_any (same_value v) cells)
has_push v cells value =
    list_any-append (same_value v) cells (value ∷ [])
    ∙ ap (λ b. list_any (same_value v) cells || b) (or_none (same_value v value))
    ∙ or_comm (list_any (same_value v) cells) (same_value v value)

same_object : (p : ObjId) (c : Cellv) → same_value (Obj p) c ≡ refers_to p c
same_object p (Words t) = refl
same_object p (Int n) = refl
same_object p (Truth b) = refl
same_object p (Literal l) = refl
same_object p (Obj q) = nat_eq_equiv.symm p.0 q.0

pub holds_by_values : (p : ObjId) (cells : List Cellv) → list_any (same_value (Obj p)) cells ≡ holds p cells
holds_by_values p [] = refl
holds_by_values p (c ∷ cells) = ap (λ b. b || list_any (same_value (Obj p)) cells) (same_object p c) ∙ ap (λ b. refers_to p c || b) (holds_by_values p cells)

-- ## The set of values

-- the set of a slot with one value more
abbrev pub Noted : Met → Met → Cellv → Type 0
Noted before after value = (v : Cellv) (b : Bool) → met_or before v b ≡ b → met_or after v (same_value v value || b) ≡ (same_value v value || b)

pub knows_more : (before after : Met) (value : Cellv) → Noted before after value → (cells : List Cellv) → Knows before cells → Knows after (cells ++ value ∷ [])
knows_more before after value noted cells k = record {
  all = λ v. ap (met_or after v) (has_push v cells value) ∙ noted v (list_any (same_value v) cells) (k.all v) ∙ sym (has_push v cells value);
}

pub knows_next : (before after : Met) (cells : List Cellv) (i : ℕ) (d : Cellv) → i < length cells
    → ((l : List Cellv) → Knows before l → Knows after (l ++ get_or cells i d ∷ [])) → Knows before (take i cells) → Knows after (take (i + 1) cells)
knows_next before after cells i d l more k = subst (Knows after) (sym (take_more cells i d l)) (more (take i cells) k)
