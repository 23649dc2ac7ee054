-- What is said of one slot more.
use Rattle.std.proofs.Common.{◌≡◌, ℕ, ◌+◌, ◌<◌, List, [], ◌∷◌, ◌++◌, length, drop, sym, ap, ◌∙◌, append_assoc}
use Rattle.std.specs.Prelude.{slice_index_or}
use Rattle.std.proofs.lemmas.List.{drop_more, get_or_default}
use Rattle.atl_base.specs.declared.numbers.FeatId.{FeatId}
use Rattle.model_store.specs.declared.parts.Cellv.{Cellv}
use Rattle.xmi_write.specs.Xmi.{by_slot}

pub slot_more : {X : Type 0} (say : FeatId → List Cellv → List X) (fs : List FeatId) (slots : List (List Cellv)) (at : ℕ) (d : FeatId) (cells : List Cellv) → at < length fs → at < length slots
    → cells ≡ slice_index_or slots at cells → by_slot say (drop at fs) (drop at slots) ≡ say (slice_index_or fs at d) cells ++ by_slot say (drop (at + 1) fs) (drop (at + 1) slots)
slot_more say fs slots at d cells h k e =
    let f : FeatId = slice_index_or fs at d in
    let same : cells ≡ slice_index_or slots at [] = e ∙ get_or_default slots at cells [] k in
    ap (λ xs. by_slot say xs (drop at slots)) (drop_more fs at d h)
    ∙ ap (by_slot say (f ∷ drop (at + 1) fs)) (drop_more slots at [] k)
    ∙ ap (λ (c : List Cellv). say f c ++ by_slot say (drop (at + 1) fs) (drop (at + 1) slots)) (sym same)

-- a list that is longer by it, and what is left
pub list_more : {X : Type 0} (list longer here rest before : List X) → longer ≡ list ++ here → before ≡ here ++ rest → longer ++ rest ≡ list ++ before
list_more list longer here rest before l b = ap (λ xs. xs ++ rest) l ∙ append_assoc list here rest ∙ ap (λ xs. list ++ xs) (sym b)
