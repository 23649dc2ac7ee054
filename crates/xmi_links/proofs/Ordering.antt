-- Holders stand before what they hold, also in a part of a file.
use Rattle.std.proofs.Common.{◌≡◌, ℕ, ◌≤◌, List, [], ◌∷◌, ◌++◌, sym, subst, ◌∙◌, append_assoc, arith}
use Rattle.xmi_models.specs.Outline.{Entry, Part, Around, Root, Content, Value, Cross, Unknown, Inner, objects_in}
use Rattle.xmi_models.proofs.Walking.{counted_together}
use Rattle.xmi_links.specs.Stages.{AreOrdered, HolderBelow}
use Rattle.xmi_links.proofs.Entering.{HoldersBelow}

weaker : (part : Part) (k n : ℕ) → k ≤ n → HolderBelow k part → HolderBelow n part
weaker (Content p f c) k n l h = omega (arith, l, h)
weaker (Value p f) k n l h = omega (arith, l, h)
weaker Around k n l h = tt
weaker (Root c) k n l h = tt
weaker (Cross f c) k n l h = tt
weaker (Unknown c) k n l h = tt
weaker Inner k n l h = tt

below_from : (file : List Entry) → AreOrdered file → (n : ℕ) (pre mid rest : List Entry) → pre ++ (mid ++ rest) ≡ file → objects_in (pre ++ mid) ≤ n → HoldersBelow n mid
below_from file ordered n pre [] rest is l = tt
below_from file ordered n pre (e ∷ mid) rest is l = (
  weaker e.part (objects_in pre) n (omega (arith, l, counted_together pre (e ∷ mid))) (ordered pre (mid ++ rest) e is),
  below_from file ordered n (pre ++ e ∷ []) mid rest (append_assoc pre (e ∷ []) (mid ++ rest) ∙ is) (subst (λ (es : List Entry). objects_in es ≤ n) (sym (append_assoc pre (e ∷ []) mid)) l),
)

pub ordered_below : (file : List Entry) → AreOrdered file → (before rest : List Entry) → before ++ rest ≡ file → HoldersBelow (objects_in before) before
ordered_below file ordered before rest is = below_from file ordered (objects_in before) [] before rest is (omega arith)
