-- Lists of namespace declarations that are alike.
use Rattle.std.proofs.Common.{◌≡◌, ℕ, ◌+◌, ◌<◌, List, length, get_or, drop, refl, ap, ◌∙◌}
use Rattle.std.specs.Prelude.{Bool, true, false, ◌&&◌, bytes_eq}
use Rattle.std.proofs.lemmas.List.{drop_more}
use Rattle.std.proofs.lemmas.Bool.{false≢true}
use Rattle.std.proofs.lemmas.Slice.Eq.{bytes_eq-Decides}
use Rattle.doc_text.specs.declared.tree.Prefix.{Prefix}

both : (a b : Bool) → (a && b) ≡ true → (a ≡ true) × (b ≡ true)
both true b h = (refl, h)
both false b h = absurd (false≢true h)

-- two of one prefix and one namespace
pub same_prefix : (a b : Prefix) → (bytes_eq a.prefix b.prefix && bytes_eq a.uri b.uri) ≡ true → a ≡ b
same_prefix a b h =
    let t = both (bytes_eq a.prefix b.prefix) (bytes_eq a.uri b.uri) h in
    ap (λ (p : List ℕ). let d : Prefix = record { prefix = p; uri = a.uri } in d) ((bytes_eq-Decides a.prefix b.prefix).0 t.0)
    ∙ ap (λ (u : List ℕ). let d : Prefix = record { prefix = b.prefix; uri = u } in d) ((bytes_eq-Decides a.uri b.uri).0 t.1)

-- what is alike behind a place is alike from the place on, where the same stands there
pub same_from : {X : Type 0} (i : ℕ) (xs ys : List X) (x y : X) → i < length xs → i < length ys → x ≡ get_or xs i x → y ≡ get_or ys i y → x ≡ y → drop (i + 1) xs ≡ drop (i + 1) ys → drop i xs ≡ drop i ys
same_from i xs ys x y l m p q e rest =
    let a = drop_more xs i x l in
    let b = drop_more ys i y m in
    cc
