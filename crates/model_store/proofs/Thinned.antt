-- A slot without an object, and a slot with one more.
use Rattle.std.proofs.Common.{◌≡◌, ◌≢◌, ℕ, zero, suc, ◌<◌, ◌≤◌, ◌⊎◌, inl, inr, List, [], ◌∷◌, length, refl, sym, ap, ◌∙◌, subst, ⊎_elim, arith}
use Rattle.std.specs.Prelude.{◌||◌, Bool, true, false, if◌then◌else◌, Contains, slice_index_or}
use Rattle.std.proofs.lemmas.Bool.{eqb-true, eq-eqb, ne_eqb, true≢false, or_left, or_right}
use Rattle.atl_base.specs.declared.numbers.ObjId.{ObjId}
use Rattle.model_store.specs.declared.parts.Cellv.{Cellv}
use Rattle.model_store.specs.declared.parts.Cellv.TheVariants.{Words, Int, Truth, Literal, Obj}
use Rattle.model_store.specs.Contents.{refers_to, holds, without}
use Rattle.model_store.proofs.Slots.{same_object}

pub Contains_first : {X : Type 0} (x : X) (xs : List X) → Contains (x ∷ xs) x
Contains_first x xs = (0, omega arith, refl)

pub Contains_later : {X : Type 0} (x y : X) (xs : List X) → Contains xs y → Contains (x ∷ xs) y
Contains_later x y xs h = (suc h.0, omega (arith, h.1), h.2)

pub Contains_none : {X : Type 0} (y : X) → Contains [] y → ⊥
Contains_none y h = absurd (omega (arith, h.1))

pub Contains_cases : {X : Type 0} (x y : X) (xs : List X) → Contains (x ∷ xs) y → (x ≡ y) ⊎ Contains xs y
Contains_cases x y xs h = at h.0 h.1 h.2
  where
    at : (k : ℕ) → k < length (x ∷ xs) → slice_index_or (x ∷ xs) k y ≡ y → (x ≡ y) ⊎ Contains xs y
    at zero l e = inl e
    at (suc k) l e = inr (k, omega (arith, l), e)

-- ## Which object a value is

abbrev IsObj : Cellv → ObjId → Type 0
IsObj c p = Obj p ≡ c

pub refers_is : (p : ObjId) (c : Cellv) → refers_to p c ≡ true → Obj p ≡ c
refers_is p (Obj q) h = ap Obj (same_object p q (sym (eqb-true q.0 p.0 h)))
refers_is p (Words t) h = absurd (true≢false (sym h))
refers_is p (Int n) h = absurd (true≢false (sym h))
refers_is p (Truth b) h = absurd (true≢false (sym h))
refers_is p (Literal l) h = absurd (true≢false (sym h))

pub refers_same : (p : ObjId) → refers_to p (Obj p) ≡ true
refers_same p = eq-eqb p.0 p.0 refl

pub refers_other : (p q : ObjId) → p ≢ q → refers_to p (Obj q) ≡ false
refers_other p q n = ne_eqb q.0 p.0 (λ e. n (same_object p q (sym e)))

pub held : (p : ObjId) (cells : List Cellv) → holds p cells ≡ true → Contains cells (Obj p)
held p [] h = absurd (true≢false (sym h))
held p (c ∷ cells) h = on (refers_to p c) refl (λ g. held p cells g)
  where
    on : (b : Bool) → refers_to p c ≡ b → (holds p cells ≡ true → Contains cells (Obj p)) → Contains (c ∷ cells) (Obj p)
    on true e again = subst (λ d. Contains (d ∷ cells) (Obj p)) (refers_is p c e) (Contains_first (Obj p) cells)
    on false e again = Contains_later c (Obj p) cells (again (ap (λ b. b || holds p cells) (sym e) ∙ h))

pub holding : (p : ObjId) (cells : List Cellv) → Contains cells (Obj p) → holds p cells ≡ true
holding p [] h = absurd (Contains_none (Obj p) h)
holding p (c ∷ cells) h = ⊎_elim
    (λ (e : c ≡ Obj p). or_left (refers_to p c) (holds p cells) (ap (refers_to p) e ∙ refers_same p))
    (λ (g : Contains cells (Obj p)). or_right (refers_to p c) (holds p cells) (holding p cells g))
    (Contains_cases c (Obj p) cells h)

pub not_held : (p : ObjId) (cells : List Cellv) → holds p cells ≡ false → Contains cells (Obj p) → ⊥
not_held p cells e h = true≢false (sym (holding p cells h) ∙ e)

-- ## Without an object

pub without_subset : (p : ObjId) (cells : List Cellv) (x : Cellv) → Contains (without p cells) x → Contains cells x
without_subset p [] x h = h
without_subset p (c ∷ cells) x h = on (refers_to p c) h (λ g. without_subset p cells x g)
  where
    on : (b : Bool) → Contains (if b then without p cells else c ∷ without p cells) x → (Contains (without p cells) x → Contains cells x) → Contains (c ∷ cells) x
    on true h again = Contains_later c x cells (again h)
    on false h again = ⊎_elim
        (λ (e : c ≡ x). subst (λ d. Contains (c ∷ cells) d) e (Contains_first c cells))
        (λ (g : Contains (without p cells) x). Contains_later c x cells (again g))
        (Contains_cases c x (without p cells) h)

pub without_not : (p : ObjId) (cells : List Cellv) → Contains (without p cells) (Obj p) → ⊥
without_not p [] h = Contains_none (Obj p) h
without_not p (c ∷ cells) h = on (refers_to p c) refl h (λ g. without_not p cells g)
  where
    on : (b : Bool) → refers_to p c ≡ b → Contains (if b then without p cells else c ∷ without p cells) (Obj p) → (Contains (without p cells) (Obj p) → ⊥) → ⊥
    on true e h again = again h
    on false e h again = ⊎_elim
        (λ (s : c ≡ Obj p). true≢false (sym (refers_same p) ∙ ap (refers_to p) (sym s) ∙ e))
        (λ (g : Contains (without p cells) (Obj p)). again g)
        (Contains_cases c (Obj p) (without p cells) h)

pub without_kept : (p q : ObjId) (cells : List Cellv) → p ≢ q → Contains cells (Obj q) → Contains (without p cells) (Obj q)
without_kept p q [] n h = h
without_kept p q (c ∷ cells) n h = on (refers_to p c) refl (λ g. without_kept p q cells n g)
  where
    on : (b : Bool) → refers_to p c ≡ b → (Contains cells (Obj q) → Contains (without p cells) (Obj q)) → Contains (if b then without p cells else c ∷ without p cells) (Obj q)
    on true e again = ⊎_elim
        (λ (s : c ≡ Obj q). absurd (true≢false (sym e ∙ ap (refers_to p) s ∙ refers_other p q n)))
        again
        (Contains_cases c (Obj q) cells h)
    on false e again = ⊎_elim
        (λ (s : c ≡ Obj q). subst (λ d. Contains (c ∷ without p cells) d) s (Contains_first c (without p cells)))
        (λ (g : Contains cells (Obj q)). Contains_later c (Obj q) (without p cells) (again g))
        (Contains_cases c (Obj q) cells h)

pub without_length : (p : ObjId) (cells : List Cellv) → length (without p cells) ≤ length cells
without_length p [] = omega arith
without_length p (c ∷ cells) = on (refers_to p c) (without_length p cells)
  where
    on : (b : Bool) → length (without p cells) ≤ length cells → length (if b then without p cells else c ∷ without p cells) ≤ length (c ∷ cells)
    on true h = omega (arith, h)
    on false h = omega (arith, h)
