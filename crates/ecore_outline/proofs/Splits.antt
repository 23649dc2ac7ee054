-- Places in a file: what stands before an element, and what behind it; and lists that have an item for each element of a sort.
use Rattle.std.proofs.Common.{◌≡◌, ℕ, zero, suc, ◌+◌, ◌<◌, List, [], ◌∷◌, ◌++◌, length, get_or, refl, sym, ap, ◌∙◌, subst, append_assoc, arith}
use Rattle.std.specs.Prelude.{Bool, true, false, if◌then◌else◌, Some, slice_get, All, AllPairs}
use Rattle.std.proofs.lemmas.List.{append-nil}
use Rattle.std.proofs.lemmas.Option.{none-some, same_Some, slice_get-get_or}
use Rattle.ecore_outline.specs.Outline.{Entry, Role, count}

-- ## The parts of a list

abbrev first_or : {X : Type 0} → X → List X → X
first_or x [] = x
first_or x (y ∷ ys) = y

abbrev rest_of : {X : Type 0} → List X → List X
rest_of [] = []
rest_of (y ∷ ys) = ys

pub same_first : {X : Type 0} (x y : X) (xs ys : List X) → x ∷ xs ≡ y ∷ ys → x ≡ y
same_first x y xs ys h = ap (first_or x) h

pub same_rest : {X : Type 0} (x y : X) (xs ys : List X) → x ∷ xs ≡ y ∷ ys → xs ≡ ys
same_rest x y xs ys h = ap rest_of h

-- ## How many stand before

pub count-append : (of : Role → Bool) (xs ys : List Entry) → count of (xs ++ ys) ≡ count of xs + count of ys
count-append of [] ys = omega arith
count-append of (x ∷ xs) ys = by (of x.role) (count-append of xs ys)
  where
    by : (t : Bool) → count of (xs ++ ys) ≡ count of xs + count of ys → (if t then suc (count of (xs ++ ys)) else count of (xs ++ ys)) ≡ (if t then suc (count of xs) else count of xs) + count of ys
    by true h = omega arith
    by false h = h

pub count-one : (of : Role → Bool) (e : Entry) (es : List Entry) → of e.role ≡ true → count of (e ∷ es) ≡ suc (count of es)
count-one of e es h = ap (λ t. if t then suc (count of es) else count of es) h

pub count-other : (of : Role → Bool) (e : Entry) (es : List Entry) → of e.role ≡ false → count of (e ∷ es) ≡ count of es
count-other of e es h = ap (λ t. if t then suc (count of es) else count of es) h

pub count-here : (of : Role → Bool) (before : List Entry) (e : Entry) (behind : List Entry) → of e.role ≡ true → count of (before ++ (e ∷ behind)) ≡ suc (count of before + count of behind)
count-here of before e behind h = omega (arith, count-append of before (e ∷ behind), count-one of e behind h)

pub count-push : (of : Role → Bool) (before : List Entry) (e : Entry) → of e.role ≡ true → count of (before ++ (e ∷ [])) ≡ suc (count of before)
count-push of before e h = omega (arith, count-here of before e [] h)

pub count-push_other : (of : Role → Bool) (before : List Entry) (e : Entry) → of e.role ≡ false → count of (before ++ (e ∷ [])) ≡ count of before
count-push_other of before e h = omega (arith, count-append of before (e ∷ []), count-other of e [] h)

-- ## Two places in one file

pub data Meet (b c : List Entry) (d e : Entry) (h k : List Entry) : Type 0 where
  Same : b ≡ c → d ≡ e → h ≡ k → Meet b c d e h k
  Later : (m : List Entry) → c ≡ b ++ (d ∷ m) → Meet b c d e h k
  Earlier : (m : List Entry) → b ≡ c ++ (e ∷ m) → Meet b c d e h k

pub meet : (b c : List Entry) (d e : Entry) (h k : List Entry) → b ++ (d ∷ h) ≡ c ++ (e ∷ k) → Meet b c d e h k
meet [] [] d e h k p = Same refl (same_first d e h k p) (same_rest d e h k p)
meet [] (y ∷ c) d e h k p = Later c (ap (λ z. z ∷ c) (sym (same_first d y h (c ++ (e ∷ k)) p)))
meet (x ∷ b) [] d e h k p = Earlier b (ap (λ z. z ∷ b) (same_first x e (b ++ (d ∷ h)) k p))
meet (x ∷ b) (y ∷ c) d e h k p = on (meet b c d e h k (same_rest x y (b ++ (d ∷ h)) (c ++ (e ∷ k)) p))
  where
    first : x ≡ y
    first = same_first x y (b ++ (d ∷ h)) (c ++ (e ∷ k)) p

    on : Meet b c d e h k → Meet (x ∷ b) (y ∷ c) d e h k
    on (Same u v w) = Same (ap (λ z. z ∷ b) first ∙ ap (λ l. y ∷ l) u) v w
    on (Later m u) = Later m (ap (λ z. z ∷ c) (sym first) ∙ ap (λ l. x ∷ l) u)
    on (Earlier m u) = Earlier m (ap (λ z. z ∷ b) first ∙ ap (λ l. y ∷ l) u)

-- ## An item for each element of a sort

module _ {A : Type 0} (of : Role → Bool) (make : List Entry → Entry → List Entry → A) where
  abbrev pub rows : List Entry → List Entry → List A
  rows b [] = []
  rows b (e ∷ es) = if of e.role then make b e es ∷ rows (b ++ (e ∷ [])) es else rows (b ++ (e ∷ [])) es

  pub record RowAt (b rest : List Entry) (k : ℕ) (x : A) : Type 0 where
    pub before : List Entry
    pub here : Entry
    pub behind : List Entry
    pub whole : rest ≡ before ++ (here ∷ behind)
    pub role : of here.role ≡ true
    pub number : count of before ≡ k
    pub made : x ≡ make (b ++ before) here behind

  pub row_at : (b rest : List Entry) (k : ℕ) (x : A) → slice_get (rows b rest) k ≡ Some x → RowAt b rest k x
  row_at b [] k x h = absurd (none-some x h)
  row_at b (e ∷ es) k x h = by (λ k. row_at (b ++ (e ∷ [])) es k x) (of e.role) refl k h
    where
      on : (i j : ℕ) → (if of e.role then suc i else i) ≡ j → RowAt (b ++ (e ∷ [])) es i x → RowAt b (e ∷ es) j x
      on i j n w = record {
        before = e ∷ w.before;
        here = w.here;
        behind = w.behind;
        whole = ap (λ l. e ∷ l) w.whole;
        role = w.role;
        number = ap (λ c. if of e.role then suc c else c) w.number ∙ n;
        made = w.made ∙ ap (λ l. make l w.here w.behind) (append_assoc b (e ∷ []) w.before);
      }

      by : ((k : ℕ) → slice_get (rows (b ++ (e ∷ [])) es) k ≡ Some x → RowAt (b ++ (e ∷ [])) es k x)
          → (t : Bool) → of e.role ≡ t → (k : ℕ) → slice_get (if t then make b e es ∷ rows (b ++ (e ∷ [])) es else rows (b ++ (e ∷ [])) es) k ≡ Some x → RowAt b (e ∷ es) k x
      by later true r zero h = record {
        before = [];
        here = e;
        behind = es;
        whole = refl;
        role = r;
        number = refl;
        made = sym (same_Some (make b e es) x h) ∙ ap (λ l. make l e es) (sym (append-nil b));
      }
      by later true r (suc k) h = on k (suc k) (ap (λ t. if t then suc k else k) r) (later k h)
      by later false r k h = on k k (ap (λ t. if t then suc k else k) r) (later k h)

  pub row_here : (b before : List Entry) (e : Entry) (behind : List Entry) → of e.role ≡ true → slice_get (rows b (before ++ (e ∷ behind))) (count of before) ≡ Some (make (b ++ before) e behind)
  row_here b [] e behind h =
      ap (λ t. slice_get (if t then make b e behind ∷ rows (b ++ (e ∷ [])) behind else rows (b ++ (e ∷ [])) behind) 0) h
      ∙ ap (λ l. Some (make l e behind)) (sym (append-nil b))
  row_here b (d ∷ before) e behind h = by (of d.role) (row_here (b ++ (d ∷ [])) before e behind h ∙ ap (λ l. Some (make l e behind)) (append_assoc b (d ∷ []) before))
    where
      by : (t : Bool) → slice_get (rows (b ++ (d ∷ [])) (before ++ (e ∷ behind))) (count of before) ≡ Some (make (b ++ (d ∷ before)) e behind)
          → slice_get (if t then make b d (before ++ (e ∷ behind)) ∷ rows (b ++ (d ∷ [])) (before ++ (e ∷ behind)) else rows (b ++ (d ∷ [])) (before ++ (e ∷ behind))) (if t then suc (count of before) else count of before) ≡ Some (make (b ++ (d ∷ before)) e behind)
      by true h = h
      by false h = h

  pub length-rows : (b rest : List Entry) → length (rows b rest) ≡ count of rest
  length-rows b [] = refl
  length-rows b (e ∷ es) = by (of e.role) (length-rows (b ++ (e ∷ [])) es)
    where
      by : (t : Bool) → length (rows (b ++ (e ∷ [])) es) ≡ count of es → length (if t then make b e es ∷ rows (b ++ (e ∷ [])) es else rows (b ++ (e ∷ [])) es) ≡ (if t then suc (count of es) else count of es)
      by true h = ap suc h
      by false h = h

  -- the item of a number, with its place
  pub get_row : (file : List Entry) (k : ℕ) (d : A) → k < length (rows [] file) → RowAt [] file k (get_or (rows [] file) k d)
  get_row file k d h = row_at [] file k (get_or (rows [] file) k d) (slice_get-get_or (rows [] file) k d h)

  pub all_rows : (file : List Entry) (P : A → Type 0) → ((b : List Entry) (e : Entry) (h : List Entry) → file ≡ b ++ (e ∷ h) → of e.role ≡ true → P (make b e h)) → All P (rows [] file)
  all_rows file P f k d h =
      let w = get_row file k d h in
      subst P (sym w.made) (f w.before w.here w.behind w.whole w.role)

  -- two places of one sort of which one is before the other
  pub pairs_of_rows : (file : List Entry) (R : A → A → Type 0)
      → ((b : List Entry) (d : Entry) (h c : List Entry) (e : Entry) (k m : List Entry) → file ≡ b ++ (d ∷ h) → file ≡ c ++ (e ∷ k) → of d.role ≡ true → of e.role ≡ true → c ≡ b ++ (d ∷ m) → R (make b d h) (make c e k))
      → AllPairs R (rows [] file)
  pairs_of_rows file R f i j d l n = by (meet v.before w.before v.here w.here v.behind w.behind (sym v.whole ∙ w.whole))
    where
      v : RowAt [] file i (get_or (rows [] file) i d)
      v = get_row file i d (omega arith)

      w : RowAt [] file j (get_or (rows [] file) j d)
      w = get_row file j d n

      by : Meet v.before w.before v.here w.here v.behind w.behind → R (get_or (rows [] file) i d) (get_or (rows [] file) j d)
      by (Same p q r) = absurd (omega (arith, v.number, w.number, ap (count of) p))
      by (Later m p) =
          subst (λ x. R x (get_or (rows [] file) j d)) (sym v.made)
          (subst (λ y. R (make v.before v.here v.behind) y) (sym w.made)
          (f v.before v.here v.behind w.before w.here w.behind m v.whole w.whole v.role w.role p))
      by (Earlier m p) = absurd (omega (arith, v.number, w.number, ap (count of) p, count-here of w.before w.here m w.role))
