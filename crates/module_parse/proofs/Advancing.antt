-- Reading from a token on, by the step that is taken there.
use Rattle.std.proofs.Common.{◌≡◌, ℕ, ◌+◌, ◌-◌, ◌<◌, ◌||◌, ◌==◌, ◌≢◌, ◌⊎◌, inl, inr, List, [], ◌∷◌, Bool, true, false, suc, length, drop, get_or, refl, sym, ap, subst, ◌∙◌, arith, length-drop}
use Rattle.std.specs.Prelude.{Result, Err, if◌then◌else◌}
use Rattle.std.proofs.lemmas.List.{drop_more}
use Rattle.std.proofs.lemmas.Bool.{eq-eqb, ne_eqb}
use Rattle.std.proofs.lemmas.Bool.Decides.{eqb_tells}
use Rattle.atl_base.specs.declared.place.Place.{Place}
use Rattle.atl_tree.specs.declared.module.Module.{Module}
use Rattle.atl_tree.specs.declared.token.Token.{Token}
use Rattle.atl_tree.specs.Tokens.{leads_name, begins_arrow}
use Rattle.ocl_parse.specs.declared.refusal.ParseRefusal.{ParseRefusal}
use Rattle.ocl_parse.specs.declared.refusal.ParseRefusal.TheVariants as R
use Rattle.ocl_parse.specs.Variables.{refused_at}
use Rattle.module_grammar.specs.Marks.{Content, Mark, mark, content_of, marks}
use Rattle.module_states.specs.Machine.{State, Step, Goes, Refuses, TooDeep, step, after, run}
use Rattle.module_parse.specs.Reading.{is_other, told, Fails, IsRefused}

length_marks : (led : Bool) (ts : List Token) → length (marks led ts) ≡ length ts
length_marks led [] = refl
length_marks led (t ∷ ts) = ap suc (length_marks (leads_name t) ts)

same_test : (l n i : ℕ) → l ≡ n - i → i < n → (l == n) ≡ (i == 0)
same_test l n i h k = on (eqb_tells l n)
  where
    on : ((l == n) ≡ true) × (l ≡ n) ⊎ ((l == n) ≡ false) × (l ≢ n) → (l == n) ≡ (i == 0)
    on (inl e) = e.0 ∙ sym (eq-eqb i 0 (omega (arith, e.1, h, k)))
    on (inr e) = e.0 ∙ sym (ne_eqb i 0 (λ z. e.1 (omega (arith, z, h, k))))

-- what stands at a place, and what is read there
record Here (ts : List Token) (i : ℕ) (led named : Bool) (t : Token) (c : Content) : Type 0 where
  pub within : i < length ts
  pub is : t ≡ get_or ts i t
  pub said : named ≡ (led || begins_arrow (drop (i + 1) ts))
  pub read : c ≡ content_of t.sort t.text named

abbrev rest_at : List Token → ℕ → Token → Content → List Mark
rest_at ts i t c = mark t.place c ∷ marks (leads_name t) (drop (i + 1) ts)

marks_at : (ts : List Token) (i : ℕ) (led named : Bool) (t : Token) (c : Content) → Here ts i led named t c → marks led (drop i ts) ≡ rest_at ts i t c
marks_at ts i led named t c h =
    ap (marks led) (drop_more ts i t h.within ∙ ap (λ u. u ∷ drop (i + 1) ts) (sym h.is))
    ∙ ap (λ d. rest_at ts i t d) (ap (content_of t.sort t.text) (sym h.said) ∙ sym h.read)

begun : (ts : List Token) (i : ℕ) (led named : Bool) (t : Token) (c : Content) (s : State) (u : Step) → Here ts i led named t c → step true s c t.place ≡ u
    → run true s (marks led (drop i ts)) ≡ after u (rest_at ts i t c) (λ v. run true v (marks (leads_name t) (drop (i + 1) ts)))
begun ts i led named t c s u h e =
    ap (run true s) (marks_at ts i led named t c h) ∙ ap (λ v. after v (rest_at ts i t c) (λ w. run true w (marks (leads_name t) (drop (i + 1) ts)))) e

pub run_goes : (ts : List Token) (i : ℕ) (led named leads : Bool) (t : Token) (c : Content) (s u : State)
    → i < length ts → t ≡ get_or ts i t → named ≡ (led || begins_arrow (drop (i + 1) ts)) → c ≡ content_of t.sort t.text named → step true s c t.place ≡ Goes u → leads ≡ leads_name t
    → run true s (marks led (drop i ts)) ≡ run true u (marks leads (drop (i + 1) ts))
run_goes ts i led named leads t c s u h is n r e l =
    begun ts i led named t c s (Goes u) (record { within = h; is = is; said = n; read = r }) e ∙ ap (λ b. run true u (marks b (drop (i + 1) ts))) (sym l)

-- the rest is all exactly where nothing stands before it
first : (ts : List Token) (i : ℕ) (led named : Bool) (t : Token) (c : Content) → Here ts i led named t c → (length (rest_at ts i t c) == length ts) ≡ (i == 0)
first ts i led named t c h =
    same_test (length (rest_at ts i t c)) (length ts) i (sym (ap length (marks_at ts i led named t c h)) ∙ length_marks led (drop i ts) ∙ length-drop i ts) h.within

-- the token is the i-th
place_no : (ts : List Token) (i : ℕ) (led named : Bool) (t : Token) (c : Content) → Here ts i led named t c → length ts - length (rest_at ts i t c) ≡ i
place_no ts i led named t c h =
    omega (arith, h.within, sym (ap length (marks_at ts i led named t c h)) ∙ length_marks led (drop i ts) ∙ length-drop i ts)

pub run_refuses : (ts : List Token) (i : ℕ) (led named : Bool) (t : Token) (c : Content) (s : State) (end : Place) (other : Bool)
    → i < length ts → t ≡ get_or ts i t → named ≡ (led || begins_arrow (drop (i + 1) ts)) → c ≡ content_of t.sort t.text named → step true s c t.place ≡ Refuses
    → other ≡ is_other (i == 0) c
    → told ts end (run true s (marks led (drop i ts))) ≡ Err (if other then R.OtherUnit t.place else R.Expected (refused_at ts 0 i t.place))
run_refuses ts i led named t c s end other h is n r e o =
    let here : Here ts i led named t c = record { within = h; is = is; said = n; read = r } in
    ap (told ts end) (begun ts i led named t c s Refuses here e)
    ∙ ap (λ k. Err (if is_other (length (rest_at ts i t c) == length ts) c then R.OtherUnit t.place else R.Expected (refused_at ts 0 k t.place))) (place_no ts i led named t c here)
    ∙ ap (λ b. Err (if b then R.OtherUnit t.place else R.Expected (refused_at ts 0 i t.place))) (ap (λ b. is_other b c) (first ts i led named t c here) ∙ sym o)

pub run_deep : (ts : List Token) (i : ℕ) (led named : Bool) (t : Token) (c : Content) (s : State) (end p : Place)
    → i < length ts → t ≡ get_or ts i t → named ≡ (led || begins_arrow (drop (i + 1) ts)) → c ≡ content_of t.sort t.text named → step true s c t.place ≡ TooDeep p
    → told ts end (run true s (marks led (drop i ts))) ≡ Err (R.TooDeep p)
run_deep ts i led named t c s end p h is n r e =
    ap (told ts end) (begun ts i led named t c s (TooDeep p) (record { within = h; is = is; said = n; read = r }) e)

-- a refusal of a token that was answered is the one
pub fails_as : (b : Bool) (p q : Place) (e : ParseRefusal) (r : Result Module ParseRefusal) → IsRefused b p q e
    → r ≡ Err (if b then R.OtherUnit p else R.Expected q) → Fails e r
fails_as b p q R.Memory r h k = tt
fails_as b p q (R.Lex e) r h k = absurd h
fails_as b p q (R.OtherUnit x) r h k = k ∙ ap (λ c. Err (if c then R.OtherUnit p else R.Expected q)) h.0 ∙ ap (λ y. Err (R.OtherUnit y)) (sym h.1)
fails_as b p q (R.Expected x) r h k = k ∙ ap (λ c. Err (if c then R.OtherUnit p else R.Expected q)) h.0 ∙ ap (λ y. Err (R.Expected y)) (sym h.1)
fails_as b p q (R.TooDeep x) r h k = absurd h
