-- The laws of tokens.
use Rattle.std.proofs.Common.{◌≡◌, ℕ, cond, ◌||◌, ◌&&◌, not, ◌⊎◌, Bool, true, false, List, [], ◌∷◌, refl, inl, inr, sym, ap, subst, ◌∙◌, Option, None, Some, Ok, Err}
use Rattle.std.proofs.lemmas.List.{append-nil}
use Rattle.std.specs.Prelude.{codes}
use Rattle.std.specs.Str.{bytes_eq}
use Rattle.atl_base.specs.declared.place.Place.{Place}
use Rattle.atl_tree.specs.declared.token.Token.{Token}
use Rattle.atl_tree.specs.declared.token.Tokens.{Tokens}
use Rattle.atl_tree.specs.declared.token.TokenSort.{TokenSort}
use Rattle.atl_tree.specs.declared.token.TokenSort.TheVariants as T
use Rattle.atl_tree.specs.declared.token.LexRefusal.{LexRefusal}
use Rattle.atl_tree.specs.declared.token.LexRefusal.TheVariants as R
use Rattle.atl_tree.specs.declared.state.Stop.{Stop}
use Rattle.atl_tree.specs.declared.state.Stop.TheVariants.{Over, Bad, Open}
use Rattle.atl_tree.specs.Pieces.{Piece}
use Rattle.atl_tree.specs.Cutting.{chars_of, Begins, IsStuck}
use Rattle.atl_tree.specs.Machine.{piece, cut_of}
use Rattle.atl_tree.specs.Tokens.{place, after, first_fault, fault_of, or_else, leads_name, begins_arrow, is_wide, has_fraction, body_of, HasTokens, tokens_of, verdict}
use Rattle.atl_tree.specs.Refusals.{front_tokens, BeginsNone, Refuses, IsExact}
use Rattle.atl_tree.proofs.Cuts.{Tells, Why, tells, unique, stuck-end, Begins-chars}

-- ---- the kinds of the refusals of tokens

abbrev IsTokenFault : LexRefusal → Type 0
IsTokenFault (R.BadByte p) = ⊥
IsTokenFault (R.OpenText p) = ⊥
IsTokenFault (R.WideNumber p) = Unit {0}
IsTokenFault (R.RealNumber p) = Unit {0}
IsTokenFault R.Memory = ⊥

abbrev IsMaybeFault : Option LexRefusal → Type 0
IsMaybeFault None = Unit {0}
IsMaybeFault (Some e) = IsTokenFault e

either : {A : Type 0} (P : A → Type 0) (b : Bool) (x y : A) → P x → P y → P (cond b x y)
either P true x y p q = p
either P false x y p q = q

fault-kind : (s : TokenSort) (text : List ℕ) (named : Bool) (p : Place) → IsMaybeFault (fault_of s text named p)
fault-kind T.Plain text named p = either IsMaybeFault (bytes_eq text (codes "Real") && not named) (Some (R.RealNumber p)) None tt tt
fault-kind T.Quoted text named p = tt
fault-kind T.Words text named p = tt
fault-kind T.Number text named p = either IsMaybeFault (is_wide text) (Some (R.WideNumber p)) _ tt (either IsMaybeFault (has_fraction text) (Some (R.RealNumber p)) None tt tt)
fault-kind T.Mark text named p = either IsMaybeFault (bytes_eq text (codes "/")) (Some (R.RealNumber p)) None tt tt

else-kind : (a b : Option LexRefusal) → IsMaybeFault a → IsMaybeFault b → IsMaybeFault (or_else a b)
else-kind None b p q = q
else-kind (Some e) b p q = p

first-kind : (led : Bool) (ts : List Token) → IsMaybeFault (first_fault led ts)
first-kind led [] = tt
first-kind led (t ∷ ts) = else-kind (fault_of t.sort t.text (led || begins_arrow ts) t.place) (first_fault (leads_name t) ts) (fault-kind t.sort t.text (led || begins_arrow ts) t.place) (first-kind (leads_name t) ts)

-- ---- the verdict, read backwards

verdict-ok : (f : Option LexRefusal) (s : Stop) (l : List Token) (end : Place) (ts : Tokens) → verdict f s l end ≡ Ok ts → (f ≡ None) × (s ≡ Over) × (ts.list ≡ l) × (ts.end ≡ end)
verdict-ok (Some e) s l end ts h = absurd cc
verdict-ok None Over l end ts h =
    let same : record { list = l; end = end } ≡ ts = cc in
    (refl, refl, ap (λ t. t.list) (sym same), ap (λ t. t.end) (sym same))
verdict-ok None Bad l end ts h = absurd cc
verdict-ok None Open l end ts h = absurd cc

pub data Blame (f : Option LexRefusal) (s : Stop) (end : Place) (e : LexRefusal) : Type 0 where
  token_is : f ≡ Some e → Blame f s end e
  bad_is : f ≡ None → s ≡ Bad → e ≡ R.BadByte end → Blame f s end e
  open_is : f ≡ None → s ≡ Open → e ≡ R.OpenText end → Blame f s end e

verdict-err : (f : Option LexRefusal) (s : Stop) (l : List Token) (end : Place) (e : LexRefusal) → verdict f s l end ≡ Err e → Blame f s end e
verdict-err (Some d) s l end e h = let same : d ≡ e = cc in token_is (ap Some same)
verdict-err None Over l end e h = absurd cc
verdict-err None Bad l end e h = let same : R.BadByte end ≡ e = cc in bad_is refl refl (sym same)
verdict-err None Open l end e h = let same : R.OpenText end ≡ e = cc in open_is refl refl (sym same)

-- ---- why the machine stopped

pub over-at-end : (s : Stop) (rest : List ℕ) → Why s rest → rest ≡ [] → s ≡ Over
over-at-end Over rest w e = refl
over-at-end Bad rest w e = absurd (let h : w.0 ∷ w.1 ≡ [] = sym w.2 ∙ e in cc)
over-at-end Open rest w e = absurd (let h : w.0 ∷ w.1 ≡ [] = sym w.2 ∙ e in cc)

-- an empty quoted name and an empty text are pieces
quotes-begin : (c : ℕ) → (c ≡ 34) ⊎ (c ≡ 39) → BeginsNone c → ⊥
quotes-begin c (inl e) n = n (34 ∷ []) (piece (Some T.Quoted) (34 ∷ (34 ∷ []))) [] ([], refl, refl) (ap (λ d. d ∷ (34 ∷ [])) (sym e))
quotes-begin c (inr e) n = n (39 ∷ []) (piece (Some T.Words) (39 ∷ (39 ∷ []))) [] ([], refl, refl) (ap (λ d. d ∷ (39 ∷ [])) (sym e))

bad-at : (s : Stop) (rest : List ℕ) (c : ℕ) (cs : List ℕ) → Why s rest → rest ≡ c ∷ cs → BeginsNone c → s ≡ Bad
bad-at Over rest c cs w e n = absurd (let h : c ∷ cs ≡ [] = sym e ∙ w in cc)
bad-at Bad rest c cs w e n = refl
bad-at Open rest c cs w e n =
    let h : w.0 ∷ w.1 ≡ c ∷ cs = sym w.2 ∙ e in
    let same : w.0 ≡ c = cc in
    absurd (quotes-begin c (subst (λ d. (d ≡ 34) ⊎ (d ≡ 39)) same w.3) n)

open-at : (s : Stop) (rest : List ℕ) (c : ℕ) (cs : List ℕ) → Why s rest → rest ≡ c ∷ cs → (c ≡ 34) ⊎ (c ≡ 39) → s ≡ Open
open-at Over rest c cs w e n = absurd (let h : c ∷ cs ≡ [] = sym e ∙ w in cc)
open-at Bad rest c cs w e n =
    let h : w.0 ∷ w.1 ≡ c ∷ cs = sym w.2 ∙ e in
    let same : w.0 ≡ c = cc in
    absurd (quotes-begin c n (subst BeginsNone same w.3))
open-at Open rest c cs w e n = refl

module _ (text : List ℕ) where
  t : Tells (body_of text) (cut_of (body_of text))
  t = tells (body_of text)

  given : (ps : List Piece) (rest : List ℕ) → Begins (body_of text) ps rest → IsStuck rest → ((cut_of (body_of text)).pieces ≡ ps) × (t.rest ≡ rest)
  given ps rest b s = unique (body_of text) (cut_of (body_of text)).pieces ps t.rest rest t.begins b t.stuck s

  -- the answer, where the pieces, the stop and the fault are known
  answered : (ps : List Piece) (s : Stop) (f : Option LexRefusal) → (cut_of (body_of text)).pieces ≡ ps → (cut_of (body_of text)).stop ≡ s → first_fault false (front_tokens text ps) ≡ f
      → tokens_of text ≡ verdict f s (front_tokens text ps) (after (place 1 1) (chars_of ps))
  unfolding tokens_of
  answered ps s f p h g =
      ap (λ q. verdict (first_fault false (front_tokens text q)) (cut_of (body_of text)).stop (front_tokens text q) (after (place 1 1) (chars_of q))) p
      ∙ ap (λ z. verdict (first_fault false (front_tokens text ps)) z (front_tokens text ps) (after (place 1 1) (chars_of ps))) h
      ∙ ap (λ o. verdict o s (front_tokens text ps) (after (place 1 1) (chars_of ps))) g

  whole : (ps : List Piece) → Begins (body_of text) ps [] → body_of text ≡ chars_of ps
  whole ps b = Begins-chars (body_of text) ps [] b ∙ append-nil (chars_of ps)

  reads-so : (ts : Tokens) → HasTokens text ts → tokens_of text ≡ Ok ts
  reads-so ts h =
      let u = given h.0 [] h.1 stuck-end in
      let none : first_fault false (front_tokens text h.0) ≡ None = ap (first_fault false) (sym h.2) ∙ h.3 in
      answered h.0 Over None u.0 (over-at-end (cut_of (body_of text)).stop t.rest t.why u.1) none
      ∙ ap (λ l. Ok (record { list = l; end = after (place 1 1) (chars_of h.0) })) (sym h.2)
      ∙ ap (λ p. Ok (record { list = ts.list; end = p })) (ap (after (place 1 1)) (sym (whole h.0 h.1)) ∙ sym h.4)

  now : tokens_of text ≡ verdict (first_fault false (front_tokens text (cut_of (body_of text)).pieces)) (cut_of (body_of text)).stop (front_tokens text (cut_of (body_of text)).pieces) (after (place 1 1) (chars_of (cut_of (body_of text)).pieces))
  now = answered (cut_of (body_of text)).pieces (cut_of (body_of text)).stop _ refl refl refl

  tells-so : (ts : Tokens) → tokens_of text ≡ Ok ts → HasTokens text ts
  tells-so ts e =
      let v = verdict-ok _ _ _ _ ts (sym now ∙ e) in
      let rest : t.rest ≡ [] = subst (λ s. Why s t.rest) v.1 t.why in
      let b : Begins (body_of text) (cut_of (body_of text)).pieces [] = subst (Begins (body_of text) (cut_of (body_of text)).pieces) rest t.begins in
      ((cut_of (body_of text)).pieces, b, v.2, ap (first_fault false) v.2 ∙ v.0, v.3 ∙ ap (after (place 1 1)) (sym (whole (cut_of (body_of text)).pieces b)))

  refused-so : (e : LexRefusal) → Refuses text e → tokens_of text ≡ Err e
  refused-so (R.BadByte p) h =
      let u = given h.0 (h.1 ∷ h.2) h.3 (h.4 h.2) in
      answered h.0 Bad None u.0 (bad-at (cut_of (body_of text)).stop t.rest h.1 h.2 t.why u.1 h.4) h.5 ∙ ap (λ q. Err (R.BadByte q)) (sym h.6)
  refused-so (R.OpenText p) h =
      let u = given h.0 (h.1 ∷ h.2) h.3 h.4.1 in
      answered h.0 Open None u.0 (open-at (cut_of (body_of text)).stop t.rest h.1 h.2 t.why u.1 h.4.0) h.5 ∙ ap (λ q. Err (R.OpenText q)) (sym h.6)
  refused-so (R.WideNumber p) h = answered h.0 (cut_of (body_of text)).stop (Some (R.WideNumber p)) (given h.0 h.1 h.2 h.3).0 refl h.4
  refused-so (R.RealNumber p) h = answered h.0 (cut_of (body_of text)).stop (Some (R.RealNumber p)) (given h.0 h.1 h.2 h.3).0 refl h.4
  refused-so R.Memory h = absurd h

  faulty : (e : LexRefusal) → first_fault false (front_tokens text (cut_of (body_of text)).pieces) ≡ Some e → Refuses text e
  faulty e f = by-kind e f (subst IsMaybeFault f (first-kind false (front_tokens text (cut_of (body_of text)).pieces)))
    where
      by-kind : (e : LexRefusal) → first_fault false (front_tokens text (cut_of (body_of text)).pieces) ≡ Some e → IsTokenFault e → Refuses text e
      by-kind (R.BadByte p) f k = absurd k
      by-kind (R.OpenText p) f k = absurd k
      by-kind (R.WideNumber p) f k = ((cut_of (body_of text)).pieces, t.rest, t.begins, t.stuck, f)
      by-kind (R.RealNumber p) f k = ((cut_of (body_of text)).pieces, t.rest, t.begins, t.stuck, f)
      by-kind R.Memory f k = absurd k

  blamed : (e : LexRefusal) → Blame (first_fault false (front_tokens text (cut_of (body_of text)).pieces)) (cut_of (body_of text)).stop (after (place 1 1) (chars_of (cut_of (body_of text)).pieces)) e → Refuses text e
  blamed e (token_is f) = faulty e f
  blamed e (bad_is f s k) =
      let w : Why Bad t.rest = subst (λ z. Why z t.rest) s t.why in
      subst (Refuses text) (sym k) ((cut_of (body_of text)).pieces, w.0, w.1, subst (Begins (body_of text) (cut_of (body_of text)).pieces) w.2 t.begins, w.3, f, refl)
  blamed e (open_is f s k) =
      let w : Why Open t.rest = subst (λ z. Why z t.rest) s t.why in
      subst (Refuses text) (sym k) ((cut_of (body_of text)).pieces, w.0, w.1, subst (Begins (body_of text) (cut_of (body_of text)).pieces) w.2 t.begins, (w.3, subst IsStuck w.2 t.stuck), f, refl)

  refuses-so : (e : LexRefusal) → tokens_of text ≡ Err e → Refuses text e
  refuses-so e h = blamed e (verdict-err _ _ _ _ e (sym now ∙ h))

  pub exact : IsExact text
  exact = record { reads = reads-so; tells = tells-so; refused = refused-so; refuses = refuses-so }

  -- where the answer is a bad character the machine stopped at one
  pub stopped-bad : (p : Place) → tokens_of text ≡ Err (R.BadByte p) → ((cut_of (body_of text)).stop ≡ Bad) × (p ≡ after (place 1 1) (chars_of (cut_of (body_of text)).pieces))
  stopped-bad p h = by-blame (verdict-err _ _ _ _ (R.BadByte p) (sym now ∙ h))
    where
      by-blame : Blame (first_fault false (front_tokens text (cut_of (body_of text)).pieces)) (cut_of (body_of text)).stop (after (place 1 1) (chars_of (cut_of (body_of text)).pieces)) (R.BadByte p)
          → ((cut_of (body_of text)).stop ≡ Bad) × (p ≡ after (place 1 1) (chars_of (cut_of (body_of text)).pieces))
      by-blame (token_is f) = absurd (subst IsMaybeFault f (first-kind false (front_tokens text (cut_of (body_of text)).pieces)))
      by-blame (bad_is f s k) = (s, let same : p ≡ after (place 1 1) (chars_of (cut_of (body_of text)).pieces) = cc in same)
      by-blame (open_is f s k) = absurd cc

  -- where the answer is an open text the machine stopped at one
  pub stopped-open : (p : Place) → tokens_of text ≡ Err (R.OpenText p) → ((cut_of (body_of text)).stop ≡ Open) × (p ≡ after (place 1 1) (chars_of (cut_of (body_of text)).pieces))
  stopped-open p h = by-blame (verdict-err _ _ _ _ (R.OpenText p) (sym now ∙ h))
    where
      by-blame : Blame (first_fault false (front_tokens text (cut_of (body_of text)).pieces)) (cut_of (body_of text)).stop (after (place 1 1) (chars_of (cut_of (body_of text)).pieces)) (R.OpenText p)
          → ((cut_of (body_of text)).stop ≡ Open) × (p ≡ after (place 1 1) (chars_of (cut_of (body_of text)).pieces))
      by-blame (token_is f) = absurd (subst IsMaybeFault f (first-kind false (front_tokens text (cut_of (body_of text)).pieces)))
      by-blame (bad_is f s k) = absurd cc
      by-blame (open_is f s k) = (s, let same : p ≡ after (place 1 1) (chars_of (cut_of (body_of text)).pieces) = cc in same)
