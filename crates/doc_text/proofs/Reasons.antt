-- Why reading stops, told by what was written before.
use Rattle.std.proofs.Common.{◌≡◌, List, [], ◌∷◌, ◌++◌, refl, sym, ap, ◌∙◌, subst}
use Rattle.std.proofs.lemmas.List.{append-nil}
use Rattle.std.specs.Prelude.{Bool, true, false, if◌then◌else◌}
use Rattle.atl_base.specs.declared.place.Place.{Place}
use Rattle.doc_text.specs.Symbols.{Symbol, mark, Less, Bang, is_good}
use Rattle.doc_text.specs.Raw.{called, same_name}
use Rattle.doc_text.specs.Faults.{Fault, BadByte, Expected, MismatchedEnd, Trailing, Unsupported}
use Rattle.doc_text.specs.Form.{tree_of, Prolog, Element, Miscs}
use Rattle.doc_text.specs.Conditions.{PrologFits, ElementFits}
use Rattle.doc_text.specs.State.{OfStart, OfAttribute, OfEnd, State, Beginning, Epilog, Naming, Localing, Stops, Breaks}
use Rattle.doc_text.specs.Machine.{after, reason, unwanted, declares, run, read, End, Read, Refused, finish}
use Rattle.doc_text.specs.Laws.{Lead0, Lead1, Lead2, Lead3, Because, Lead, lead_spelt, has_begun}
use Rattle.doc_text.proofs.Zipper.{ZAround, ZBefore, ZWithin, ZAfter, around_spelt, Zip, ZEpilog, ZBegun, ZBanged, ZBangDash, ZFirst}
use Rattle.doc_text.proofs.Before.{value, Fits, before}
use Rattle.doc_text.proofs.Texts.{around_cut}
use Rattle.doc_text.proofs.Accepts.{accepts}
use Rattle.doc_text.proofs.Paths.{Path, special, passes_on, IsUnbanged, no_declaration}
use Rattle.std.proofs.Common.{append_assoc}
use Rattle.doc_text.proofs.Runs.{false-true, true-false}
use Rattle.doc_text.specs.State.{First, Before, Within, After, Begun, Banged, BangDash}
use Rattle.doc_text.specs.Laws.{AfterRoot, AfterBang}

abbrev IsTrailing : Fault → Type 0
IsTrailing Trailing = Unit {0}
IsTrailing e = ⊥

module _ (end : Place) where
  -- at the end of a text after its root, with or without the beginning of a comment
  abbrev Ended : Bool → End → Type 0
  Ended begun (Read t) = begun ≡ false
  Ended begun (Refused f) = (begun ≡ true) × IsTrailing f.0

  after_root : (front : List Symbol) (u : State) → ((more : List Symbol) → read true end (front ++ more) ≡ run true end u more) → (begun : Bool) → AfterRoot begun front → Ended begun (finish true end u)
  after_root front u leads begun x =
      let same = ap (λ l. l ++ []) x.whole ∙ append_assoc x.document (lead_spelt x.lead) [] in
      let ends = sym (leads []) ∙ ap (read true end) same ∙ passes_on end x.document Beginning x.tree (lead_spelt x.lead ++ []) (accepts end true x.document x.tree x.is_document) in
      subst (Ended begun) (sym ends) (on x.lead x.is_begun)
    where
      on : (lead : Lead) → has_begun lead ≡ begun → Ended begun (run true end (Epilog x.tree) (lead_spelt lead ++ []))
      on Lead0 h = sym h
      on (Lead1 p) h = (sym h, tt)
      on (Lead2 p q) h = (sym h, tt)
      on (Lead3 p q r) h = (sym h, tt)

  -- no state of a document that is not over
  abbrev Inner : State → Type 0
  Inner (Epilog t) = ⊥
  Inner (Begun (After t) p) = ⊥
  Inner (Banged (After t) p) = ⊥
  Inner (BangDash (After t) p) = ⊥
  Inner s = Unit {0}

  unended_name : (t : Bool) (p : Place) (b : Bool) → Ended b (after (if t then Stops else Breaks MismatchedEnd p) (Expected, end) (λ s. Refused (Expected, end))) → ⊥
  unended_name true p b x = x.1
  unended_name false p b x = x.1

  unended : (u : State) → Inner u → (b : Bool) → Ended b (finish true end u) → ⊥
  unended (Epilog t) i b x = i
  unended (Begun First p) i b x = x.1
  unended (Begun Before p) i b x = x.1
  unended (Begun (Within f fs) p) i b x = x.1
  unended (Begun (After t) p) i b x = i
  unended (Banged First p) i b x = x.1
  unended (Banged Before p) i b x = x.1
  unended (Banged (Within f fs) p) i b x = x.1
  unended (Banged (After t) p) i b x = i
  unended (BangDash First p) i b x = x.1
  unended (BangDash Before p) i b x = x.1
  unended (BangDash (Within f fs) p) i b x = x.1
  unended (BangDash (After t) p) i b x = i
  unended (Naming (OfEnd f fs) p n) i b x = unended_name (same_name (called p [] n) f.tag.name) p b x
  unended (Naming (OfStart fs o) p n) i b x = x.1
  unended (Naming (OfAttribute fs t) p n) i b x = x.1
  unended (Localing (OfEnd f fs) p n m) i b x = unended_name (same_name (called p n m) f.tag.name) p b x
  unended (Localing (OfStart fs o) p n m) i b x = x.1
  unended (Localing (OfAttribute fs t) p n m) i b x = x.1
  unended s i b x = x.1

  abbrev Refuses : End → Type 0
  Refuses (Read t) = ⊥
  Refuses (Refused f) = Unit {0}

  abbrev Ahead : Bool → State → List Symbol → Type 0
  Ahead b u [] = Refuses (run b end u [])
  Ahead b u (t ∷ r) = (more : List Symbol) → Refuses (run b end u (t ∷ more))

  -- how the state was reached, and that it stops
  pub record Reached (front rest : List Symbol) (u : State) : Type 0 where
    pub leads : (more : List Symbol) → read true end (front ++ more) ≡ run true end u more
    pub path : Path Beginning front u
    pub ahead : (b : Bool) → Ahead b u rest

  unbanged : (front rest : List Symbol) (u : State) → IsUnbanged end u → Reached front rest u → AfterBang front → declares rest ≡ true → ⊥
  unbanged front [] u i r x h = false-true h
  unbanged front (s ∷ rest) u i r x h = no_declaration end u (s ∷ rest) i (special Beginning u x.before x.less x.bang (subst (λ l. Path Beginning l u) x.whole r.path)) (r.ahead false) h

  unwanted_because : (front rest : List Symbol) → ((b : Bool) → AfterRoot b front → ⊥) → (AfterBang front → declares rest ≡ true → ⊥) → Because end front rest (unwanted end rest).0 (unwanted end rest).1
  unwanted_because front [] n d = (tt, refl, n, d)
  unwanted_because front (s ∷ rest) n d = on (is_good s.kind) refl
    where
      on : (b : Bool) → is_good s.kind ≡ b → Because end front (s ∷ rest) (if b then Expected else BadByte) s.at
      on true h = (h, refl, n, d)
      on false h = (h, refl, n true)

  -- inside a document, and not after <!
  inner_because : (front rest : List Symbol) (u : State) → Inner u → IsUnbanged end u → Reached front rest u → Because end front rest (unwanted end rest).0 (unwanted end rest).1
  inner_because front rest u i j r = unwanted_because front rest (λ b x. unended u i b (after_root front u r.leads b x)) (unbanged front rest u j r)

  cut : (a : ZAround) (lead front : List Symbol) → around_spelt a lead ≡ front ++ [] → front ≡ around_spelt a [] ++ lead
  cut a lead front h = sym (append-nil front) ∙ sym h ∙ around_cut a [] lead

  declared_because : (a : ZAround) (p q : Place) (front rest : List Symbol) (u : State) → Inner u → Reached front rest u → around_spelt a (mark p Less ∷ mark q Bang ∷ []) ≡ front ++ [] → Because end front rest (if declares rest then (Unsupported, p) else unwanted end rest).0 (if declares rest then (Unsupported, p) else unwanted end rest).1
  declared_because a p q front rest u i r h = on (declares rest) refl
    where
      none : (b : Bool) → AfterRoot b front → ⊥
      none b x = unended u i b (after_root front u r.leads b x)

      on : (b : Bool) → declares rest ≡ b → Because end front rest (if b then (Unsupported, p) else unwanted end rest).0 (if b then (Unsupported, p) else unwanted end rest).1
      on true k = (record { before = around_spelt a []; less = p; bang = q; whole = cut a (mark p Less ∷ mark q Bang ∷ []) front h }, refl, k, none)
      on false k = unwanted_because front rest none (λ x d. true-false (sym d ∙ k))

  abbrev over_root : (m : Prolog) (e : Element) (k : Miscs) (front : List Symbol) (lead : Lead) → PrologFits true m × ElementFits true [] e → around_spelt (ZAfter m e k) (lead_spelt lead) ≡ front ++ [] → AfterRoot (has_begun lead) front
  over_root m e k front lead f h = record { document = around_spelt (ZAfter m e k) []; lead = lead; tree = tree_of e; whole = cut (ZAfter m e k) (lead_spelt lead) front h; is_document = (record { prolog = m; root = e; epilog = k }, f, refl, refl); is_begun = refl }

  pub because : (z : Zip) (front rest : List Symbol) → Fits true z → before z [] ≡ front ++ [] → Reached front rest (value z) → Because end front rest (reason end (value z) rest).0 (reason end (value z) rest).1
  because (ZEpilog m e k) front [] f h r = absurd (r.ahead true)
  because (ZEpilog m e k) front (s ∷ rest) f h r = on (is_good s.kind) refl
    where
      on : (b : Bool) → is_good s.kind ≡ b → Because end front (s ∷ rest) (if b then Trailing else BadByte) s.at
      on true i = (false, over_root m e k front Lead0 f h, refl, λ x. i)
      on false i = (i, refl, λ x. true-false (after_root front (Epilog (tree_of e)) r.leads true x))
  because (ZBegun (ZAfter m e k) p) front rest f h r = (true, over_root m e k front (Lead1 p) f h, refl, λ x. absurd (true-false x))
  because (ZBegun ZFirst p) front rest f h r = inner_because front rest (Begun First p) tt tt r
  because (ZBegun (ZBefore m) p) front rest f h r = inner_because front rest (Begun Before p) tt tt r
  because (ZBegun (ZWithin z t g is) p) front rest f h r = inner_because front rest (value (ZBegun (ZWithin z t g is) p)) tt tt r
  because (ZBanged (ZAfter m e k) p q) front rest f h r = (true, over_root m e k front (Lead2 p q) f h, refl, λ x. absurd (true-false x))
  because (ZBanged ZFirst p q) front rest f h r = declared_because ZFirst p q front rest (Banged First p) tt r h
  because (ZBanged (ZBefore m) p q) front rest f h r = declared_because (ZBefore m) p q front rest (Banged Before p) tt r h
  because (ZBanged (ZWithin z t g is) p q) front rest f h r = declared_because (ZWithin z t g is) p q front rest (value (ZBanged (ZWithin z t g is) p q)) tt r h
  because (ZBangDash (ZAfter m e k) p q o) front rest f h r = (true, over_root m e k front (Lead3 p q o) f h, refl, λ x. absurd (true-false x))
  because (ZBangDash ZFirst p q o) front rest f h r = inner_because front rest (BangDash First p) tt tt r
  because (ZBangDash (ZBefore m) p q o) front rest f h r = inner_because front rest (BangDash Before p) tt tt r
  because (ZBangDash (ZWithin z t g is) p q o) front rest f h r = inner_because front rest (value (ZBangDash (ZWithin z t g is) p q o)) tt tt r
  because z front rest f h r = inner_because front rest (value z) tt tt r
