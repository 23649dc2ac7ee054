-- A call has one answer: the words are one request, the bytes one module and one source, and a name has one path.
use Rattle.std.proofs.Common.{◌≡◌, ◌≢◌, ◌≤◌, ◌<◌, ◌⊎◌, inl, inr, ℕ, List, length, get_or, map, ap, sym, subst, ◌∙◌, refl, arith}
use Rattle.std.specs.Prelude.{AllPairs}
use Rattle.std.specs.Str.{chars}
use Rattle.std.proofs.lemmas.Bool.{cases_lt}
use Rattle.std.proofs.lemmas.List.{get_or_default}
use Rattle.std.proofs.lemmas.List.Elements.{recursion_from_All}
use Rattle.atl_tree.specs.declared.token.Tokens.{Tokens}
use Rattle.atl_tree.proofs.Exact.{exact}
use Rattle.atl_outside.specs.Held.{Held, bytes_at}
use Rattle.atl_cli.specs.declared.words.Pair.{Pair}
use Rattle.atl_cli.specs.declared.words.Request.{Request}
use Rattle.atl_cli.specs.declared.one_rule.OneRule.{OneRule}
use Rattle.atl_cli.specs.declared.source.SourceElement.{SourceElement}
use Rattle.atl_cli.specs.declared.status.Status.TheVariants.{TooLarge, NotYet}
use Rattle.atl_cli.specs.declared.status.Size.TheVariants.{File, Objects}
use Rattle.atl_cli.specs.declared.status.Form.TheVariants as form
use Rattle.atl_cli.specs.Transform.{HasPath, ArePaths, HasPaths, HasSpace, Judges, OtherWords, LongModule, OtherModule, OtherNames, LongSource, OtherSource, ManyObjects, Copies, object_limit}
use Rattle.atl_cli.specs.Outcome.{Outcome, Ends, Writes, file_limit}
use Rattle.atl_cli.specs.Flat.{flat, text_of}
use Rattle.atl_cli.specs.OneRule.{IsModule, made_of}
use Rattle.atl_cli.specs.Source.{IsSource}
use Rattle.atl_cli.specs.Words.{IsPair, IsRequest, pair_word}
use Rattle.atl_cli.proofs.Endings.{space_of}
use Rattle.atl_cli.proofs.Modules.{told}
use Rattle.atl_cli.proofs.Requests.{same_pairs}
use Rattle.atl_cli.proofs.SourceWhole.{one_source}

one_request : (words : List (List ℕ)) (r s : Request) → IsRequest words r → IsRequest words s → r ≡ s
one_request words r s a b =
    let whole = sym a.spelled ∙ b.spelled in
    let modules : r.module ≡ s.module = cc in
    let pairs : map pair_word r.pairs ≡ map pair_word s.pairs = cc in
    let same = same_pairs r.pairs s.pairs (recursion_from_All IsPair r.pairs a.pairs) (recursion_from_All IsPair s.pairs b.pairs) pairs in
    ap (λ m. let x : Request = record { «module» = m; pairs = r.pairs } in x) modules ∙ ap (λ ps. let x : Request = record { «module» = s.module; pairs = ps } in x) same

one_module : (bytes : List ℕ) (m n : OneRule) → IsModule bytes m → IsModule bytes n → m ≡ n
one_module bytes m n a b =
    let ta = (exact (chars bytes)).reads a.rule.tokens.0 a.rule.tokens.1 in
    let tb = (exact (chars bytes)).reads b.rule.tokens.0 b.rule.tokens.1 in
    let same : a.rule.tokens.0 ≡ b.rule.tokens.0 = cc in
    sym (told m) ∙ ap made_of (sym a.rule.tokens.2 ∙ ap (λ (ts : Tokens). map (λ t. t.text) ts.list) same ∙ b.rule.tokens.2) ∙ told n

abbrev Differ : List Pair → Type 0
Differ pairs = AllPairs (λ p q. p.name ≢ q.name) pairs

-- of two places with one name neither is before the other
not_before : (pairs : List Pair) → Differ pairs → (i j : ℕ) (p q : Pair) → i < j → j < length pairs → get_or pairs i p ≡ p → get_or pairs j q ≡ q → p.name ≡ q.name → ⊥
not_before pairs apart i j p q lt within a b same =
    let within_i : i < length pairs = omega arith in
    apart i j p lt within (ap (λ x. x.name) a ∙ same ∙ ap (λ x. x.name) (sym b ∙ get_or_default pairs j q p within))

one_place : (pairs : List Pair) → Differ pairs → (i j : ℕ) (p q : Pair) → i < length pairs → j < length pairs → get_or pairs i p ≡ p → get_or pairs j q ≡ q → p.name ≡ q.name → (i < j) ⊎ (j ≤ i) → (j < i) ⊎ (i ≤ j) → p ≡ q
one_place pairs apart i j p q wi wj a b same (inl lt) d = absurd (not_before pairs apart i j p q lt wj a b same)
one_place pairs apart i j p q wi wj a b same (inr le) (inl lt) = absurd (not_before pairs apart j i q p lt wi b a (sym same))
one_place pairs apart i j p q wi wj a b same (inr le) (inr ge) =
    let level : i ≡ j = omega arith in
    sym a ∙ ap (λ k. get_or pairs k p) level ∙ get_or_default pairs j p q wj ∙ b

one_path : (pairs : List Pair) → Differ pairs → (name a b : List ℕ) → HasPath pairs name a → HasPath pairs name b → a ≡ b
one_path pairs apart name a b h k =
    ap (λ p. p.path) (one_place pairs apart h.0 k.0 (record { name = name; path = a }) (record { name = name; path = b }) h.1 k.1 h.2 k.2 refl (cases_lt h.0 k.0) (cases_lt k.0 h.0))

-- ## The stages of judging, one after another

module _ (held : Held) where
  abbrev AfterElements : OneRule → List ℕ → List SourceElement → Outcome → Type 0
  AfterElements m target es o = ((object_limit < length es) × (o ≡ Ends (TooLarge Objects))) ⊎ ((length es ≤ object_limit) × (o ≡ Writes target (text_of m (flat m es))))

  abbrev AfterSource : OneRule → List ℕ → List ℕ → Outcome → Type 0
  AfterSource m target bytes o = (((es : List SourceElement) → IsSource m.source_metamodel bytes es → ⊥) × (o ≡ Ends (NotYet form.Model)))
      ⊎ ((es : List SourceElement) × IsSource m.source_metamodel bytes es × AfterElements m target es o)

  abbrev AfterPaths : OneRule → List ℕ → List ℕ → Outcome → Type 0
  AfterPaths m target source o = ((file_limit < length (bytes_at held source)) × (o ≡ Ends (TooLarge File))) ⊎ ((length (bytes_at held source) ≤ file_limit) × AfterSource m target (bytes_at held source) o)

  abbrev AfterModule : OneRule → List Pair → Outcome → Type 0
  AfterModule m pairs o = (((target source : List ℕ) → ArePaths m pairs target source → ⊥) × (o ≡ Ends (NotYet form.Words)))
      ⊎ ((target : List ℕ) × (source : List ℕ) × ArePaths m pairs target source × AfterPaths m target source o)

  abbrev AfterText : List ℕ → List Pair → Outcome → Type 0
  AfterText bytes pairs o = (((m : OneRule) → IsModule bytes m → ⊥) × (o ≡ Ends (NotYet form.Module))) ⊎ ((m : OneRule) × IsModule bytes m × AfterModule m pairs o)

  abbrev AfterRequest : Request → Outcome → Type 0
  AfterRequest r o = ((file_limit < length (bytes_at held r.module)) × (o ≡ Ends (TooLarge File))) ⊎ ((length (bytes_at held r.module) ≤ file_limit) × AfterText (bytes_at held r.module) r.pairs o)

  one_end : (m : OneRule) (target : List ℕ) (es : List SourceElement) (a b : Outcome) → AfterElements m target es a → AfterElements m target es b → a ≡ b
  one_end m target es a b (inl x) (inl y) = x.1 ∙ sym y.1
  one_end m target es a b (inl x) (inr y) = absurd (omega (arith, x.0, y.0))
  one_end m target es a b (inr x) (inl y) = absurd (omega (arith, x.0, y.0))
  one_end m target es a b (inr x) (inr y) = x.1 ∙ sym y.1

  after_source : (m : OneRule) → HasSpace m → (target bytes : List ℕ) (a b : Outcome) → AfterSource m target bytes a → AfterSource m target bytes b → a ≡ b
  after_source m space target bytes a b (inl x) (inl y) = x.1 ∙ sym y.1
  after_source m space target bytes a b (inl x) (inr y) = absurd (x.0 y.0 y.1)
  after_source m space target bytes a b (inr x) (inl y) = absurd (y.0 x.0 x.1)
  after_source m space target bytes a b (inr x) (inr y) =
      let same = one_source m.source_metamodel bytes x.0 y.0 space.name space.other x.1 y.1 in
      one_end m target y.0 a b (subst (λ es. AfterElements m target es a) same x.2) y.2

  after_paths : (m : OneRule) → HasSpace m → (target source : List ℕ) (a b : Outcome) → AfterPaths m target source a → AfterPaths m target source b → a ≡ b
  after_paths m space target source a b (inl x) (inl y) = x.1 ∙ sym y.1
  after_paths m space target source a b (inl x) (inr y) = absurd (omega (arith, x.0, y.0))
  after_paths m space target source a b (inr x) (inl y) = absurd (omega (arith, x.0, y.0))
  after_paths m space target source a b (inr x) (inr y) = after_source m space target (bytes_at held source) a b x.1 y.1

  after_module : (m : OneRule) → HasSpace m → (pairs : List Pair) → Differ pairs → (a b : Outcome) → AfterModule m pairs a → AfterModule m pairs b → a ≡ b
  after_module m space pairs apart a b (inl x) (inl y) = x.1 ∙ sym y.1
  after_module m space pairs apart a b (inl x) (inr y) = absurd (x.0 y.0 y.1 y.2)
  after_module m space pairs apart a b (inr x) (inl y) = absurd (y.0 x.0 x.1 x.2)
  after_module m space pairs apart a b (inr x) (inr y) =
      let targets = one_path pairs apart m.target x.0 y.0 x.2.to_target y.2.to_target in
      let sources = one_path pairs apart m.source x.1 y.1 x.2.to_source y.2.to_source in
      after_paths m space y.0 y.1 a b (subst (λ s. AfterPaths m y.0 s a) sources (subst (λ t. AfterPaths m t x.1 a) targets x.3)) y.3

  after_text : (bytes : List ℕ) (pairs : List Pair) → Differ pairs → (a b : Outcome) → AfterText bytes pairs a → AfterText bytes pairs b → a ≡ b
  after_text bytes pairs apart a b (inl x) (inl y) = x.1 ∙ sym y.1
  after_text bytes pairs apart a b (inl x) (inr y) = absurd (x.0 y.0 y.1)
  after_text bytes pairs apart a b (inr x) (inl y) = absurd (y.0 x.0 x.1)
  after_text bytes pairs apart a b (inr x) (inr y) =
      let same = one_module bytes x.0 y.0 x.1 y.1 in
      after_module y.0 (space_of bytes y.0 y.1) pairs apart a b (subst (λ m. AfterModule m pairs a) same x.2) y.2

  after_request : (r : Request) → Differ r.pairs → (a b : Outcome) → AfterRequest r a → AfterRequest r b → a ≡ b
  after_request r apart a b (inl x) (inl y) = x.1 ∙ sym y.1
  after_request r apart a b (inl x) (inr y) = absurd (omega (arith, x.0, y.0))
  after_request r apart a b (inr x) (inl y) = absurd (omega (arith, x.0, y.0))
  after_request r apart a b (inr x) (inr y) = after_text (bytes_at held r.module) r.pairs apart a b x.1 y.1

  abbrev Stages : List (List ℕ) → Outcome → Type 0
  Stages words o = (((r : Request) → IsRequest words r → ⊥) × (o ≡ Ends (NotYet form.Words))) ⊎ ((r : Request) × IsRequest words r × AfterRequest r o)

  with_paths : (words : List (List ℕ)) (m : OneRule) (target source : List ℕ) (o : Outcome) → HasPaths words held m target source → AfterPaths m target source o → Stages words o
  with_paths words m target source o p after =
      inr (p.of, p.opened.request, inr (p.opened.short, inr (m, p.opened.is, inr (target, source, p.paths, after))))

  stages : (words : List (List ℕ)) (o : Outcome) → Judges words held o → Stages words o
  stages words o (OtherWords none) = inl (none, refl)
  stages words o (LongModule r asked long) = inr (r, asked, inl (long, refl))
  stages words o (OtherModule r asked short none) = inr (r, asked, inr (short, inl (none, refl)))
  stages words o (OtherNames r m has none) = inr (r, has.request, inr (has.short, inr (m, has.is, inl (none, refl))))
  stages words o (LongSource m target source p long) = with_paths words m target source _ p (inl (long, refl))
  stages words o (OtherSource m target source p short none) = with_paths words m target source _ p (inr (short, inl (none, refl)))
  stages words o (ManyObjects m target es has many) = with_paths words m target has.at _ has.paths (inr (has.short, inr (es, has.elements, inl (many, refl))))
  stages words o (Copies m target es has few) = with_paths words m target has.at _ has.paths (inr (has.short, inr (es, has.elements, inr (few, refl))))

  one_stage : (words : List (List ℕ)) (a b : Outcome) → Stages words a → Stages words b → a ≡ b
  one_stage words a b (inl x) (inl y) = x.1 ∙ sym y.1
  one_stage words a b (inl x) (inr y) = absurd (x.0 y.0 y.1)
  one_stage words a b (inr x) (inl y) = absurd (y.0 x.0 x.1)
  one_stage words a b (inr x) (inr y) =
      let same = one_request words x.0 y.0 x.1 y.1 in
      after_request y.0 y.1.differ a b (subst (λ r. AfterRequest r a) same x.2) y.2

pub one_answer : (words : List (List ℕ)) (held : Held) (a b : Outcome) → Judges words held a → Judges words held b → a ≡ b
one_answer words held a b x y = one_stage held words a b (stages held words a x) (stages held words b y)
