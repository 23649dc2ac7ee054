-- A call of `format` has one answer: the words name one file, and its bytes are of one kind and have one first offence.
use Rattle.std.proofs.Common.{◌≡◌, ◌≤◌, ◌<◌, ◌+◌, ◌⊎◌, inl, inr, ℕ, List, [], ◌∷◌, length, take, Some, true, false, ap, sym, subst, ◌∙◌, refl, arith}
use Rattle.std.proofs.lemmas.Bool.{cases_lt}
use Rattle.std.proofs.lemmas.List.{take_all}
use Rattle.std.specs.Str.{chars}
use Rattle.atl_base.specs.XmlText.{IsXmlText, IsFirstOffence}
use Rattle.atl_outside.specs.Held.{Held, bytes_at}
use Rattle.module_parse.specs.Reading.{module_of_text}
use Rattle.atl_cli.specs.declared.status.Form.TheVariants as form
use Rattle.atl_cli.specs.declared.status.Size.TheVariants.{File}
use Rattle.atl_cli.specs.declared.status.Status.TheVariants as status
use Rattle.atl_cli.specs.declared.syntax.SyntaxKind.TheVariants as K
use Rattle.atl_cli.specs.Format.{Formats, LongFile, IsDocument, NoText, IsText, Judges, HasFile, is_document, place_behind, text_outcome}
use Rattle.atl_cli.specs.Outcome.{Outcome, Ends, file_limit}

-- an offence is within the bytes
pub offence_within : (bytes : List ℕ) (n : ℕ) → IsFirstOffence bytes n → n < length bytes
offence_within bytes n p = go (cases_lt n (length bytes))
  where
    go : (n < length bytes) ⊎ (length bytes ≤ n) → n < length bytes
    go (inl h) = h
    go (inr h) =
        let more : take (n + 1) bytes ≡ bytes = take_all (n + 1) bytes (omega arith) in
        absurd (p.longest (n + 1) (omega arith) (subst IsXmlText (take_all n bytes h ∙ sym more) p.front))

-- a text has none
no_offence : (bytes : List ℕ) (n : ℕ) → IsXmlText bytes → IsFirstOffence bytes n → ⊥
no_offence bytes n text p =
    let within = offence_within bytes n p in
    p.longest (length bytes) within (subst IsXmlText (sym (take_all (length bytes) bytes (omega arith))) text)

one_offence : (bytes : List ℕ) (n k : ℕ) → IsFirstOffence bytes n → IsFirstOffence bytes k → n ≡ k
one_offence bytes n k p q = go (cases_lt n k) (cases_lt k n)
  where
    go : (n < k) ⊎ (k ≤ n) → (k < n) ⊎ (n ≤ k) → n ≡ k
    go (inl h) d = absurd (p.longest k h q.front)
    go (inr h) (inl d) = absurd (q.longest n d p.front)
    go (inr h) (inr d) = omega arith

module _ (bytes : List ℕ) where
  abbrev AfterKind : Outcome → Type 0
  AfterKind o = ((n : ℕ) × IsFirstOffence bytes n × (o ≡ Ends (status.Syntax K.BadByte (place_behind (take n bytes)))))
      ⊎ (IsXmlText bytes × (o ≡ text_outcome (module_of_text (chars bytes))))

  abbrev AfterSize : Outcome → Type 0
  AfterSize o = ((is_document bytes ≡ true) × (o ≡ Ends (status.NotYet form.Module))) ⊎ ((is_document bytes ≡ false) × AfterKind o)

  abbrev Stages : Outcome → Type 0
  Stages o = ((file_limit < length bytes) × (o ≡ Ends (status.TooLarge File))) ⊎ ((length bytes ≤ file_limit) × AfterSize o)

  stages : (o : Outcome) → Formats bytes o → Stages o
  stages o (LongFile long) = inl (long, refl)
  stages o (IsDocument short is) = inr (short, inl (is, refl))
  stages o (NoText short not n first) = inr (short, inr (not, inl (n, first, refl)))
  stages o (IsText short not text) = inr (short, inr (not, inr (text, refl)))

  after_kind : (a b : Outcome) → AfterKind a → AfterKind b → a ≡ b
  after_kind a b (inl x) (inl y) =
      x.2 ∙ ap (λ n. Ends (status.Syntax K.BadByte (place_behind (take n bytes)))) (one_offence bytes x.0 y.0 x.1 y.1) ∙ sym y.2
  after_kind a b (inl x) (inr y) = absurd (no_offence bytes x.0 y.0 x.1)
  after_kind a b (inr x) (inl y) = absurd (no_offence bytes y.0 x.0 y.1)
  after_kind a b (inr x) (inr y) = x.1 ∙ sym y.1

  after_size : (a b : Outcome) → AfterSize a → AfterSize b → a ≡ b
  after_size a b (inl x) (inl y) = x.1 ∙ sym y.1
  after_size a b (inl x) (inr y) = let both : true ≡ false = sym x.0 ∙ y.0 in cc
  after_size a b (inr x) (inl y) = let both : true ≡ false = sym y.0 ∙ x.0 in cc
  after_size a b (inr x) (inr y) = after_kind a b x.1 y.1

  one_stage : (a b : Outcome) → Stages a → Stages b → a ≡ b
  one_stage a b (inl x) (inl y) = x.1 ∙ sym y.1
  one_stage a b (inl x) (inr y) = absurd (omega (arith, x.0, y.0))
  one_stage a b (inr x) (inl y) = absurd (omega (arith, x.0, y.0))
  one_stage a b (inr x) (inr y) = after_size a b x.1 y.1

one_file : (words : List (List ℕ)) (p q : List ℕ) → HasFile words p → HasFile words q → p ≡ q
one_file words p q a b =
    let same : Some (p ∷ []) ≡ Some (q ∷ []) = sym a ∙ b in
    cc

pub one_answer : (words : List (List ℕ)) (held : Held) (a b : Outcome) → Judges words held a → Judges words held b → a ≡ b
one_answer words held a b (inl x) (inl y) = x.1 ∙ sym y.1
one_answer words held a b (inl x) (inr y) = absurd (x.0 y.0 y.1)
one_answer words held a b (inr x) (inl y) = absurd (y.0 x.0 x.1)
one_answer words held a b (inr x) (inr y) =
    let same = one_file words x.0 y.0 x.1 y.1 in
    one_stage (bytes_at held y.0) a b (stages (bytes_at held y.0) a (subst (λ p. Formats (bytes_at held p) a) same x.2)) (stages (bytes_at held y.0) b y.2)
