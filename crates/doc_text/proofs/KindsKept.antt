-- The kind of a character that XML text has: it keeps the character's code.
use Rattle.std.proofs.Common.{◌≡◌, ℕ, Bool, true, false, refl, sym, ◌∙◌}
use Rattle.std.specs.Prelude.{◌==◌, ◌||◌, if◌then◌else◌}
use Rattle.std.specs.Int.{is_in_range}
use Rattle.std.proofs.lemmas.Bool.{eqb-true}
use Rattle.atl_base.specs.XmlText.{is_xml_character}
use Rattle.doc_text.specs.Symbols.{Kind, Less, Greater, Slash, And, Semicolon, Quote, Apostrophe, Equals, Bang, Question, Bracket, Hash, Colon, Dash, Blank, Letter, Joint, Other, Bad, code_of, is_letter, mark_of, kind_of}
use Rattle.doc_text.proofs.Runs.{true-false}

-- the four blanks of XML
abbrev pub is_blank_code : ℕ → Bool
is_blank_code c = c == 9 || c == 10 || c == 13 || c == 32

-- a blank bears one of them
abbrev pub is_proper : Kind → Bool
is_proper (Blank c) = is_blank_code c
is_proper Bad = false
is_proper k = true

-- a kind that a character of XML text may have
pub record IsKindOf (c : ℕ) (k : Kind) : Type 0 where
  pub code : code_of k ≡ c
  pub proper : is_proper k ≡ true

marked : (c d : ℕ) (k x : Kind) → code_of k ≡ d → is_proper k ≡ true → IsKindOf c x → IsKindOf c (if c == d then k else x)
marked c d k x h p o = on (c == d) refl
  where
    on : (b : Bool) → (c == d) ≡ b → IsKindOf c (if b then k else x)
    on true e = record { code = h ∙ sym (eqb-true c d e); proper = p }
    on false e = o

mark_is : (c : ℕ) → IsKindOf c (mark_of c)
mark_is c =
    marked c 60 Less _ refl refl (marked c 62 Greater _ refl refl (marked c 47 Slash _ refl refl (marked c 38 And _ refl refl (
    marked c 59 Semicolon _ refl refl (marked c 34 Quote _ refl refl (marked c 39 Apostrophe _ refl refl (marked c 61 Equals _ refl refl (
    marked c 33 Bang _ refl refl (marked c 63 Question _ refl refl (marked c 93 Bracket _ refl refl (marked c 35 Hash _ refl refl (
    marked c 58 Colon _ refl refl (marked c 45 Dash (Other c) refl refl (record { code = refl; proper = refl }))))))))))))))

either : (c : ℕ) (b : Bool) (x y : Kind) → (b ≡ true → IsKindOf c x) → IsKindOf c y → IsKindOf c (if b then x else y)
either c true x y f o = f refl
either c false x y f o = o

-- what it is where XML text has it
abbrev pub sort_of : ℕ → Kind
sort_of c = if is_letter c then Letter c else if is_in_range 48 57 c || c == 46 then Joint c else if is_blank_code c then Blank c else mark_of c

pub kind_is : (c : ℕ) → is_xml_character c ≡ true → IsKindOf c (kind_of c)
kind_is c h = on (is_xml_character c) h
  where
    sorted : IsKindOf c (sort_of c)
    sorted = either c (is_letter c) _ _ (λ e. record { code = refl; proper = refl }) (
        either c (is_in_range 48 57 c || c == 46) _ _ (λ e. record { code = refl; proper = refl }) (
        either c (is_blank_code c) _ _ (λ e. record { code = refl; proper = e }) (mark_is c)))

    on : (b : Bool) → b ≡ true → IsKindOf c (if b then sort_of c else Bad)
    on true e = sorted
    on false e = absurd (true-false (sym e))
