-- Why a text has no tokens, as relations, and the laws of tokens: the function answers tokens exactly where the text has
-- them, and a refusal exactly where this one holds.
use Rattle.std.specs.Prelude.{◌≡◌, ◌⊎◌, ℕ, List, ◌∷◌, ◌++◌, None, Some, Ok, Err, false}
use Rattle.atl_base.specs.declared.place.Place.{Place}
use Rattle.atl_tree.specs.declared.token.Token.{Token}
use Rattle.atl_tree.specs.declared.token.Tokens.{Tokens}
use Rattle.atl_tree.specs.declared.token.LexRefusal.{LexRefusal}
use Rattle.atl_tree.specs.declared.token.LexRefusal.TheVariants as R
use Rattle.atl_tree.specs.Pieces.{Piece}
use Rattle.atl_tree.specs.Cutting.{chars_of, Begins, IsCut, IsStuck}
use Rattle.atl_tree.specs.Tokens.{place, after, tokens_from, first_fault, body_of, begin_byte, HasTokens, tokens_of}

-- the tokens of pieces that a text begins with
abbrev pub front_tokens : List ℕ → List Piece → List Token
front_tokens text ps = tokens_from (begin_byte text) (place 1 1) ps

-- no piece begins with the character, whatever follows it
abbrev pub BeginsNone : ℕ → Type 0
BeginsNone c = (more : List ℕ) → IsStuck (c ∷ more)

-- the text begins with pieces of which none is refused, then comes a character, and the place is that of the character
abbrev pub StopsAt : (ℕ → List ℕ → Type 0) → List ℕ → Place → Type 0
StopsAt Why text p = (ps : List Piece) × (c : ℕ) × (cs : List ℕ) × Begins (body_of text) ps (c ∷ cs) × Why c cs
    × (first_fault false (front_tokens text ps) ≡ None) × (p ≡ after (place 1 1) (chars_of ps))

-- a text or a quoted name begins, and no text and no quoted name that begins so has an end
abbrev pub HasNoEnd : ℕ → List ℕ → Type 0
HasNoEnd c cs = ((c ≡ 34) ⊎ (c ≡ 39)) × IsStuck (c ∷ cs)

-- the text is cut as far as it can be, and this is the first of its tokens that is refused
abbrev pub IsFault : List ℕ → LexRefusal → Type 0
IsFault text e = (ps : List Piece) × (rest : List ℕ) × Begins (body_of text) ps rest × IsStuck rest × (first_fault false (front_tokens text ps) ≡ Some e)

abbrev pub Refuses : List ℕ → LexRefusal → Type 0
Refuses text (R.BadByte p) = StopsAt (λ c cs. BeginsNone c) text p
Refuses text (R.OpenText p) = StopsAt HasNoEnd text p
Refuses text (R.WideNumber p) = IsFault text (R.WideNumber p)
Refuses text (R.RealNumber p) = IsFault text (R.RealNumber p)
Refuses text R.Memory = ⊥

pub record IsExact (text : List ℕ) : Type 0 where
  pub reads : (ts : Tokens) → HasTokens text ts → tokens_of text ≡ Ok ts
  pub tells : (ts : Tokens) → tokens_of text ≡ Ok ts → HasTokens text ts
  pub refused : (e : LexRefusal) → Refuses text e → tokens_of text ≡ Err e
  pub refuses : (e : LexRefusal) → tokens_of text ≡ Err e → Refuses text e

-- no text that agrees with this one up to and with a bad character has tokens
abbrev pub IsBadFront : List ℕ → Type 0
IsBadFront text = (p : Place) → tokens_of text ≡ Err (R.BadByte p)
    → (front : List ℕ) × (c : ℕ) × (cs : List ℕ) × (body_of text ≡ front ++ (c ∷ cs)) × (p ≡ after (place 1 1) front)
    × ((more : List ℕ) (ps : List Piece) → IsCut (front ++ (c ∷ more)) ps → ⊥)

-- no text that agrees with this one up to and with the line feed behind an open text or quoted name has tokens
abbrev pub IsOpenFront : List ℕ → Type 0
IsOpenFront text = (p : Place) → tokens_of text ≡ Err (R.OpenText p)
    → (front : List ℕ) × (c : ℕ) × (cs : List ℕ) × (body_of text ≡ front ++ (c ∷ cs)) × (p ≡ after (place 1 1) front)
    × ((line rest : List ℕ) → cs ≡ line ++ (10 ∷ rest) → (more : List ℕ) (ps : List Piece) → IsCut (front ++ (c ∷ (line ++ (10 ∷ more)))) ps → ⊥)
