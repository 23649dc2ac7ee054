-- What stands for a character of a document stands for one of XML text.
use Rattle.std.proofs.Common.{◌≡◌, ℕ, ◌+◌, ◌<◌, List, [], ◌∷◌, length, get_or, refl, arith, zero, suc}
use Rattle.std.specs.Prelude.{Bool, true, false, if◌then◌else◌, IsTrue, ◌==◌, ◌||◌}
use Rattle.atl_base.specs.XmlText.{is_xml_character}
use Rattle.doc_text.specs.Symbols.{Kind, Less, Greater, Slash, And, Semicolon, Quote, Apostrophe, Equals, Bang, Question, Bracket, Hash, Colon, Dash, Blank, Letter, Joint, Other, Bad, Symbol, IsSound, AreSound, kind_of, mark_of, is_letter}
use Rattle.std.specs.Int.{is_in_range}
use Rattle.doc_text.specs.Characters.{placed, symbols, characters}

either : (b : Bool) (j k : Kind) → IsSound j → IsSound k → IsSound (if b then j else k)
either true j k x y = x
either false j k x y = y

mark_sound : (c : ℕ) → IsTrue (is_xml_character c) → IsSound (mark_of c)
mark_sound c h =
    either (c == 60) Less _ refl (either (c == 62) Greater _ refl (either (c == 47) Slash _ refl (either (c == 38) And _ refl (either (c == 59) Semicolon _ refl (either (c == 34) Quote _ refl (either (c == 39) Apostrophe _ refl
    (either (c == 61) Equals _ refl (either (c == 33) Bang _ refl (either (c == 63) Question _ refl (either (c == 93) Bracket _ refl (either (c == 35) Hash _ refl (either (c == 58) Colon _ refl (either (c == 45) Dash (Other c) refl h)))))))))))))

good_sound : (c : ℕ) → IsTrue (is_xml_character c) → IsSound (if is_letter c then Letter c else if is_in_range 48 57 c || c == 46 then Joint c else if c == 9 || c == 10 || c == 13 || c == 32 then Blank c else mark_of c)
good_sound c h = either (is_letter c) (Letter c) _ h (either (is_in_range 48 57 c || c == 46) (Joint c) _ h (either (c == 9 || c == 10 || c == 13 || c == 32) (Blank c) _ h (mark_sound c h)))

pub kind_sound : (c : ℕ) → IsSound (kind_of c)
kind_sound c = on (is_xml_character c) refl
  where
    on : (b : Bool) → is_xml_character c ≡ b → IsSound (if b then (if is_letter c then Letter c else if is_in_range 48 57 c || c == 46 then Joint c else if c == 9 || c == 10 || c == 13 || c == 32 then Blank c else mark_of c) else Bad)
    on true e = good_sound c e
    on false e = tt

all : (b : Bool) (ss ts : List Symbol) → AreSound ss → AreSound ts → AreSound (if b then ss else ts)
all true ss ts x y = x
all false ss ts x y = y

placed_sound : (returned : Bool) (line column : ℕ) (cs : List ℕ) → AreSound (placed returned line column cs)
placed_sound returned line column [] = tt
placed_sound returned line column (c ∷ rest) =
    all (c == 10) _ _ (all returned _ _ (placed_sound false (line + 1) 1 rest) (refl, placed_sound false (line + 1) 1 rest))
    (all (c == 13) _ _ (refl, placed_sound true line (column + 1) rest) (kind_sound c, placed_sound false line (column + 1) rest))

pub symbols_sound : (bytes : List ℕ) → AreSound (symbols bytes)
symbols_sound bytes = placed_sound false 1 1 (characters bytes)

pub sound_at : (ss : List Symbol) (i : ℕ) (d : Symbol) → AreSound ss → i < length ss → IsSound (get_or ss i d).kind
sound_at [] i d h k = absurd (omega arith)
sound_at (s ∷ ss) zero d h k = h.0
sound_at (s ∷ ss) (suc i) d h k = sound_at ss i d h.1 (omega arith)
