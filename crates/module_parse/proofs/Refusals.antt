-- Worked rows of refusals: where they stand, and of which kind they are.
use Rattle.std.proofs.Common.{◌≡◌, ℕ, List, [], ◌∷◌, refl}
use Rattle.std.specs.Prelude.{Err, codes}
use Rattle.atl_tree.specs.declared.token.Token.{Token}
use Rattle.atl_tree.specs.declared.token.TokenSort.TheVariants as T
use Rattle.atl_tree.specs.Tokens.{token, place}
use Rattle.ocl_parse.specs.Signs as G
use Rattle.ocl_parse.specs.declared.refusal.ParseRefusal.TheVariants as R
use Rattle.module_grammar.specs.Keywords as K
use Rattle.module_parse.specs.Reading.{module_in}

-- a token of the first line, at a column
abbrev a_word : List ℕ → ℕ → Token
a_word s c = token T.Plain s 0 0 (place 1 c)

abbrev a_mark : List ℕ → ℕ → Token
a_mark s c = token T.Mark s 0 0 (place 1 c)

-- module X
without_semicolon : module_in (a_word (codes "module") 1 ∷ a_word (codes "X") 8 ∷ []) (place 1 9) ≡ Err (R.Expected (place 1 9))
unfolding K.words G.operator_words G.structure_words G.constant_words G.type_words G.other_words G.marks
without_semicolon = refl

-- query q
a_query : module_in (a_word (codes "query") 1 ∷ a_word (codes "q") 7 ∷ []) (place 1 8) ≡ Err (R.OtherUnit (place 1 1))
unfolding K.words G.operator_words G.structure_words G.constant_words G.type_words G.other_words G.marks
a_query = refl

-- module query
a_keyword_as_name : module_in (a_word (codes "module") 1 ∷ a_word (codes "query") 8 ∷ []) (place 1 13) ≡ Err (R.Expected (place 1 8))
unfolding K.words G.operator_words G.structure_words G.constant_words G.type_words G.other_words G.marks
a_keyword_as_name = refl

-- module M; create O : B from I : A; and what follows
abbrev behind_header : List Token → List Token
behind_header more =
    a_word (codes "module") 1 ∷ a_word (codes "M") 8 ∷ a_mark (codes ";") 9 ∷ a_word (codes "create") 11 ∷ a_word (codes "O") 18 ∷ a_mark (codes ":") 20 ∷ a_word (codes "B") 22
    ∷ a_word (codes "from") 24 ∷ a_word (codes "I") 29 ∷ a_mark (codes ":") 31 ∷ a_word (codes "A") 33 ∷ a_mark (codes ";") 34 ∷ more

-- uses l
uses_a_library : module_in (behind_header (a_word (codes "uses") 36 ∷ a_word (codes "l") 41 ∷ [])) (place 1 42) ≡ Err (R.OtherUnit (place 1 36))
unfolding K.words G.operator_words G.structure_words G.constant_words G.type_words G.other_words G.marks
uses_a_library = refl

-- unique rule
unique_alone : module_in (behind_header (a_word (codes "unique") 36 ∷ a_word (codes "rule") 43 ∷ [])) (place 1 47) ≡ Err (R.Expected (place 1 43))
unfolding K.words G.operator_words G.structure_words G.constant_words G.type_words G.other_words G.marks
unique_alone = refl

-- lazy lazy
twice_lazy : module_in (behind_header (a_word (codes "lazy") 36 ∷ a_word (codes "lazy") 41 ∷ [])) (place 1 45) ≡ Err (R.Expected (place 1 41))
unfolding K.words G.operator_words G.structure_words G.constant_words G.type_words G.other_words G.marks
twice_lazy = refl

abbrev lazy_source : List Token → List Token
lazy_source more =
    behind_header
    (a_word (codes "lazy") 36 ∷ a_word (codes "rule") 41 ∷ a_word (codes "R") 46 ∷ a_mark (codes "{") 48 ∷ a_word (codes "from") 50 ∷ a_word (codes "s") 55 ∷ a_mark (codes ":") 57
    ∷ a_word (codes "A") 59 ∷ a_mark (codes "!") 60 ∷ a_word (codes "N") 61 ∷ more)

-- lazy rule R { from s : A!N (
lazy_with_guard : module_in (lazy_source (a_mark (codes "(") 63 ∷ [])) (place 1 64) ≡ Err (R.Expected (place 1 63))
unfolding K.words G.operator_words G.structure_words G.constant_words G.type_words G.other_words G.marks
lazy_with_guard = refl

-- entrypoint rule R ( n
entry_with_parameter : module_in (behind_header (a_word (codes "entrypoint") 36 ∷ a_word (codes "rule") 47 ∷ a_word (codes "R") 52 ∷ a_mark (codes "(") 54 ∷ a_word (codes "n") 56 ∷ [])) (place 1 57)
    ≡ Err (R.Expected (place 1 56))
unfolding K.words G.operator_words G.structure_words G.constant_words G.type_words G.other_words G.marks
entry_with_parameter = refl
