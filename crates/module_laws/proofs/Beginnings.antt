-- Whether a statement's expression begins as the statement form of `if` does depends on its symbols alone.
use Rattle.std.proofs.Common.{◌≡◌, List, [], ◌∷◌, refl, ap, ◌∙◌}
use Rattle.std.specs.Prelude.{map}
use Rattle.atl_base.specs.declared.place.Place.{Place}
use Rattle.ocl_parse.specs.declared.sign.Sign.TheVariants as S
use Rattle.ocl_parse.specs.declared.symbol.Symbol.{Symbol}
use Rattle.ocl_parse.specs.declared.symbol.Symbol.TheVariants as T
use Rattle.ocl_parse.specs.Symbols.{Lexeme, lexeme}
use Rattle.module_grammar.specs.Grammar.{begins_if}
use Rattle.module_laws.proofs.Cutting.{head_same, tail_same}

elsewhere : (s r : Symbol) (p q x y : Place) (ls ks : List Lexeme) → begins_if (lexeme p s ∷ lexeme q r ∷ ls) ≡ begins_if (lexeme x s ∷ lexeme y r ∷ ks)
elsewhere (T.Fixed S.If) (T.Fixed S.Open) p q x y ls ks = refl
elsewhere s r p q x y ls ks = refl

pub begins_alike : (ls ks : List Lexeme) → map (λ t. t.symbol) ls ≡ map (λ t. t.symbol) ks → begins_if ls ≡ begins_if ks
begins_alike [] [] h = refl
begins_alike [] (k ∷ ks) h = absurd cc
begins_alike (l ∷ ls) [] h = absurd cc
begins_alike (l ∷ []) (k ∷ []) h = refl
begins_alike (l ∷ []) (k ∷ m ∷ ks) h = absurd (let e = tail_same h in cc)
begins_alike (l ∷ m ∷ ls) (k ∷ []) h = absurd (let e = tail_same h in cc)
begins_alike (l ∷ m ∷ ls) (k ∷ n ∷ ks) h =
    let e : l.symbol ≡ k.symbol = head_same l.symbol h in
    let f : m.symbol ≡ n.symbol = head_same l.symbol (tail_same h) in
    elsewhere l.symbol m.symbol l.place m.place k.place n.place ls ks
    ∙ ap (λ s. begins_if (lexeme k.place s ∷ lexeme n.place m.symbol ∷ ks)) e ∙ ap (λ s. begins_if (lexeme k.place k.symbol ∷ lexeme n.place s ∷ ks)) f
