-- The end of an expression ends what ends at a closing symbol.
use Rattle.std.proofs.Common.{◌≡◌, List, [], ◌∷◌, refl, ap, sym, subst, ◌∙◌, Result, Ok, Err}
use Rattle.std.specs.Prelude.{Option, IfOk}
use Rattle.std.specs.declared.alloc.AllocError.{AllocError}
use Rattle.atl_tree.specs.declared.expr.Expr.{Expr}
use Rattle.ocl_parse.specs.declared.frame.Frame.{Frame}
use Rattle.ocl_parse.specs.declared.frame.Frame.TheVariants as F
use Rattle.ocl_parse.specs.Symbols.{Lexeme}
use Rattle.ocl_parse.specs.Trees.{binary, unary, within}
use Rattle.ocl_parse.specs.Machine.{Step, Stops, End, Expected, closed, over, alone}
use Rattle.ocl_parse.specs.Reading.{Ends}

abbrev alone_at : List Lexeme → Step → End
alone_at rest (Stops gs a) = alone gs a rest
alone_at rest s = Expected rest

over_closed : (fs : List Frame) (e : Expr) (rest : List Lexeme) → over fs e rest ≡ alone_at rest (closed fs e Stops)
over_closed [] e rest = refl
over_closed (F.Left a p o ∷ fs) e rest = over_closed fs (binary a p o e) rest
over_closed (F.Unary o p ∷ fs) e rest = over_closed fs (unary p o e) rest
over_closed (F.Within p n t a ∷ fs) e rest = over_closed fs (within p n t a e) rest
over_closed (f ∷ fs) e rest = refl

over_alone : (fs gs : List Frame) (e a : Expr) → ((k : List Frame → Expr → Step) → closed fs e k ≡ k gs a) → (rest : List Lexeme) → over fs e rest ≡ alone gs a rest
over_alone fs gs e a h rest = over_closed fs e rest ∙ ap (alone_at rest) (h Stops)

pub over_ends : (fs gs : List Frame) (e a : Expr) (r : Result (Option Expr) AllocError) → ((k : List Frame → Expr → Step) → closed fs e k ≡ k gs a) → IfOk r (λ x. (rest : List Lexeme) → Ends x rest (alone gs a rest)) → IfOk r (λ x. (rest : List Lexeme) → Ends x rest (over fs e rest))
over_ends fs gs e a (Ok x) h g = λ rest. subst (Ends x rest) (sym (over_alone fs gs e a h rest)) (g rest)
over_ends fs gs e a (Err x) h g = g
