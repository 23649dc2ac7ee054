-- Of the mark behind an expression, the sign alone counts.
use Rattle.std.proofs.Common.{◌≡◌, refl}
use Rattle.std.specs.Prelude.{[]}
use Rattle.atl_tree.specs.declared.expr.Expr.{Expr}
use Rattle.ocl_parse.specs.declared.symbol.Symbol.TheVariants.{Number, Words, Name as Named, Fixed}
use Rattle.ocl_parse.specs.Machine.{over, Step as StepInside, Goes as GoesInside, Stops as StopsInside, Refuses as RefusesInside, TooDeep as TooDeepInside, End as EndInside, Read as ReadInside, Expected as ExpectedInside, Deep as DeepInside}
use Rattle.module_grammar.specs.Marks.{Content, Word, Shared}
use Rattle.module_states.specs.Nexts.{sign_of, signed}
use Rattle.module_states.specs.Machine.{State, ForExpr, ForBody, ForGuard, ForLocal, ForBind, ForStat, ForAssigned, ForCondition, ForValues, a_semicolon, a_close, comma_or_close, expr_end, expr_goes, whole}

semicolon : (t : Content) (u : State) → a_semicolon t u ≡ a_semicolon (signed (sign_of t)) u
semicolon (Word k) u = refl
semicolon (Shared (Number n)) u = refl
semicolon (Shared (Words s)) u = refl
semicolon (Shared (Named s)) u = refl
semicolon (Shared (Fixed s)) u = refl

close : (t : Content) (u : State) → a_close t u ≡ a_close (signed (sign_of t)) u
close (Word k) u = refl
close (Shared (Number n)) u = refl
close (Shared (Words s)) u = refl
close (Shared (Named s)) u = refl
close (Shared (Fixed s)) u = refl

comma : (t : Content) (u v : State) → comma_or_close t u v ≡ comma_or_close (signed (sign_of t)) u v
comma (Word k) u v = refl
comma (Shared (Number n)) u v = refl
comma (Shared (Words s)) u v = refl
comma (Shared (Named s)) u v = refl
comma (Shared (Fixed s)) u v = refl

pub end_by_sign : (o : ForExpr) (e : Expr) (t : Content) → expr_end o e t ≡ expr_end o e (signed (sign_of t))
end_by_sign (ForBody m c n ps k) e t = semicolon t _
end_by_sign (ForGuard m r) e t = close t _
end_by_sign (ForLocal m r n k) e t = semicolon t _
end_by_sign (ForBind m r x n) e t = comma t _ _
end_by_sign (ForStat k ss) e t = semicolon t _
end_by_sign (ForAssigned k ss x n) e t = semicolon t _
end_by_sign (ForCondition k ss) e t = close t _
end_by_sign (ForValues k ss n) e t = close t _

whole_by_sign : (u : EndInside) (o : ForExpr) (t : Content) → whole u (λ e. expr_end o e t) ≡ whole u (λ e. expr_end o e (signed (sign_of t)))
whole_by_sign (ReadInside e r) o t = end_by_sign o e t
whole_by_sign (ExpectedInside r) o t = refl
whole_by_sign (DeepInside p) o t = refl

pub goes_by_sign : (o : ForExpr) (t : Content) (u : StepInside) → expr_goes o t u ≡ expr_goes o (signed (sign_of t)) u
goes_by_sign o t (GoesInside fs n) = refl
goes_by_sign o t (StopsInside fs e) = whole_by_sign (over fs e []) o t
goes_by_sign o t RefusesInside = refl
goes_by_sign o t (TooDeepInside p) = refl
