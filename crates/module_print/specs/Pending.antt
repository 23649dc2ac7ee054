-- What is still to be printed of types, expressions and statements, as parts of the text: each mark has a blank behind it.
use Rattle.std.specs.Prelude.{◌≡◌, ℕ, ◌+◌, ◌-◌, ◌<◌, Bool, true, false, Option, None, Some, List, [], ◌∷◌, ◌++◌, length, map, codes, decimal}
use Rattle.std.specs.List.{flat_map}
use Rattle.atl_tree.specs.declared.kind.KindNode.{KindNode}
use Rattle.atl_tree.specs.declared.expr.Expr.{Expr}
use Rattle.atl_tree.specs.declared.module.Stat.{Stat}
use Rattle.ocl_parse.specs.declared.sign.Sign.TheVariants as S
use Rattle.ocl_parse.specs.Symbols.{Lexeme}
use Rattle.ocl_parse.specs.Grammar.{Written, If, spelt, listed, fixed, kind_spelt}
use Rattle.module_print.specs.declared.print.part.Part.{Part}
use Rattle.module_print.specs.declared.print.part.Part.TheVariants as P
use Rattle.module_grammar.specs.Marks.{Mark}
use Rattle.module_grammar.specs.Grammar.{WrittenStat, If as Branch, IfElse, NoStats, stat_marks, begins_if}
use Rattle.module_print.specs.Writing.{here, whole_written, more_stats, expr_written, kind_written, stat_written, arguments, round_leftmost}
use Rattle.module_print.specs.Printed.{mark_text, symbol_text, sign_text, keyword_text, name_text, words_text}

-- marks, and symbols, with a blank behind each
abbrev pub spaced : List Mark → List ℕ
spaced [] = []
spaced (t ∷ ts) = mark_text t.content ++ (32 ∷ spaced ts)

abbrev pub spelling : List Lexeme → List ℕ
spelling [] = []
spelling (t ∷ ts) = symbol_text t.symbol ++ (32 ∷ spelling ts)

-- with its leftmost `if .. endif` in parentheses, where it is to begin so
abbrev pub begun : Bool → Written → Written
begun true w = round_leftmost w
begun false w = w

-- the same of what stands in no parentheses of its own
abbrev pub bare : Bool → Written → Written
bare true (If p c q a r b s) = If p c q a r b s
bare true w = round_leftmost w
bare false w = w

abbrev pub kind_text : KindNode → List ℕ
kind_text k = spelling (kind_spelt (kind_written k))

-- an expression where operators of level l and above may stand
abbrev pub expr_text : Bool → ℕ → Expr → List ℕ
expr_text first l e = spelling (spelt (begun first (expr_written e l)))

abbrev pub elements_text : List Expr → List ℕ
elements_text es = spelling (listed (arguments (map (λ f. f 0) (map expr_written es))))

-- elements that are not the first
abbrev pub others_text : List Expr → List ℕ
others_text [] = []
others_text (e ∷ es) = codes "," ++ (32 ∷ (expr_text false 0 e ++ others_text es))

abbrev pub stat_text : Stat → List ℕ
stat_text s = spaced (stat_marks (stat_written s))

-- an `if`, and its `else` where it has one
abbrev pub branch_written : Expr → List Stat → Option (List Stat) → WrittenStat
branch_written e ss None = Branch here here (whole_written e) here here (more_stats NoStats (map stat_written ss)) here
branch_written e ss (Some zs) = IfElse here here (whole_written e) here here (more_stats NoStats (map stat_written ss)) here here here (more_stats NoStats (map stat_written zs)) here

-- a part, before what follows
abbrev pub put : Part → List ℕ → List ℕ
put (P.Fixed s) rest = sign_text s ++ (32 ∷ rest)
put (P.Keyword k) rest = keyword_text k ++ (32 ∷ rest)
put (P.Number n) rest = decimal n ++ (32 ∷ rest)
put (P.Words s) rest = words_text s.now ++ (32 ∷ rest)
put (P.Name s) rest = name_text s.now ++ (32 ∷ rest)
put P.Iterate rest = codes "iterate" ++ (32 ∷ rest)
put (P.Kind k) rest = kind_text k.now ++ rest
put (P.Expression e l first) rest = expr_text first l e.now ++ rest
put (P.Elements es) rest = elements_text es.now ++ rest
put (P.Others es) rest = others_text es.now ++ rest
put (P.Statements ss) rest = flat_map stat_text ss.now ++ rest

abbrev pub pending : List Part → List ℕ
pending [] = []
pending (p ∷ ps) = put p (pending ps)

-- the parts that are one token, and how much more work than its text a list of parts is
abbrev pub single : Part → ℕ
single (P.Kind k) = 0
single (P.Expression e l first) = 0
single (P.Elements es) = 0
single (P.Others es) = 0
single (P.Statements ss) = 0
single p = 1

abbrev pub extra : Part → ℕ
extra (P.Elements es) = 2
extra (P.Others es) = 1
extra (P.Statements ss) = 1
extra p = 0

abbrev pub singles : List Part → ℕ
singles [] = 0
singles (p ∷ ps) = single p + singles ps

abbrev pub extras : List Part → ℕ
extras [] = 0
extras (p ∷ ps) = extra p + extras ps

-- the work that is left
abbrev pub work : List Part → ℕ
work ps = length (pending ps) + length (pending ps) + extras ps - singles ps

-- from old parts to new ones: there is so much text more, in parts that are nearer to tokens than one that has so much
-- extra work
pub record Opens (more : ℕ) (old new : List Part) (added : List ℕ) : Type 0 where
  pub text : pending new ≡ added ++ pending old
  pub less : singles old + extras new < singles new + (more + extras old)

-- behind `if` the symbols begin the statement form
abbrev pub begins_open : List Lexeme → Bool
begins_open ts = begins_if (fixed here S.If ∷ ts)
