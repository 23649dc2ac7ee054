-- Statements as they are written canonically, and their text.
use Rattle.std.proofs.Common.{◌≡◌, ◌+◌, ◌<◌, arith, ℕ, List, [], ◌∷◌, ◌++◌, Option, None, Some, refl, sym, ap, ◌∙◌, append_assoc, true, false}
use Rattle.std.specs.Prelude.{Bool, map, codes, if◌then◌else◌}
use Rattle.std.specs.List.{flat_map}
use Rattle.std.proofs.lemmas.List.{append-nil}
use Rattle.atl_tree.specs.declared.name.Name.{Name}
use Rattle.atl_tree.specs.declared.expr.Expr.{Expr}
use Rattle.atl_tree.specs.declared.module.Stat.{Stat, roll-Stat, map-Stat, fold-roll-Stat}
use Rattle.atl_tree.specs.declared.module.Stat.TheOpen as Y
use Rattle.atl_tree.specs.declared.module.Stat.TheVariants as A
use Rattle.ocl_parse.specs.declared.sign.Ender.TheVariants as E
use Rattle.ocl_parse.specs.declared.sign.Sign.TheVariants as S
use Rattle.ocl_parse.specs.Grammar.{Written, spelt}
use Rattle.module_print.specs.declared.print.part.Part.{Part}
use Rattle.module_grammar.specs.Marks.{Mark, sign}
use Rattle.module_print.specs.Printed.{name_text}
use Rattle.module_grammar.specs.Grammar.{Stats, NoStats, MoreStats, Eval, Assign, If, IfElse, For, stat_marks, stats_marks, begins_if}
use Rattle.module_print.specs.Writing.{here, name_here, expr_written, whole_written, stat_layer, stat_written, more_stats, beginning, round_leftmost}
use Rattle.module_print.specs.Pending.{spaced, spelling, expr_text, stat_text, begun, branch_written, pending, singles, extras, Opens}
use Rattle.module_print.proofs.Opened.{spaced-append, spaced-shared}

stats_more : (ss : Stats) (ts : List Stat) → spaced (stats_marks (more_stats ss (map stat_written ts))) ≡ spaced (stats_marks ss) ++ flat_map stat_text ts
stats_more ss [] = sym (append-nil (spaced (stats_marks ss)))
stats_more ss (t ∷ ts) =
    stats_more (MoreStats ss (stat_written t)) ts ∙ ap (λ l. l ++ flat_map stat_text ts) (spaced-append (stats_marks ss) (stat_marks (stat_written t)))
    ∙ append_assoc (spaced (stats_marks ss)) (stat_text t) (flat_map stat_text ts)

pub stats_text : (ts : List Stat) → spaced (stats_marks (more_stats NoStats (map stat_written ts))) ≡ flat_map stat_text ts
stats_text ts = stats_more NoStats ts

begun_so : (b : Bool) (w : Written) → begun b w ≡ (if b then round_leftmost w else w)
begun_so true w = refl
begun_so false w = refl

pub value_says : (b : Bool) (e : Expr) (rest : List ℕ) → b ≡ begins_if (spelt (expr_written e 0)) → expr_text b 0 e ++ (59 ∷ (32 ∷ rest)) ≡ spaced (stat_marks (Eval (beginning (whole_written e)) here)) ++ rest
value_says b e rest h =
    ap (λ w. spelling (spelt w) ++ (59 ∷ (32 ∷ rest))) (begun_so b (expr_written e 0) ∙ ap (λ t. if t then round_leftmost (expr_written e 0) else expr_written e 0) h)
    ∙ eval_says (beginning (whole_written e)) rest
  where
    eval_says : (w : Written) (rest : List ℕ) → spelling (spelt w) ++ (59 ∷ (32 ∷ rest)) ≡ spaced (stat_marks (Eval w here)) ++ rest
    eval_says w rest = simp (spaced-append, spaced-shared, append_assoc)

pub assign_says : (b : Bool) (e : Expr) (n : Name) (v : Expr) (rest : List ℕ) → b ≡ begins_if (spelt (expr_written e 0))
    → expr_text b 0 e ++ (46 ∷ (32 ∷ (name_text n.text ++ (32 ∷ (codes "<-" ++ (32 ∷ (expr_text false 0 v ++ (59 ∷ (32 ∷ rest)))))))))
    ≡ spaced (stat_marks (Assign (beginning (whole_written e)) here (name_here n) here (whole_written v) here)) ++ rest
assign_says b e n v rest h =
    ap (λ w. spelling (spelt w) ++ (46 ∷ (32 ∷ (name_text n.text ++ (32 ∷ (codes "<-" ++ (32 ∷ (expr_text false 0 v ++ (59 ∷ (32 ∷ rest)))))))))) (begun_so b (expr_written e 0) ∙ ap (λ t. if t then round_leftmost (expr_written e 0) else expr_written e 0) h)
    ∙ gives_says (beginning (whole_written e)) (whole_written v)
  where
    gives_says : (w u : Written) → spelling (spelt w) ++ (46 ∷ (32 ∷ (name_text n.text ++ (32 ∷ (codes "<-" ++ (32 ∷ (spelling (spelt u) ++ (59 ∷ (32 ∷ rest))))))))) ≡ spaced (stat_marks (Assign w here (name_here n) here u here)) ++ rest
    gives_says w u = simp (spaced-append, spaced-shared, append_assoc)

pub if_says : (e : Written) (ss : List Stat) (rest : List ℕ) → codes "if" ++ (32 ∷ (40 ∷ (32 ∷ (spelling (spelt e) ++ (41 ∷ (32 ∷ (123 ∷ (32 ∷ (flat_map stat_text ss ++ (125 ∷ (32 ∷ rest)))))))))))
    ≡ spaced (stat_marks (If here here e here here (more_stats NoStats (map stat_written ss)) here)) ++ rest
if_says e ss rest = simp (spaced-append, spaced-shared, stats_text, append_assoc)

abbrev pub else_marks : List Stat → List Mark
else_marks ss = sign here (S.End E.Else) ∷ sign here S.OpenBrace ∷ (stats_marks (more_stats NoStats (map stat_written ss)) ++ (sign here (S.End E.CloseBrace) ∷ []))

pub else_says : (ss : List Stat) (rest : List ℕ) → codes "else" ++ (32 ∷ (123 ∷ (32 ∷ (flat_map stat_text ss ++ (125 ∷ (32 ∷ rest)))))) ≡ spaced (else_marks ss) ++ rest
else_says ss rest = simp (spaced-append, stats_text, append_assoc)

pub for_says : (n : Name) (e : Written) (ss : List Stat) (rest : List ℕ) → codes "for" ++ (32 ∷ (40 ∷ (32 ∷ (name_text n.text ++ (32 ∷ (codes "in" ++ (32 ∷ (spelling (spelt e) ++ (41 ∷ (32 ∷ (123 ∷ (32 ∷ (flat_map stat_text ss ++ (125 ∷ (32 ∷ rest)))))))))))))))
    ≡ spaced (stat_marks (For here here (name_here n) here e here here (more_stats NoStats (map stat_written ss)) here)) ++ rest
for_says n e ss rest = simp (spaced-append, spaced-shared, stats_text, append_assoc)

-- an `if` with its `else` is an `if` and then the `else`
pub else_after : (e : Written) (ss zs : List Stat) → spaced (stat_marks (IfElse here here e here here (more_stats NoStats (map stat_written ss)) here here here (more_stats NoStats (map stat_written zs)) here))
    ≡ spaced (stat_marks (If here here e here here (more_stats NoStats (map stat_written ss)) here)) ++ spaced (else_marks zs)
else_after e ss zs = simp (spaced-append, spaced-shared, stats_text, append_assoc)

pub else_opens : (old mid new : List Part) (a b : List ℕ) → Opens 0 old mid b → Opens 0 mid new a → Opens 0 old new (a ++ b)
else_opens old mid new a b o q = record {
  text = q.text ∙ ap (λ l. a ++ l) o.text ∙ sym (append_assoc a b (pending old));
  less = let x : singles old + extras mid < singles mid + (0 + extras old) = o.less in let y : singles mid + extras new < singles new + (0 + extras mid) = q.less in omega (arith, x, y);
}

stat_is : (y : Y.Stat-F Stat) (k : Stat) → roll-Stat y ≡ k → stat_written k ≡ stat_layer (map-Stat _ _ stat_written y)
unfolding stat_written
stat_is y k h = sym (ap stat_written h) ∙ fold-roll-Stat _ stat_layer y

pub stat-Eval : (e : Expr) → stat_written (A.Eval e) ≡ Eval (beginning (whole_written e)) here
stat-Eval e = stat_is (Y.Eval e) (A.Eval e) (A.rolls-Eval e)

pub stat-Assign : (e : Expr) (n : Name) (v : Expr) → stat_written (A.Assign e n v) ≡ Assign (beginning (whole_written e)) here (name_here n) here (whole_written v) here
stat-Assign e n v = stat_is (Y.Assign e n v) (A.Assign e n v) (A.rolls-Assign e n v)

pub stat-For : (n : Name) (e : Expr) (ss : List Stat) → stat_written (A.For n e ss) ≡ For here here (name_here n) here (whole_written e) here here (more_stats NoStats (map stat_written ss)) here
stat-For n e ss = stat_is (Y.For n e ss) (A.For n e ss) (A.rolls-For n e ss)

pub stat-IfOnly : (e : Expr) (ss : List Stat) → stat_written (A.If e ss None) ≡ If here here (whole_written e) here here (more_stats NoStats (map stat_written ss)) here
stat-IfOnly e ss = stat_is (Y.If e ss None) (A.If e ss None) (A.rolls-If e ss None)

pub stat-IfElse : (e : Expr) (ss zs : List Stat) → stat_written (A.If e ss (Some zs)) ≡ IfElse here here (whole_written e) here here (more_stats NoStats (map stat_written ss)) here here here (more_stats NoStats (map stat_written zs)) here
stat-IfElse e ss zs = stat_is (Y.If e ss (Some zs)) (A.If e ss (Some zs)) (A.rolls-If e ss (Some zs))

pub stat-If : (e : Expr) (ss : List Stat) (o : Option (List Stat)) → stat_written (A.If e ss o) ≡ branch_written e ss o
stat-If e ss None = stat-IfOnly e ss
stat-If e ss (Some zs) = stat-IfElse e ss zs
