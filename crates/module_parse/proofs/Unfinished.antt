-- Where no module ends.
use Rattle.std.proofs.Common.{◌≡◌, List, refl}
use Rattle.std.specs.Prelude.{true, Err}
use Rattle.atl_base.specs.declared.place.Place.{Place}
use Rattle.atl_tree.specs.declared.module.Module.{Module}
use Rattle.atl_tree.specs.declared.module.Rule.{Rule}
use Rattle.atl_tree.specs.declared.module.Target.{Target}
use Rattle.atl_tree.specs.declared.name.Name.{Name}
use Rattle.atl_tree.specs.declared.token.Token.{Token}
use Rattle.ocl_parse.specs.declared.refusal.ParseRefusal.TheVariants as R
use Rattle.module_states.specs.Machine.{finish}
use Rattle.module_parse.specs.Reading.{told}
use Rattle.module_states.specs.Nexts.{state_of, header_of, helping_of, params_of, head_of, rule_of, colon_of, class_of, target_of, stating_of}
use Rattle.module_states.specs.declared.next.Header.{Header}
use Rattle.module_states.specs.declared.next.Header.TheVariants as H
use Rattle.module_states.specs.declared.next.Helping.{Helping}
use Rattle.module_states.specs.declared.next.Helping.TheVariants as L
use Rattle.module_states.specs.declared.next.Params.{Params}
use Rattle.module_states.specs.declared.next.Params.TheVariants as P
use Rattle.module_states.specs.declared.next.Head.{Head}
use Rattle.module_states.specs.declared.next.Head.TheVariants as D
use Rattle.module_states.specs.declared.next.Point.{Point}
use Rattle.module_states.specs.declared.next.Point.TheVariants as T
use Rattle.module_states.specs.declared.next.Colon.{Colon}
use Rattle.module_states.specs.declared.next.Colon.TheVariants as N
use Rattle.module_states.specs.declared.next.Class.{Class}
use Rattle.module_states.specs.declared.next.Class.TheVariants as C
use Rattle.module_states.specs.declared.next.TargetPoint.{TargetPoint}
use Rattle.module_states.specs.declared.next.TargetPoint.TheVariants as G
use Rattle.module_states.specs.declared.next.Stating.{Stating}
use Rattle.module_states.specs.declared.next.Stating.TheVariants as S
use Rattle.module_states.specs.declared.next.ForExpr.{ForExpr}
use Rattle.module_states.specs.declared.next.Part.{Part}
use Rattle.module_states.specs.declared.next.Next.{Next}
use Rattle.module_states.specs.declared.next.Next.TheVariants as X

in_header : (h : Header) (ts : List Token) (end : Place) → told ts end (finish true (header_of h)) ≡ Err (R.Expected end)
in_header H.Start ts end = refl
in_header H.ModuleName ts end = refl
in_header (H.ModuleEnd n) ts end = refl
in_header (H.Create n) ts end = refl
in_header (H.Model ms) ts end = refl
in_header (H.ModelColon ms m) ts end = refl
in_header (H.Meta ms m) ts end = refl
in_header (H.ModelEnd ms) ts end = refl

in_helper : (h : Helping) (ts : List Token) (end : Place) → told ts end (finish true (helping_of h)) ≡ Err (R.Expected end)
in_helper (L.Begun m) ts end = refl
in_helper (L.Context m) ts end = refl
in_helper (L.DefColon m c) ts end = refl
in_helper (L.HelperName m c) ts end = refl
in_helper (L.Named m c n) ts end = refl
in_helper (L.ResultColon s) ts end = refl

in_params : (p : Params) (ts : List Token) (end : Place) → told ts end (finish true (params_of p)) ≡ Err (R.Expected end)
in_params (P.First o) ts end = refl
in_params (P.Further o ps) ts end = refl
in_params (P.Colon o ps n) ts end = refl

in_head : (h : Head) (ts : List Token) (end : Place) → told ts end (finish true (head_of h)) ≡ Err (R.Expected end)
in_head (D.Word m ws) ts end = refl
in_head (D.RuleWord m s) ts end = refl
in_head (D.RuleName m f s a) ts end = refl
in_head (D.RuleOpen f d) ts end = refl

in_rule : (p : Point) (m : Module) (r : Rule) (ts : List Token) (end : Place) → told ts end (finish true (rule_of p m r)) ≡ Err (R.Expected end)
in_rule T.Parent m r ts end = refl
in_rule T.Brace m r ts end = refl
in_rule T.NoParams m r ts end = refl
in_rule T.CalledBrace m r ts end = refl
in_rule T.From m r ts end = refl
in_rule T.Source m r ts end = refl
in_rule T.SourceEnd m r ts end = refl
in_rule T.Rest m r ts end = refl
in_rule T.Using m r ts end = refl
in_rule T.Local m r ts end = refl
in_rule T.To m r ts end = refl
in_rule T.Target m r ts end = refl
in_rule T.TargetEnd m r ts end = refl
in_rule T.Do m r ts end = refl
in_rule T.RuleEnd m r ts end = refl

before_colon : (c : Colon) (m : Module) (r : Rule) (x : Name) (ts : List Token) (end : Place) → told ts end (finish true (colon_of c m r x)) ≡ Err (R.Expected end)
before_colon N.Source m r n ts end = refl
before_colon N.Local m r n ts end = refl
before_colon N.Target m r n ts end = refl

in_class : (c : Class) (ts : List Token) (end : Place) → told ts end (finish true (class_of c)) ≡ Err (R.Expected end)
in_class (C.Meta c) ts end = refl
in_class (C.Bang c n) ts end = refl
in_class (C.ClassName c n) ts end = refl

in_target : (p : TargetPoint) (m : Module) (r : Rule) (x : Target) (ts : List Token) (end : Place) → told ts end (finish true (target_of p m r x)) ≡ Err (R.Expected end)
in_target G.Binds m r x ts end = refl
in_target G.FirstBind m r x ts end = refl
in_target G.Bind m r x ts end = refl

in_block : (s : Stating) (ts : List Token) (end : Place) → told ts end (finish true (stating_of s)) ≡ Err (R.Expected end)
in_block (S.Statement b) ts end = refl
in_block (S.If b p) ts end = refl
in_block (S.IfBrace b e) ts end = refl
in_block (S.Else b e zs) ts end = refl
in_block (S.ElseBrace b e zs) ts end = refl
in_block (S.For b) ts end = refl
in_block (S.ForName b) ts end = refl
in_block (S.ForIn b n) ts end = refl
in_block (S.ForBrace b n e) ts end = refl

-- only behind an item, and in an expression, the end is told otherwise
pub unfinished : (x : Next) (ts : List Token) (end : Place) → ((m : Module) → x ≡ X.Item m → ⊥) → ((o : ForExpr) (p : Part) → x ≡ X.InExpr o p → ⊥) → told ts end (finish true (state_of x)) ≡ Err (R.Expected end)
unfinished (X.InHeader h) ts end a b = in_header h ts end
unfinished (X.Item m) ts end a b = absurd (a m refl)
unfinished (X.InHelper h) ts end a b = in_helper h ts end
unfinished (X.InParams p) ts end a b = in_params p ts end
unfinished (X.InKind o p) ts end a b = refl
unfinished (X.InExpr o p) ts end a b = absurd (b o p refl)
unfinished (X.InHead h) ts end a b = in_head h ts end
unfinished (X.InRule p d) ts end a b = in_rule p d.before d.rule ts end
unfinished (X.BeforeColon c d x) ts end a b = before_colon c d.before d.rule x ts end
unfinished (X.InClass c) ts end a b = in_class c ts end
unfinished (X.InTarget p d x) ts end a b = in_target p d.before d.rule x ts end
unfinished (X.Gives d x f) ts end a b = refl
unfinished (X.InBlock s) ts end a b = in_block s ts end
