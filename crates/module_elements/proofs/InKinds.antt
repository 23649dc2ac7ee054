-- Where a type that is being read is not over.
use Rattle.std.proofs.Common.{◌≡◌, List, [], refl, subst, true}
use Rattle.std.specs.Prelude.{Result, IfOk}
use Rattle.atl_base.specs.declared.place.Place.{Place}
use Rattle.atl_tree.specs.declared.kind.KindNode.{KindNode}
use Rattle.atl_tree.specs.declared.module.Module.{Module}
use Rattle.ocl_parse.specs.declared.frame.Frame.{Frame}
use Rattle.ocl_parse.specs.declared.frame.Next.{Next}
use Rattle.ocl_parse.specs.declared.frame.Next.TheVariants as N
use Rattle.ocl_parse.specs.Machine.{step}
use Rattle.module_grammar.specs.Marks.{Content, symbol}
use Rattle.module_states.specs.Machine.{ForKind, ForContext, in_kind, kind_goes}
use Rattle.module_states.specs.Nexts.{step_of}
use Rattle.module_states.specs.declared.next.Move.{Move}

pub in_kind_goes : (o : ForKind) (n : Next) (fs : List Frame) (t : Content) (p : Place) → ((k : KindNode) → n ≡ N.HaveKind k → ⊥) → in_kind o n fs t p ≡ kind_goes o (step true fs n (symbol t) p)
in_kind_goes o (N.HaveKind k) fs t p h = absurd (h k refl)
in_kind_goes o n fs t p h = refl

pub context_goes : {E : Type 0} (m : Module) (o : ForKind) (fs : List Frame) (t : Content) (p : Place) (r : Result Move E) → o ≡ ForContext m → fs ≡ []
    → IfOk r (λ x. kind_goes o (step true fs N.Kind (symbol t) p) ≡ step_of x) → IfOk r (λ x. in_kind (ForContext m) N.Kind [] t p ≡ step_of x)
context_goes m o fs t p r ho hs f =
    subst (λ (q : ForKind). IfOk r (λ x. kind_goes q (step true [] N.Kind (symbol t) p) ≡ step_of x)) ho
    (subst (λ (gs : List Frame). IfOk r (λ x. kind_goes o (step true gs N.Kind (symbol t) p) ≡ step_of x)) hs f)
