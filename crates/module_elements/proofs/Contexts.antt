-- What follows where one mark is told from all others.
use Rattle.std.proofs.Common.{◌≡◌, [], refl, true, false}
use Rattle.atl_base.specs.declared.place.Place.{Place}
use Rattle.atl_tree.specs.declared.module.Module.{Module}
use Rattle.atl_tree.specs.declared.module.Rule.{Rule}
use Rattle.ocl_parse.specs.declared.frame.Next.TheVariants as N
use Rattle.ocl_parse.specs.declared.sign.Sign.TheVariants as S
use Rattle.ocl_parse.specs.declared.symbol.Symbol.TheVariants.{Fixed}
use Rattle.module_grammar.specs.declared.keyword.Keyword.TheVariants as W
use Rattle.module_grammar.specs.Marks.{Content, Word, Shared}
use Rattle.module_states.specs.Machine.{Goes, Refuses, AtUsing, ForContext, at_context, at_rest, at_to, in_kind}
use Rattle.module_states.specs.Nexts.{is_coll, is_using}

pub context_refuses : (m : Module) (t : Content) (p : Place) → is_coll t ≡ true → at_context m t p ≡ Refuses
context_refuses m (Shared (Fixed (S.Coll w))) p h = refl
context_refuses m t p h = cc

pub context_begins : (m : Module) (t : Content) (p : Place) → is_coll t ≡ false → at_context m t p ≡ in_kind (ForContext m) N.Kind [] t p
context_begins m (Shared (Fixed (S.Coll w))) p h = cc
context_begins m t p h = refl

pub rest_using : (m : Module) (r : Rule) (t : Content) → is_using t ≡ true → at_rest m r t ≡ Goes (AtUsing m r)
rest_using m r (Word W.Using) h = refl
rest_using m r t h = cc

pub rest_else : (m : Module) (r : Rule) (t : Content) → is_using t ≡ false → at_rest m r t ≡ at_to m r t
rest_else m r (Word W.Using) h = cc
rest_else m r t h = refl
