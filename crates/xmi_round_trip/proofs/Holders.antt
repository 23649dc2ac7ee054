-- What holds an object: a root is held by none, and a content by the one object that refers to it by a containment.
use Rattle.std.proofs.Common.{◌≡◌, true, refl, sym, ap, ◌∙◌, Option, Some, None}
use Rattle.std.specs.Prelude.{Contains, IsSome, option_map}
use Rattle.std.proofs.lemmas.Option.{none-some}
use Rattle.atl_base.specs.declared.numbers.FeatId.{FeatId}
use Rattle.atl_base.specs.declared.numbers.ObjId.{ObjId}
use Rattle.ecore_meta.specs.Valid.{IsMetamodel}
use Rattle.model_store.specs.Contents.{Contents, contains, holder, object_at}
use Rattle.model_store.specs.Valid.{IsModel, Refers}
use Rattle.model_store.proofs.CreatedModel.{seen_once}
use Rattle.model_store.proofs.Holding.{holder_refers, uncontained}

module _ (m : Contents) (valid : IsMetamodel m.meta) (model : IsModel m) where
  -- the holder refers to the object, by a containment
  pub held_by : (o p : ObjId) (f : FeatId) → holder m o ≡ Some (p, f) → (contains m.meta f ≡ true) × Refers m p f o
  held_by o p f h = holder_refers m (seen_once m.meta valid) model.shaped o p f h

  -- the object and the feature that contain it
  pub holder_is : (o p : ObjId) (f : FeatId) → contains m.meta f ≡ true → Refers m o f p → holder m p ≡ Some (o, f)
  holder_is o p f inside h = on (holder m p) refl
    where
      on : (x : Option (ObjId × FeatId)) → holder m p ≡ x → x ≡ Some (o, f)
      on None e = absurd (uncontained m p (ap (option_map (λ at. at.0)) e) o f inside h)
      on (Some at) e =
          let k = held_by p at.0 at.1 e in
          let same = model.contained_once at.0 o p at.1 f k.0 inside k.1 h in
          ap Some (ap (λ q. (q, at.1)) same.0 ∙ ap (λ g. (o, g)) same.1)

  -- a root stands in none
  pub root_free : (p : ObjId) → Contains m.roots p → holder m p ≡ None
  root_free p h = on (holder m p) ((model.roots p).0 h).1
    where
      on : (x : Option (ObjId × FeatId)) → option_map (λ at. at.0) x ≡ None → x ≡ None
      on None e = refl
      on (Some at) e = absurd (none-some at.0 (sym e))

  -- a root is there
  pub root_there : (p : ObjId) → Contains m.roots p → IsSome (object_at m.objects p)
  root_there p h = ((model.roots p).0 h).0
