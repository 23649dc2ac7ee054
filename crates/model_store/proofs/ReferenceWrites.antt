-- A write to a reference leaves a model.
use Rattle.std.proofs.Common.{◌≡◌, suc, inl, inr, List, [], ◌∷◌, refl, sym, ap, ◌∙◌, subst, arith, Some}
use Rattle.std.specs.Prelude.{Bool, true, false, is_some, if◌then◌else◌, All, IsSome}
use Rattle.std.specs.Option.{option_map_or}
use Rattle.std.proofs.lemmas.Bool.{true≢false}
use Rattle.atl_base.specs.declared.numbers.FeatId.{FeatId}
use Rattle.atl_base.specs.declared.numbers.ObjId.{ObjId}
use Rattle.ecore_meta.specs.Valid.{IsMetamodel}
use Rattle.model_store.specs.declared.parts.Cellv.{Cellv}
use Rattle.model_store.specs.declared.parts.Cellv.TheVariants.{Obj}
use Rattle.model_store.specs.Contents.{Contents, object_at, class_of, slot, refers, is_many, contains, opposite, refusal, holds, set_slot}
use Rattle.model_store.specs.Valid.{IsModel, IsOfType, Fits, HasSlot}
use Rattle.model_store.specs.Writes.{give_up, give_up_back, make_way, link, add, add_value, add_all, rewired, write, written}
use Rattle.model_store.proofs.Added.{IsLess, less_less, object_of_type, empty_slot, GivesUp, gives_up, GivesBack, gives_back, MakesWay, makes_way, other_end}
use Rattle.model_store.proofs.AttributeWrites.{attribute_write_is_model}
use Rattle.model_store.proofs.Created.{there_by_type}
use Rattle.model_store.proofs.Linked.{MayLink, HasRoom, link_is_model, link_class, link_meta, link_has}
use Rattle.model_store.proofs.Slots.{at_of}
use Rattle.model_store.proofs.Thinned.{held, holding}
use Rattle.model_store.proofs.Unlinked.{one_contains}
use Rattle.model_store.proofs.Wired.{opposite_refers, still_of_type}

-- a model with the same objects
pub record IsSame (m n : Contents) : Type 0 where
  pub model : IsModel n
  pub meta : n.meta ≡ m.meta
  pub class : (p : ObjId) → class_of n p ≡ class_of m p
  pub has : (p : ObjId) (g : FeatId) → refusal n p g ≡ refusal m p g

-- types go by classes
pub kept_type : (m n : Contents) → n.meta ≡ m.meta → ((p : ObjId) → class_of n p ≡ class_of m p) → (f : FeatId) (v : Cellv) → IsOfType m f v → IsOfType n f v
kept_type m n meta class f v h =
    let same : n ≡ record { meta = m.meta; objects = n.objects; roots = n.roots } = ap (λ z. record { meta = z; objects = n.objects; roots = n.roots }) meta in
    subst (λ k. IsOfType k f v) (sym same) (still_of_type m n.objects n.roots class f v h)

module _ (m : Contents) (valid : IsMetamodel m.meta) (model : IsModel m) (o : ObjId) (f : FeatId) (p : ObjId) (has : HasSlot m o f) (r : refers m.meta f ≡ true) (typed : IsOfType m f (Obj p)) where
  there : IsSome (object_at m.objects o)
  there = ap is_some (at_of m o f has).there

  there_too : IsSome (object_at m.objects p)
  there_too = ap is_some (there_by_type m f p typed).1

  abbrev one : Contents
  one = give_up o f m

  first : GivesUp m one o f
  first = gives_up m valid model o f r

  valid_one : IsMetamodel one.meta
  valid_one = subst IsMetamodel (sym first.less.meta) valid

  abbrev two : Contents
  two = give_up_back f p one

  second : GivesBack one two f p
  second = gives_back one valid_one first.less.model f p (ap (λ z. refers z f) first.less.meta ∙ r)

  to_two : IsLess m two
  to_two = less_less m one two first.less second.less

  valid_two : IsMetamodel two.meta
  valid_two = subst IsMetamodel (sym to_two.meta) valid

  abbrev three : Contents
  three = make_way o f p two

  third : MakesWay two three o f p
  third = makes_way two valid_two to_two.model o f p (to_two.exists o ∙ there) (to_two.exists p ∙ there_too)

  less : IsLess m three
  less = less_less m two three to_two third.less

  valid_three : IsMetamodel three.meta
  valid_three = subst IsMetamodel (sym less.meta) valid

  refers_three : refers three.meta f ≡ true
  refers_three = ap (λ z. refers z f) less.meta ∙ r

  has_three : HasSlot three o f
  has_three = less.has o f ∙ has

  typed_three : IsOfType three f (Obj p)
  typed_three = kept_type m three less.meta less.class f (Obj p) typed

  opposite_three : (g : FeatId) → opposite three.meta f ≡ Some g → opposite m.meta f ≡ Some g
  opposite_three g e = sym (ap (λ z. opposite z f) less.meta) ∙ e

  room : HasRoom three o f
  room = on (is_many m.meta f) refl
    where
      on : (b : Bool) → is_many m.meta f ≡ b → HasRoom three o f
      on true e = inl (ap (λ z. is_many z f) less.meta ∙ e)
      on false e = inr (empty_slot three less.model o f refers_three (λ q h. first.none e q (second.less.fewer o f q (third.less.fewer o f q h))))

  room_back : (g : FeatId) → opposite three.meta f ≡ Some g → HasRoom three p g
  room_back g e = on (is_many m.meta g) refl
    where
      on : (b : Bool) → is_many m.meta g ≡ b → HasRoom three p g
      on true i = inl (ap (λ z. is_many z g) less.meta ∙ i)
      on false i = inr (empty_slot three less.model p g (opposite_refers three.meta valid_three f g e) (λ q h.
          second.none g (ap (λ z. opposite z f) first.less.meta ∙ opposite_three g e) (ap (λ z. is_many z g) first.less.meta ∙ i) q (third.less.fewer p g q h)))

  two_contains : (h : FeatId) → contains three.meta h ≡ true → contains two.meta h ≡ true
  two_contains h c = sym (ap (λ z. contains z h) third.less.meta) ∙ c

  pub may : holds p (slot m o f) ≡ false → MayLink three o f p
  may n = record {
    has = has_three;
    reference = refers_three;
    typed = typed_three;
    apart = on (holds p (slot three o f)) refl;
    room = room;
    back = λ g e. let x = other_end three valid_three less.model o f p has_three typed_three g e in (x.0, x.1, room_back g e);
    content = λ c. third.content (two_contains f c);
    container = λ g e c. third.container (not_both g e c (contains two.meta f) refl) (ap (λ x. option_map_or (contains two.meta) x false) (two_opposite g e) ∙ two_contains g c);
  }
    where
      two_opposite : (g : FeatId) → opposite three.meta f ≡ Some g → opposite two.meta f ≡ Some g
      two_opposite g e = sym (ap (λ z. opposite z f) third.less.meta) ∙ e

      not_both : (g : FeatId) → opposite three.meta f ≡ Some g → contains three.meta g ≡ true → (b : Bool) → contains two.meta f ≡ b → contains two.meta f ≡ false
      not_both g e c true i = absurd (one_contains two.meta valid_two f g (two_opposite g e) i (two_contains g c))
      not_both g e c false i = i

      on : (b : Bool) → holds p (slot three o f) ≡ b → holds p (slot three o f) ≡ false
      on true e = absurd (true≢false (sym (holding p (slot m o f) (less.fewer o f p (held p (slot three o f) e))) ∙ n))
      on false e = e

  pub added : IsSame m (add o f p m)
  unfolding add
  added = on (holds p (slot m o f)) refl
    where
      on : (b : Bool) → holds p (slot m o f) ≡ b → IsSame m (if b then m else link o f p three)
      on true e = record { model = model; meta = refl; class = λ q. refl; has = λ q g. refl }
      on false e = let l = may e in record {
        model = link_is_model three valid_three less.model o f p l;
        meta = link_meta three valid_three less.model o f p l ∙ less.meta;
        class = λ q. link_class three valid_three less.model o f p l q ∙ less.class q;
        has = λ q g. link_has three valid_three less.model o f p l q g ∙ less.has q g;
      }

-- ## All values

pub added_value : (v : Cellv) (m : Contents) → IsMetamodel m.meta → IsModel m → (o : ObjId) (f : FeatId) → HasSlot m o f → refers m.meta f ≡ true → IsOfType m f v → IsSame m (add_value o f v m)
added_value v m valid model o f has r typed =
    let x = object_of_type m f v r typed in
    subst (λ w. IsSame m (add_value o f w m)) x.1 (added m valid model o f x.0 has r (subst (IsOfType m f) (sym x.1) typed))

all_added : (values : List Cellv) (m : Contents) → IsMetamodel m.meta → IsModel m → (o : ObjId) (f : FeatId) → HasSlot m o f → refers m.meta f ≡ true → All (IsOfType m f) values → IsModel (add_all o f values m)
all_added [] m valid model o f has r typed = model
all_added (v ∷ values) m valid model o f has r typed =
    let x = object_of_type m f v r (typed 0 v (omega arith)) in
    subst (λ w. IsModel (add_all o f values (add_value o f w m))) x.1
    (let a = added m valid model o f x.0 has r (subst (IsOfType m f) (sym x.1) (typed 0 v (omega arith))) in
    all_added values (add o f x.0 m) (subst IsMetamodel (sym a.meta) valid) a.model o f (a.has o f ∙ has) (ap (λ z. refers z f) a.meta ∙ r)
    (λ k d l. kept_type m (add o f x.0 m) a.meta a.class f _ (typed (suc k) d (omega (arith, l)))))

rewired_is_model : (values : List Cellv) (m : Contents) → IsMetamodel m.meta → IsModel m → (o : ObjId) (f : FeatId) → HasSlot m o f → refers m.meta f ≡ true → All (IsOfType m f) values → IsModel (rewired o f values m)
rewired_is_model [] m valid model o f has r typed = (gives_up m valid model o f r).less.model
rewired_is_model (v ∷ values) m valid model o f has r typed = all_added (v ∷ values) m valid model o f has r typed

-- ## The whole

pub write_is_model : (m : Contents) → IsMetamodel m.meta → IsModel m → (o : ObjId) (f : FeatId) (values : List Cellv) → HasSlot m o f → Fits m f values → IsModel (write m o f values)
write_is_model m valid model o f values has fit = on (refers m.meta f) refl
  where
    on : (b : Bool) → refers m.meta f ≡ b → IsModel (write m o f values)
    on true e = subst IsModel (sym (ap (λ b. if b then rewired o f values m else set_slot m o f (written m.meta f (slot m o f) values)) e)) (rewired_is_model values m valid model o f has e fit.typed)
    on false e = attribute_write_is_model m valid model o f values has fit e
