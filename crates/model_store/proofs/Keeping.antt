-- A write leaves the objects and their classes alone: step by step, since each step changes one slot or the roots.
use Rattle.std.proofs.Common.{◌≡◌, ◌≢◌, ℕ, ◌<◌, Bool, true, false, List, [], ◌∷◌, ◌++◌, length, refl, sym, ap, ◌∙◌, ⊎_elim, Option, Some, None}
use Rattle.std.specs.Prelude.{slice_index_or, slice_set, option_map, if◌then◌else◌}
use Rattle.std.specs.Option.{option_map_or}
use Rattle.std.proofs.lemmas.Bool.{cases_eq}
use Rattle.std.proofs.lemmas.List.{get_or-set_same, get_or-set_other, length-set}
use Rattle.atl_base.specs.declared.numbers.ClassId.{ClassId}
use Rattle.atl_base.specs.declared.numbers.FeatId.{FeatId}
use Rattle.atl_base.specs.declared.numbers.ObjId.{ObjId}
use Rattle.model_store.specs.declared.parts.Cellv.{Cellv}
use Rattle.model_store.specs.declared.parts.Cellv.TheVariants.{Words, Int, Truth, Literal, Obj}
use Rattle.model_store.specs.declared.parts.Object.{Object}
use Rattle.model_store.specs.Contents.{Contents, object_at, place_in, slot, with_slot, set_slot, refers, contains, is_many, is_contained_by, opposite, holds, without, first_object, holder}
use Rattle.model_store.specs.Writes.{freed, taken_in, cut, cut_back, join, join_back, free_ends, take_ends_in, unlink, link, give_up, give_up_back, leave, make_way, add, add_value, add_all, rewired, written}
use Rattle.model_store.specs.Laws.{KeepsObjects, IsWriteLaw}
use Rattle.model_store.proofs.Updates.{found_within}

pub same : (m : Contents) → KeepsObjects m m
same m = record { meta = refl; numbers = refl; classes = λ o. refl }

pub after : (a b c : Contents) → KeepsObjects a b → KeepsObjects b c → KeepsObjects a c
after a b c k l = record { meta = l.meta ∙ k.meta; numbers = l.numbers ∙ k.numbers; classes = λ o. l.classes o ∙ k.classes o }

either : (m x y : Contents) (b : Bool) → KeepsObjects m x → KeepsObjects m y → KeepsObjects m (if b then x else y)
either m x y true k l = k
either m x y false k l = l

where_some : {X : Type 0} (m d : Contents) (g : X → Contents) (x : Option X) → ((y : X) → KeepsObjects m (g y)) → KeepsObjects m d → KeepsObjects m (option_map_or g x d)
where_some m d g None k l = l
where_some m d g (Some y) k l = k y

class_at : Option Object → Option ClassId
class_at = option_map (λ object. object.class)

module _ (m : Contents) (o : ObjId) (f : FeatId) (cells : List Cellv) where
  changed : Object → ℕ → Contents
  changed object k = record m { objects = slice_set m.objects o.0 (Some (with_slot object k cells)) }

  changed_keeps : (object : Object) (k : ℕ) → object_at m.objects o ≡ Some object → KeepsObjects m (changed object k)
  unfolding changed class_at
  changed_keeps object k e =
      let h : o.0 < length m.objects = found_within m.objects o.0 object e in
      record {
        meta = refl;
        numbers = length-set m.objects o.0 (Some (with_slot object k cells));
        classes = λ p. ⊎_elim
            (λ (here : p.0 ≡ o.0).
            ap (λ i. class_at (slice_index_or (slice_set m.objects o.0 (Some (with_slot object k cells))) i None)) here
            ∙ ap class_at (get_or-set_same m.objects o.0 (Some (with_slot object k cells)) None h)
            ∙ sym (ap (λ i. class_at (slice_index_or m.objects i None)) here ∙ ap class_at e))
            (λ (other : p.0 ≢ o.0). ap class_at (get_or-set_other m.objects o.0 p.0 (Some (with_slot object k cells)) None other))
            (cases_eq p.0 o.0);
      }

  at_object : (x : Option Object) → object_at m.objects o ≡ x → KeepsObjects m (option_map_or (λ object. option_map_or (changed object) (place_in m.meta object.class f) m) x m)
  at_object None e = same m
  at_object (Some object) e = where_some m m (changed object) (place_in m.meta object.class f) (λ k. changed_keeps object k e) (same m)

  set_slot_keeps : KeepsObjects m (set_slot m o f cells)
  unfolding changed
  set_slot_keeps = at_object (object_at m.objects o) refl

freed_keeps : (o : ObjId) (m : Contents) → KeepsObjects m (freed o m)
freed_keeps o m = record { meta = refl; numbers = refl; classes = λ p. refl }

taken_in_keeps : (o : ObjId) (m : Contents) → KeepsObjects m (taken_in o m)
taken_in_keeps o m = record { meta = refl; numbers = refl; classes = λ p. refl }

module _ (o : ObjId) (f : FeatId) (q : ObjId) (m : Contents) where
  pub cut_keeps : KeepsObjects m (cut o f q m)
  unfolding cut
  cut_keeps = set_slot_keeps m o f (without q (slot m o f))

  pub join_keeps : KeepsObjects m (join o f q m)
  unfolding join
  join_keeps = either m m (set_slot m o f (slot m o f ++ Obj q ∷ [])) (holds q (slot m o f)) (same m) (set_slot_keeps m o f (slot m o f ++ Obj q ∷ []))

pub cut_back_keeps : (o : ObjId) (f : FeatId) (q : ObjId) (m : Contents) → KeepsObjects m (cut_back o f q m)
unfolding cut_back
cut_back_keeps o f q m = where_some m m (λ g. cut q g o m) (opposite m.meta f) (λ g. cut_keeps q g o m) (same m)

pub join_back_keeps : (o : ObjId) (f : FeatId) (q : ObjId) (m : Contents) → KeepsObjects m (join_back o f q m)
unfolding join_back
join_back_keeps o f q m = where_some m m (λ g. join q g o m) (opposite m.meta f) (λ g. join_keeps q g o m) (same m)

pub free_ends_keeps : (o : ObjId) (f : FeatId) (q : ObjId) (m : Contents) → KeepsObjects m (free_ends o f q m)
unfolding free_ends
free_ends_keeps o f q m = either m (freed q m) (if is_contained_by m.meta f then freed o m else m) (contains m.meta f) (freed_keeps q m)
    (either m (freed o m) m (is_contained_by m.meta f) (freed_keeps o m) (same m))

take_ends_in_keeps : (o : ObjId) (f : FeatId) (q : ObjId) (m : Contents) → KeepsObjects m (take_ends_in o f q m)
unfolding take_ends_in
take_ends_in_keeps o f q m = either m (taken_in q m) (if is_contained_by m.meta f then taken_in o m else m) (contains m.meta f) (taken_in_keeps q m)
    (either m (taken_in o m) m (is_contained_by m.meta f) (taken_in_keeps o m) (same m))

pub unlink_keeps : (o : ObjId) (f : FeatId) (q : ObjId) (m : Contents) → KeepsObjects m (unlink o f q m)
unfolding unlink
unlink_keeps o f q m =
    let one : Contents = cut o f q m in
    let two : Contents = cut_back o f q one in
    after m two (free_ends o f q two) (after m one two (cut_keeps o f q m) (cut_back_keeps o f q one)) (free_ends_keeps o f q two)

pub link_keeps : (o : ObjId) (f : FeatId) (q : ObjId) (m : Contents) → KeepsObjects m (link o f q m)
unfolding link
link_keeps o f q m =
    let one : Contents = join o f q m in
    let two : Contents = join_back o f q one in
    after m two (take_ends_in o f q two) (after m one two (join_keeps o f q m) (join_back_keeps o f q one)) (take_ends_in_keeps o f q two)

pub give_up_keeps : (o : ObjId) (f : FeatId) (m : Contents) → KeepsObjects m (give_up o f m)
unfolding give_up
give_up_keeps o f m = either m m (option_map_or (λ q. unlink o f q m) (first_object (slot m o f)) m) (is_many m.meta f) (same m)
    (where_some m m (λ q. unlink o f q m) (first_object (slot m o f)) (λ q. unlink_keeps o f q m) (same m))

pub give_up_back_keeps : (f : FeatId) (p : ObjId) (m : Contents) → KeepsObjects m (give_up_back f p m)
unfolding give_up_back
give_up_back_keeps f p m = where_some m m (λ g. if is_many m.meta g then m else option_map_or (λ r. unlink r f p m) (first_object (slot m p g)) m) (opposite m.meta f)
    (λ g. either m m (option_map_or (λ r. unlink r f p m) (first_object (slot m p g)) m) (is_many m.meta g) (same m)
    (where_some m m (λ r. unlink r f p m) (first_object (slot m p g)) (λ r. unlink_keeps r f p m) (same m)))
    (same m)

pub leave_keeps : (p : ObjId) (m : Contents) → KeepsObjects m (leave p m)
unfolding leave
leave_keeps p m = where_some m m (λ at. unlink at.0 at.1 p m) (holder m p) (λ at. unlink_keeps at.0 at.1 p m) (same m)

pub make_way_keeps : (o : ObjId) (f : FeatId) (p : ObjId) (m : Contents) → KeepsObjects m (make_way o f p m)
unfolding make_way
make_way_keeps o f p m = either m (leave p m) (if is_contained_by m.meta f then leave o m else m) (contains m.meta f) (leave_keeps p m)
    (either m (leave o m) m (is_contained_by m.meta f) (leave_keeps o m) (same m))

add_keeps : (o : ObjId) (f : FeatId) (p : ObjId) (m : Contents) → KeepsObjects m (add o f p m)
unfolding add
add_keeps o f p m =
    let one : Contents = give_up o f m in
    let two : Contents = give_up_back f p one in
    let three : Contents = make_way o f p two in
    either m m (link o f p three) (holds p (slot m o f)) (same m)
    (after m three (link o f p three) (after m two three (after m one two (give_up_keeps o f m) (give_up_back_keeps f p one)) (make_way_keeps o f p two)) (link_keeps o f p three))

add_value_keeps : (o : ObjId) (f : FeatId) (value : Cellv) (m : Contents) → KeepsObjects m (add_value o f value m)
add_value_keeps o f (Obj p) m = add_keeps o f p m
add_value_keeps o f (Words t) m = same m
add_value_keeps o f (Int n) m = same m
add_value_keeps o f (Truth b) m = same m
add_value_keeps o f (Literal l) m = same m

add_all_keeps : (o : ObjId) (f : FeatId) (values : List Cellv) (m : Contents) → KeepsObjects m (add_all o f values m)
add_all_keeps o f [] m = same m
add_all_keeps o f (value ∷ values) m =
    after m (add_value o f value m) (add_all o f values (add_value o f value m)) (add_value_keeps o f value m) (add_all_keeps o f values (add_value o f value m))

rewired_keeps : (o : ObjId) (f : FeatId) (values : List Cellv) (m : Contents) → KeepsObjects m (rewired o f values m)
rewired_keeps o f [] m = give_up_keeps o f m
rewired_keeps o f (value ∷ values) m = add_all_keeps o f (value ∷ values) m

pub write_keeps : IsWriteLaw
write_keeps m o f values = either m (rewired o f values m) (set_slot m o f (written m.meta f (slot m o f) values)) (refers m.meta f)
    (rewired_keeps o f values m) (set_slot_keeps m o f (written m.meta f (slot m o f) values))
