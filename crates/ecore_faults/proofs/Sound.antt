-- What holds at each element of a file in which nothing is wrong.
use Rattle.std.proofs.Common.{◌≡◌, List, [], ◌∷◌, ◌++◌, refl, sym, ap, ◌∙◌, subst, append_assoc}
use Rattle.std.specs.Prelude.{ℕ, Bool, true, false, ◌&&◌, bytes_eq, Option, Some, None}
use Rattle.std.specs.Option.{option_map_or}
use Rattle.std.proofs.lemmas.List.{append-nil}
use Rattle.std.proofs.lemmas.Option.{none-some}
use Rattle.atl_base.specs.declared.place.Place.{Place}
use Rattle.ecore_outline.specs.Outline.{Entry, is_class_role, count, name_of}
use Rattle.xmi_text.specs.Inheriting.{is_own_super}
use Rattle.ecore_rows.specs.Rows.{typed, super_numbers}
use Rattle.ecore_faults.specs.Faults.{Kind, Fault, when, or_else, is_not_ecore, is_named_role, twice_fault, type_fault, opposite_fault, number_fault, fault_at, fault_from, first_fault, NotEcore, NoName, SuperCycle}

pub some-none : {A : Type 0} {x : A} → Some x ≡ None → ⊥
some-none {x = x} h = none-some x (sym h)

pub not_when : (b : Bool) (kind : Kind) (value : List ℕ) → when b kind value ≡ None → b ≡ false
not_when true kind value h = absurd (some-none h)
not_when false kind value h = refl

pub else_parts : (f g : Option Fault) → or_else f g ≡ None → (f ≡ None) × (g ≡ None)
else_parts (Some f) g h = absurd (some-none h)
else_parts None g h = (refl, h)

pub record Fine (file before : List Entry) (e : Entry) (behind : List Entry) : Type 0 where
  pub ecore : is_not_ecore e behind ≡ false
  pub named : (is_named_role e.role && bytes_eq (name_of e) []) ≡ false
  pub twice : twice_fault file before e ≡ None
  pub types : type_fault file before e behind ≡ None
  pub cycle : (is_class_role e.role && is_own_super (super_numbers file) (count is_class_role before)) ≡ false
  pub opposite : opposite_fault file before e ≡ None
  pub number : number_fault file e.role (typed file e behind) e.site.element ≡ None

fine_at : (file before : List Entry) (e : Entry) (behind : List Entry) → fault_at file before e behind ≡ None → Fine file before e behind
fine_at file before e behind h =
    let a = else_parts _ _ h in
    let b = else_parts _ _ a.1 in
    let c = else_parts _ _ b.1 in
    let d = else_parts _ _ c.1 in
    let f = else_parts _ _ d.1 in
    let g = else_parts _ _ f.1 in
    let i = else_parts _ _ g.1 in
    let j = else_parts _ _ i.1 in
    let k = else_parts _ _ j.1 in
    record {
      ecore = not_when (is_not_ecore e behind) NotEcore e.site.element.name a.0;
      named = not_when (is_named_role e.role && bytes_eq (name_of e) []) NoName e.site.element.name d.0;
      twice = f.0;
      types = g.0;
      cycle = not_when (is_class_role e.role && is_own_super (super_numbers file) (count is_class_role before)) SuperCycle (name_of e) i.0;
      opposite = j.0;
      number = k.0;
    }

here_and_later : (f : Option Fault) (p : Place) (later : Option (Fault × Place)) → option_map_or (λ f. Some (f, p)) f later ≡ None → (f ≡ None) × (later ≡ None)
here_and_later (Some f) p later h = absurd (some-none h)
here_and_later None p later h = (refl, h)

fine_from : (file before middle : List Entry) (e : Entry) (behind : List Entry) → fault_from file before (middle ++ (e ∷ behind)) ≡ None → fault_at file (before ++ middle) e behind ≡ None
fine_from file before [] e behind h =
    subst (λ b. fault_at file b e behind ≡ None) (sym (append-nil before))
    (here_and_later (fault_at file before e behind) e.site.element.place (fault_from file (before ++ (e ∷ [])) behind) h).0
fine_from file before (d ∷ middle) e behind h =
    subst (λ b. fault_at file b e behind ≡ None) (append_assoc before (d ∷ []) middle)
    (fine_from file (before ++ (d ∷ [])) middle e behind
    (here_and_later (fault_at file before d (middle ++ (e ∷ behind))) d.site.element.place (fault_from file (before ++ (d ∷ [])) (middle ++ (e ∷ behind))) h).1)

pub fine : (file : List Entry) → first_fault file ≡ None → (before : List Entry) (e : Entry) (behind : List Entry) → file ≡ before ++ (e ∷ behind) → Fine file before e behind
fine file h before e behind s = fine_at file before e behind (fine_from file [] before e behind (ap (λ l. fault_from file [] l) (sym s) ∙ h))
