-- What is pending of a stack, after an element has begun on it.
use Rattle.std.proofs.Common.{◌≡◌, ◌≤◌, ℕ, suc, ◌+◌, List, [], ◌∷◌, ◌++◌, length, map, reverse, refl, sym, ap, subst, ◌∙◌, append_assoc, add-one, arith, codes, Option, Some, None}
use Rattle.std.specs.Prelude.{Bool, true, false, if◌then◌else◌}
use Rattle.std.specs.List.{flat_map}
use Rattle.std.proofs.lemmas.Bool.{true≢false}
use Rattle.std.proofs.lemmas.List.{reverse-append, reverse-reverse}
use Rattle.std.proofs.lemmas.Option.{none-some, same_Some}
use Rattle.atl_base.specs.declared.numbers.ObjId.{ObjId}
use Rattle.doc_text.specs.declared.tree.Child.{Child}
use Rattle.doc_text.specs.declared.tree.Child.TheVariants as child
use Rattle.doc_text.specs.declared.tree.Element.{Element}
use Rattle.doc_text.specs.declared.tree.Prefix.{Prefix}
use Rattle.doc_text.specs.Written.{Written, Lines, lines, contents, end_tag, indent, opening, written_child, written_element}
use Rattle.doc_text.proofs.Opened.{joined}
use Rattle.doc_text.proofs.WrittenElements.{child_is}
use Rattle.model_store.specs.Contents.{Contents}
use Rattle.xmi_write.specs.declared.named.Named.{Named}
use Rattle.xmi_write.specs.declared.named.Named.TheVariants.{Inside}
use Rattle.xmi_write.specs.declared.parts.Part.TheVariants as stacked
use Rattle.xmi_write.specs.declared.parts.Todo.{Todo}
use Rattle.xmi_write.specs.declared.parts.Todo.TheVariants as todo
use Rattle.xmi_write.specs.Pending.{begun, ends, is_end, pending, todo_child, todo_lines, todo_part, todo_root}
use Rattle.xmi_write.specs.Xmi.{Part, declared, element, local_name, part_child, root_element, space_of, value_element}

-- ## What stands inside

-- parts, by what they are
module _ (m : Contents) where
  part_is : (t : Todo) (p : Part) → todo_part t ≡ Some p → (is_end t ≡ false) × (todo_child m t ≡ part_child (element m) m p)
  part_is (todo.Inside q) p h = (refl, ap (part_child (element m) m) (same_Some _ p h))
  part_is (todo.Root o) p h = absurd (none-some p h)
  part_is (todo.End named) p h = absurd (none-some p h)

  root_is : (t : Todo) (o : ObjId) → todo_root t ≡ Some o → (is_end t ≡ false) × (todo_child m t ≡ child.Sub (root_element m o))
  root_is (todo.Inside q) o h = absurd (none-some o h)
  root_is (todo.Root p) o h = (refl, ap (λ q. child.Sub (root_element m q)) (same_Some p o h))
  root_is (todo.End named) o h = absurd (none-some o h)

  -- a list without end tags, with these children
  abbrev AreInside : List Todo → List Child → Type 0
  AreInside ts cs = (ends ts ≡ 0) × (map (todo_child m) ts ≡ cs)

  inside_more : (t : Todo) (ts : List Todo) (c : Child) (cs : List Child) → (is_end t ≡ false) × (todo_child m t ≡ c) → AreInside ts cs → AreInside (t ∷ ts) (c ∷ cs)
  inside_more t ts c cs h k =
      let e : ends (t ∷ ts) ≡ ends ts = ap (λ b. if b then suc (ends ts) else ends ts) h.0 in
      let first : todo_child m t ≡ c = h.1 in
      let rest : map (todo_child m) ts ≡ cs = k.1 in
      (e ∙ k.0, cc)

  pub parts_inside : (ts : List Todo) (ps : List Part) → map todo_part ts ≡ map Some ps → AreInside ts (map (part_child (element m) m) ps)
  parts_inside [] [] h = (refl, refl)
  parts_inside [] (p ∷ ps) h = let no : ⊥ = cc in absurd no
  parts_inside (t ∷ ts) [] h = let no : ⊥ = cc in absurd no
  parts_inside (t ∷ ts) (p ∷ ps) h =
      let first : todo_part t ≡ Some p = cc in
      let rest : map todo_part ts ≡ map Some ps = cc in
      inside_more t ts (part_child (element m) m p) (map (part_child (element m) m) ps) (part_is t p first) (parts_inside ts ps rest)

  pub roots_inside : (ts : List Todo) (os : List ObjId) → map todo_root ts ≡ map Some os → AreInside ts (map child.Sub (map (root_element m) os))
  roots_inside [] [] h = (refl, refl)
  roots_inside [] (o ∷ os) h = let no : ⊥ = cc in absurd no
  roots_inside (t ∷ ts) [] h = let no : ⊥ = cc in absurd no
  roots_inside (t ∷ ts) (o ∷ os) h =
      let first : todo_root t ≡ Some o = cc in
      let rest : map todo_root ts ≡ map Some os = cc in
      inside_more t ts (child.Sub (root_element m o)) (map child.Sub (map (root_element m) os)) (root_is t o first) (roots_inside ts os rest)

  -- ## Above an end tag

  abbrev ds : List Prefix
  ds = declared m.meta

  not_end : (t : Todo) (ts : List Todo) → ends (t ∷ ts) ≡ 0 → (is_end t ≡ false) × (ends ts ≡ 0)
  not_end (todo.Inside q) ts h = (refl, h)
  not_end (todo.Root o) ts h = (refl, h)
  not_end (todo.End named) ts h = absurd (omega (arith, h))

  deep : (t : Todo) (depth : ℕ) → is_end t ≡ false → todo_lines m depth t ≡ lines depth (written_child ds (todo_child m t))
  deep (todo.Inside q) depth h = refl
  deep (todo.Root o) depth h = refl
  deep (todo.End named) depth h = absurd (true≢false h)

  ends_above : (ts rest : List Todo) → ends ts ≡ 0 → ends (ts ++ rest) ≡ ends rest
  ends_above [] rest h = refl
  ends_above (t ∷ ts) rest h =
      let x = not_end t ts h in
      ap (λ b. if b then suc (ends (ts ++ rest)) else ends (ts ++ rest)) x.0 ∙ ends_above ts rest x.1

  abbrev inside_lines : ℕ → List Todo → List ℕ
  inside_lines depth ts = flat_map (lines depth) (map (written_child ds) (map (todo_child m) ts))

  pending_above : (ts rest : List Todo) → ends ts ≡ 0 → pending m (ts ++ rest) ≡ inside_lines (ends rest) ts ++ pending m rest
  pending_above [] rest h = refl
  pending_above (t ∷ ts) rest h =
      let x = not_end t ts h in
      let here : List ℕ = lines (ends rest) (written_child ds (todo_child m t)) in
      let first : todo_lines m (ends (ts ++ rest)) t ≡ here = ap (λ n. todo_lines m n t) (ends_above ts rest x.1) ∙ deep t (ends rest) x.0 in
      ap (λ l. l ++ pending m (ts ++ rest)) first
      ∙ ap (λ l. here ++ l) (pending_above ts rest x.1)
      ∙ sym (append_assoc here (inside_lines (ends rest) ts) (pending m rest))

  -- what stands inside is elements
  element_of : (t : Todo) → is_end t ≡ false → (e : Element) × (todo_child m t ≡ child.Sub e)
  element_of (todo.Inside (stacked.Content f o)) h = (element m (Inside f) o, refl)
  element_of (todo.Inside (stacked.Value f v)) h = (value_element m f v.now, refl)
  element_of (todo.Root o) h = (root_element m o, refl)
  element_of (todo.End named) h = absurd (true≢false h)

  filled : (end : List ℕ) (depth : ℕ) (t : Todo) (ts : List Todo) → ends (t ∷ ts) ≡ 0
      → contents end depth (map (written_child ds) (map (todo_child m) (t ∷ ts))) ≡ codes ">\n" ++ (inside_lines (suc depth) (t ∷ ts) ++ (indent depth ++ end))
  filled end depth t ts h =
      let x = not_end t ts h in
      let e = element_of t x.0 in
      let w : written_child ds (todo_child m t) ≡ Lines (written_element ds e.0) = ap (written_child ds) e.1 ∙ child_is ds e.0 in
      let cs : List Written = map (written_child ds) (map (todo_child m) ts) in
      subst (λ c. contents end depth (c ∷ cs) ≡ codes ">\n" ++ (flat_map (lines (suc depth)) (c ∷ cs) ++ (indent depth ++ end))) (sym w) refl

  -- ## An element begins

  abbrev end_of : Named → List ℕ
  end_of named = end_tag ds (space_of m.meta named) (local_name m.meta named)

  abbrev opened : Element → ℕ → List ℕ
  opened head depth = opening ds head.space head.name head.declared head.attributes depth

  module _ (named : Named) (head : Element) (depth : ℕ) (old : List Todo) (out mid last : List ℕ) where
    pub begun_empty : mid ≡ out ++ opened head depth → last ≡ mid ++ codes "/>\n" → last ++ pending m (reverse old) ≡ out ++ (begun m named head [] depth ++ pending m (reverse old))
    begun_empty a b = joined out mid last (opened head depth) (codes "/>\n") (begun m named head [] depth) (pending m (reverse old)) a b refl

    turned : (t : Todo) (ts new : List Todo) → new ≡ (old ++ todo.End named ∷ []) ++ reverse (t ∷ ts) → reverse new ≡ (t ∷ ts) ++ (todo.End named ∷ reverse old)
    turned t ts new e =
        ap reverse e
        ∙ reverse-append (old ++ todo.End named ∷ []) (reverse (t ∷ ts))
        ∙ ap (λ l. l ++ reverse (old ++ todo.End named ∷ [])) (reverse-reverse (t ∷ ts))
        ∙ ap (λ l. (t ∷ ts) ++ l) (reverse-append old (todo.End named ∷ []))

    pub begun_depth : (t : Todo) (ts new : List Todo) → new ≡ (old ++ todo.End named ∷ []) ++ reverse (t ∷ ts) → ends (t ∷ ts) ≡ 0 → ends (reverse old) ≡ depth → ends (reverse new) ≡ suc depth
    begun_depth t ts new e h d = ap ends (turned t ts new e) ∙ ends_above (t ∷ ts) (todo.End named ∷ reverse old) h ∙ ap suc d

    pub begun_open : (t : Todo) (ts new : List Todo) → new ≡ (old ++ todo.End named ∷ []) ++ reverse (t ∷ ts) → ends (t ∷ ts) ≡ 0 → ends (reverse old) ≡ depth
        → mid ≡ out ++ opened head depth → last ≡ mid ++ codes ">\n"
        → last ++ pending m (reverse new) ≡ out ++ (begun m named head (t ∷ ts) depth ++ pending m (reverse old))
    begun_open t ts new e h d a b =
        let rest : List ℕ = pending m (reverse old) in
        let within : List ℕ = inside_lines (suc depth) (t ∷ ts) in
        let tail : List ℕ = within ++ (indent depth ++ end_of named) in
        let p : pending m (reverse new) ≡ tail ++ rest =
        ap (pending m) (turned t ts new e)
        ∙ pending_above (t ∷ ts) (todo.End named ∷ reverse old) h
        ∙ ap (λ n. inside_lines (suc n) (t ∷ ts) ++ ((indent n ++ end_of named) ++ rest)) d
        ∙ sym (append_assoc within (indent depth ++ end_of named) rest) in
        let whole : begun m named head (t ∷ ts) depth ≡ opened head depth ++ (codes ">\n" ++ tail) = ap (λ l. opened head depth ++ l) (filled (end_of named) depth t ts h) in
        ap (λ l. last ++ l) p
        ∙ sym (append_assoc last tail rest)
        ∙ joined out mid (last ++ tail) (opened head depth) (codes ">\n" ++ tail) (begun m named head (t ∷ ts) depth) rest a
        (ap (λ l. l ++ tail) b ∙ append_assoc mid (codes ">\n") tail) whole

    pub begun_some : (ts new : List Todo) → (length ts ≡ 0 → ⊥) → new ≡ (old ++ todo.End named ∷ []) ++ reverse ts → ends ts ≡ 0 → ends (reverse old) ≡ depth
        → mid ≡ out ++ opened head depth → last ≡ mid ++ codes ">\n"
        → last ++ pending m (reverse new) ≡ out ++ (begun m named head ts depth ++ pending m (reverse old))
    begun_some [] new some e h d a b = absurd (some refl)
    begun_some (t ∷ ts) new some e h d a b = begun_open t ts new e h d a b

    pub depth_some : (ts new : List Todo) → (length ts ≡ 0 → ⊥) → new ≡ (old ++ todo.End named ∷ []) ++ reverse ts → ends ts ≡ 0 → ends (reverse old) ≡ depth → ends (reverse new) ≡ depth + 1
    depth_some [] new some e h d = absurd (some refl)
    depth_some (t ∷ ts) new some e h d = begun_depth t ts new e h d ∙ sym (add-one depth)

-- no more elements are open than there are things on the stack
pub ends_le : (ts : List Todo) → ends ts ≤ length ts
ends_le [] = omega arith
ends_le (t ∷ ts) = on (is_end t) (ends_le ts)
  where
    on : (b : Bool) → ends ts ≤ length ts → (if b then suc (ends ts) else ends ts) ≤ suc (length ts)
    on true h = omega (arith, h)
    on false h = omega (arith, h)
