-- Written elements are read again, with what stands in them.
use Rattle.std.proofs.Common.{◌≡◌, ◌≢◌, ℕ, zero, suc, ◌+◌, ◌*◌, ◌≤◌, inl, inr, List, [], ◌∷◌, ◌++◌, length, refl, sym, ap, ◌∙◌, subst, append_assoc, arith}
use Rattle.std.specs.Prelude.{Bool, true, false, ◌&&◌, if◌then◌else◌, codes, map, filter, not, All, flat_map, bytes_eq, replicate}
use Rattle.std.specs.Option.{option_map_or}
use Rattle.std.specs.List.{list_all}
use Rattle.std.proofs.lemmas.Bool.{and_from, lt-ltb}
use Rattle.std.proofs.lemmas.List.{append-nil, map-append}
use Rattle.atl_base.specs.declared.place.Place.{Place}
use Rattle.atl_base.specs.XmlText.{IsXmlText}
use Rattle.doc_text.specs.Characters.{place}
use Rattle.doc_text.specs.Symbols.{Less, Greater, Letter, utf8}
use Rattle.doc_text.specs.Raw.{Name, called, Pair, Start, start, Tree, Trees, Nil, Also, Node, Words, same_name}
use Rattle.doc_text.specs.Faults.{MismatchedEnd, TooDeep}
use Rattle.doc_text.specs.Namespaces.{element, children, has_element, is_blank_text, tag_fault, attributes_of, declared_of}
use Rattle.doc_text.specs.State.{Around, Within, Open, opened, tags, OfStart, OfEnd, State, Inside, Epilog, Begun, Ending, Naming, Shutting, Goes, Breaks}
use Rattle.doc_text.specs.Steps.{step, ended, weighed, element_begins}
use Rattle.doc_text.specs.Names.{written_name}
use Rattle.doc_text.specs.Written.{written_attributes, written_element, written_child, is_version, indent, contents, end_tag, lines, lone_text}
use Rattle.doc_text.specs.Escapes.{escaped}
use Rattle.doc_text.specs.ReadBack.{IsPlainName, IsAttribute, IsTag, AreChildren, IsBelow, child_layer, unplaced_layer, unplaced, unplaced_child}
use Rattle.doc_text.specs.declared.escape.Escapes.TheVariants as escape
use Rattle.doc_text.specs.declared.tree.Attribute.{Attribute}
use Rattle.doc_text.specs.declared.tree.Prefix.{Prefix}
use Rattle.doc_text.specs.declared.tree.Element.{Element, fold_out-Element}
use Rattle.doc_text.specs.declared.tree.Child.{Child, map-Child, fold_out-Child}
use Rattle.doc_text.specs.declared.tree.Child.TheVariants as child
use Rattle.doc_text.proofs.Leading.{Reads, nothing, reads_on, reads_to, plainly}
use Rattle.doc_text.proofs.NamesAgain.{name_reads, prefix_in}
use Rattle.doc_text.proofs.TextsAgain.{IsInside, behind, text_reads, IsBlankBehind, is_space, blanks_read, line_reads}
use Rattle.doc_text.proofs.TagsAgain.{IsAtTag, IsPairOfDeclaration, Match, named_tag, AreRead, tag_reads}
use Rattle.doc_text.proofs.ScopesAgain.{IsScope, IsReadTag, read_tag, same_bytes, Pairwise, Each, each_from, each_to, each_left, each_right, each_more, v_nothing, o_nothing, below_scope}
use Rattle.doc_text.proofs.WrittenElements.{element_is, child_is, words_are}

-- ## What is the same but for places

pub unplaced_is : (e : Element) → unplaced e ≡ record { space = e.space; name = e.name; declared = e.declared; attributes = e.attributes; children = map unplaced_child e.children; place = place 1 1 }
unfolding unplaced unplaced_child
unplaced_is e = fold_out-Element Child Element child_layer unplaced_layer e

pub unplaced_sub : (e : Element) → unplaced_child (child.Sub e) ≡ child.Sub (unplaced e)
unfolding unplaced unplaced_child
unplaced_sub e = fold_out-Child Child Element child_layer unplaced_layer (child.Sub e)
    ∙ ap (λ l. child_layer (map-Child Child Element Child Element unplaced_child unplaced l)) (child.outs-Sub e)

abbrev made : List ℕ → List ℕ → List Prefix → List Attribute → List Child → Element
made s n d a cs = record { space = s; name = n; declared = d; attributes = a; children = cs; place = place 1 1 }

-- a tag that is read again, with what is read of its children
same_element : (outer : List Start) (e : Element) (t : Start) (cs : List Child) → IsReadTag outer e t → map unplaced_child cs ≡ map unplaced_child e.children → unplaced (element outer t cs) ≡ unplaced e
same_element outer e t cs r h =
    unplaced_is (element outer t cs)
    ∙ ap (λ s. made s t.name.local (declared_of t.pairs) (attributes_of (t ∷ outer) t.pairs) (map unplaced_child cs)) r.space
    ∙ ap (λ n. made e.space n (declared_of t.pairs) (attributes_of (t ∷ outer) t.pairs) (map unplaced_child cs)) r.local
    ∙ ap (λ d. made e.space e.name d (attributes_of (t ∷ outer) t.pairs) (map unplaced_child cs)) r.declared
    ∙ ap (λ a. made e.space e.name e.declared a (map unplaced_child cs)) r.attributes
    ∙ ap (made e.space e.name e.declared e.attributes) h
    ∙ sym (unplaced_is e)

-- an element's lines behind its indent
abbrev pub written_tail : List Prefix → Element → ℕ → List ℕ
written_tail ds e depth = (codes "<" ++ (written_name ds e.space e.name ++ written_attributes ds e.declared e.attributes)) ++ contents (end_tag ds e.space e.name) depth (map (written_child ds) e.children)

pub tail_is : (ds : List Prefix) (e : Element) (depth : ℕ) → written_element ds e depth ≡ indent depth ++ written_tail ds e depth
tail_is ds e depth = element_is ds e depth ∙ append_assoc (indent depth) (codes "<" ++ (written_name ds e.space e.name ++ written_attributes ds e.declared e.attributes)) (contents (end_tag ds e.space e.name) depth (map (written_child ds) e.children))

-- ## Where an element ends

-- behind the line of an element
abbrev pub IsPastLine : List Open → Tree → State → Type 0
IsPastLine [] tree u = u ≡ Epilog tree
IsPastLine (f ∷ fs) tree u = IsBlankBehind fs f.tag (Also f.children tree) u

line_ends : (fs : List Open) (t : Start) (us : Trees) → Reads (ended fs (Node t us)) (codes "\n") (IsPastLine fs (Node t us))
line_ends [] t us = plainly (Epilog (Node t us)) (codes "\n") _ refl (λ p. (_, refl, refl))
line_ends (f ∷ fs) t us = line_reads fs 0 f.tag (Also f.children (Node t us)) (λ b. refl)

-- an element of these open ones has been read, and its line
abbrev pub IsRead : List Open → Element → State → Type 0
IsRead fs e u = (t : Start) × (us : Trees) × (unplaced (element (tags fs) t (children (t ∷ tags fs) (has_element us) us)) ≡ unplaced e) × IsPastLine fs (Node t us) u

module _ (ds : List Prefix) (plain : All (λ d. IsPlainName d.prefix) ds) where
  -- an end tag
  end_reads : (fs : List Open) (f : Open) (e : Element) (q : Place) (u : State) → IsTag ds e → f.tag.name ≡ called q (prefix_in ds e.space) e.name → IsInside fs f u → Reads u (end_tag ds e.space e.name) (IsPastLine fs (Node f.tag f.children))
  end_reads fs f e q u tag is h =
      subst (λ s. Reads s (end_tag ds e.space e.name) (IsPastLine fs (Node f.tag f.children))) (sym h.1)
      (reads_on (Inside h.0 f fs) (codes "</") (written_name ds e.space e.name ++ codes ">\n") (λ w. w ≡ Ending f fs) _
      (plainly (Inside h.0 f fs) (codes "</") _ refl (λ p. (Begun (Within f fs) p, refl, λ r. (Ending f fs, refl, refl))))
      (λ w g. subst (λ s. Reads s (written_name ds e.space e.name ++ codes ">\n") (IsPastLine fs (Node f.tag f.children))) (sym g)
      (reads_on (Ending f fs) (written_name ds e.space e.name) (codes ">\n") _ _ (name_reads ds plain (Ending f fs) (OfEnd f fs) (λ c p. refl) e.space e.name tag.space tag.name) (λ s k.
      reads_on s (codes ">") (codes "\n") (λ z. z ≡ ended fs (Node f.tag f.children)) _
      (plainly s (codes ">") _ refl (λ p. (ended fs (Node f.tag f.children), k.1 Greater p refl ∙ matches (called k.0 (prefix_in ds e.space) e.name) refl refl, refl)))
      (λ z x. subst (λ y. Reads y (codes "\n") (IsPastLine fs (Node f.tag f.children))) (sym x) (line_ends fs f.tag f.children))))))
    where
      matches : (n : Name) → n.prefix ≡ prefix_in ds e.space → n.local ≡ e.name → (if same_name n f.tag.name then Goes (ended fs (Node f.tag f.children)) else Breaks MismatchedEnd n.at) ≡ Goes (ended fs (Node f.tag f.children))
      matches n a b = ap (λ c. if c then Goes (ended fs (Node f.tag f.children)) else Breaks MismatchedEnd n.at)
          (ap (same_name n) is ∙ and_from _ _ (ap (λ m. bytes_eq m (prefix_in ds e.space)) a ∙ same_bytes (prefix_in ds e.space)) (ap (λ m. bytes_eq m e.name) b ∙ same_bytes e.name))

  -- ## Contents

  module _ (fs : List Open) (e : Element) (tag : IsTag ds e) (p q : Place) (ps : List Pair) (r : IsReadTag (tags fs) e (start p (called q (prefix_in ds e.space) e.name) ps)) where
    abbrev t : Start
    t = start p (called q (prefix_in ds e.space) e.name) ps

    abbrev closing : List ℕ
    closing = end_tag ds e.space e.name

    judged_well : weighed true (tag_fault (tags fs) t) (Goes (Inside 0 (opened t Nil) fs)) ≡ Goes (Inside 0 (opened t Nil) fs)
    judged_well = ap (λ f. weighed true f (Goes (Inside 0 (opened t Nil) fs))) r.sound

    -- an element without children
    empty_reads : (u : State) → e.children ≡ [] → IsAtTag fs t u → Reads u (codes "/>\n") (IsRead fs e)
    empty_reads u none h =
        reads_on u (codes "/>") (codes "\n") (λ w. w ≡ ended fs (Node t Nil)) _
        (plainly u (codes "/>") _ refl (λ p. (Shutting fs t, h.slash p, λ q. (ended fs (Node t Nil), ap (λ f. weighed true f (Goes (ended fs (Node t Nil)))) r.sound, refl))))
        (λ w g. subst (λ s. Reads s (codes "\n") (IsRead fs e)) (sym g)
        (reads_to (ended fs (Node t Nil)) (codes "\n") _ _ (line_ends fs t Nil) (λ z k. (t, Nil, same_element (tags fs) e t [] r (sym (ap (map unplaced_child) none)), k))))

    -- its end tag, behind these children
    closes : (us : Trees) (u : State) → map unplaced_child (children (t ∷ tags fs) (has_element us) us) ≡ map unplaced_child e.children → IsInside fs (opened t us) u → Reads u closing (IsRead fs e)
    closes us u same h = reads_to u closing _ _ (end_reads fs (opened t us) e q u tag refl h) (λ w k. (t, us, same_element (tags fs) e t (children (t ∷ tags fs) (has_element us) us) r same, k))

    -- a text alone
    lone_reads : (text : List ℕ) (u : State) → child.Words text ∷ [] ≡ e.children → text ≢ [] → IsXmlText text → IsAtTag fs t u → Reads u (codes ">" ++ (flat_map (escaped escape.Text) text ++ closing)) (IsRead fs e)
    lone_reads text u is some x h =
        reads_on u (codes ">") (flat_map (escaped escape.Text) text ++ closing) (λ w. w ≡ Inside 0 (opened t Nil) fs) _
        (plainly u (codes ">") _ refl (λ p. (Inside 0 (opened t Nil) fs, h.greater p ∙ judged_well, refl)))
        (λ w g. subst (λ s. Reads s (flat_map (escaped escape.Text) text ++ closing) (IsRead fs e)) (sym g)
        (reads_on (Inside 0 (opened t Nil) fs) (flat_map (escaped escape.Text) text) closing _ _ (text_reads fs text 0 t some x) (λ s k.
        closes (Also Nil (Words text)) s (ap (map unplaced_child) is) k)))

    -- ## Elements alone

    abbrev now : List Start
    now = t ∷ tags fs

    -- a child on a line of its own, wherever it stands among these
    abbrev pub ChildReads : ℕ → Element → Type 0
    ChildReads depth x = (ts : Trees) (words : List ℕ) (j : ℕ) → Reads (Inside j (behind fs t ts words) fs) (written_tail ds x depth) (IsRead (behind fs t ts words ∷ fs) x)

    -- behind children that are as these, with blanks
    abbrev Holds : Bool → List Child → State → Type 0
    Holds some cs u = (ts : Trees) × (map unplaced_child (children now true ts) ≡ cs) × (has_element ts ≡ some) × IsBlankBehind fs t ts u

    spaces : (n : ℕ) → list_all (is_space fs) (replicate n 32) ≡ true
    spaces zero = refl
    spaces (suc n) = spaces n

    child_reads : (depth : ℕ) (some : Bool) (cs : List Child) (x : Element) (u : State) → ChildReads depth x → Holds some cs u → Reads u (written_element ds x depth) (Holds true (cs ++ (child.Sub (unplaced x) ∷ [])))
    child_reads depth some cs x u f h =
        subst (λ l. Reads u l (Holds true (cs ++ (child.Sub (unplaced x) ∷ [])))) (sym (tail_is ds x depth))
        (reads_on u (indent depth) (written_tail ds x depth) _ _ (blanks_read fs (indent depth) t h.0 u (spaces (2 * depth)) h.3) (λ w b.
        subst (λ s. Reads s (written_tail ds x depth) (Holds true (cs ++ (child.Sub (unplaced x) ∷ [])))) (sym b.2.1)
        (reads_to (Inside b.2.0 (behind fs t h.0 b.0) fs) (written_tail ds x depth) _ _ (f h.0 b.0 b.2.0) (λ z k.
        (Also (Also h.0 (Words b.0)) (Node k.0 k.1), more b.0 b.1 k.0 k.1 k.2, refl, k.3)))))
      where
        more : (words : List ℕ) → is_blank_text words ≡ true → (t' : Start) (us : Trees) → unplaced (element now t' (children (t' ∷ now) (has_element us) us)) ≡ unplaced x →
            map unplaced_child (children now true (Also (Also h.0 (Words words)) (Node t' us))) ≡ cs ++ (child.Sub (unplaced x) ∷ [])
        more words blank t' us same =
            ap (λ b. map unplaced_child ((children now true h.0 ++ (if b then [] else child.Words words ∷ [])) ++ (child.Sub (element now t' (children (t' ∷ now) (has_element us) us)) ∷ []))) blank
            ∙ ap (λ l. map unplaced_child (l ++ (child.Sub (element now t' (children (t' ∷ now) (has_element us) us)) ∷ []))) (append-nil (children now true h.0))
            ∙ map-append unplaced_child (children now true h.0) (child.Sub (element now t' (children (t' ∷ now) (has_element us) us)) ∷ [])
            ∙ ap (λ l. l ++ (unplaced_child (child.Sub (element now t' (children (t' ∷ now) (has_element us) us))) ∷ [])) h.1
            ∙ ap (λ c. cs ++ (c ∷ [])) (unplaced_sub (element now t' (children (t' ∷ now) (has_element us) us)) ∙ ap child.Sub same)

    line_is : (depth : ℕ) (x : Element) → lines depth (written_child ds (child.Sub x)) ≡ written_element ds x depth
    line_is depth x = ap (lines depth) (child_is ds x)

    abbrev subs : List Element → List Child
    subs xs = map (λ x. child.Sub (unplaced x)) xs

    -- more of them
    more_read : (depth : ℕ) (xs : List Element) (cs : List Child) (u : State) → Each (ChildReads depth) xs → Holds true cs u → Reads u (flat_map (lines depth) (map (written_child ds) (map child.Sub xs))) (Holds true (cs ++ subs xs))
    more_read depth [] cs u f h = nothing u _ (subst (λ l. Holds true l u) (sym (append-nil cs)) h)
    more_read depth (x ∷ xs) cs u f h =
        subst (λ l. Reads u (l ++ flat_map (lines depth) (map (written_child ds) (map child.Sub xs))) (Holds true (cs ++ subs (x ∷ xs)))) (sym (line_is depth x))
        (reads_on u (written_element ds x depth) (flat_map (lines depth) (map (written_child ds) (map child.Sub xs))) _ _ (child_reads depth true cs x u f.0 h) (λ w k.
        reads_to w (flat_map (lines depth) (map (written_child ds) (map child.Sub xs))) _ _ (more_read depth xs (cs ++ (child.Sub (unplaced x) ∷ [])) w f.1 k) (λ z g.
        subst (λ l. Holds true l z) (append_assoc cs (child.Sub (unplaced x) ∷ []) (subs xs)) g)))

    subs_are : (xs : List Element) → subs xs ≡ map unplaced_child (map child.Sub xs)
    subs_are [] = refl
    subs_are (x ∷ xs) = ap (λ c. c ∷ subs xs) (sym (unplaced_sub x)) ∙ ap (λ l. unplaced_child (child.Sub x) ∷ l) (subs_are xs)

    -- the end tag behind them, on a line of its own
    last_reads : (depth : ℕ) (xs : List Element) (u : State) → map child.Sub xs ≡ e.children → Holds true (subs xs) u → Reads u (indent depth ++ closing) (IsRead fs e)
    last_reads depth xs u is h =
        reads_on u (indent depth) closing _ _ (blanks_read fs (indent depth) t h.0 u (spaces (2 * depth)) h.3) (λ w b.
        closes (Also h.0 (Words b.0)) w (blank b.0 b.1 ∙ h.1 ∙ subs_are xs ∙ ap (map unplaced_child) is) b.2)
      where
        blank : (words : List ℕ) → is_blank_text words ≡ true → map unplaced_child (children now (has_element (Also h.0 (Words words))) (Also h.0 (Words words))) ≡ map unplaced_child (children now true h.0)
        blank words k =
            ap (λ s. map unplaced_child (children now s h.0 ++ (if s && is_blank_text words then [] else child.Words words ∷ []))) h.2
            ∙ ap (λ b. map unplaced_child (children now true h.0 ++ (if b then [] else child.Words words ∷ []))) k
            ∙ ap (map unplaced_child) (append-nil (children now true h.0))

    lines_read : (depth : ℕ) (x : Element) (xs : List Element) (u : State) → Each (ChildReads (suc depth)) (x ∷ xs) → map child.Sub (x ∷ xs) ≡ e.children → IsAtTag fs t u →
        Reads u (codes ">\n" ++ (flat_map (lines (suc depth)) (map (written_child ds) (map child.Sub (x ∷ xs))) ++ (indent depth ++ closing))) (IsRead fs e)
    lines_read depth x xs u f is h =
        reads_on u (codes ">\n") (flat_map (lines (suc depth)) (map (written_child ds) (map child.Sub (x ∷ xs))) ++ (indent depth ++ closing)) (Holds false []) _ begins (λ w k.
        reads_on w (flat_map (lines (suc depth)) (map (written_child ds) (map child.Sub (x ∷ xs)))) (indent depth ++ closing) _ _ (all w k) (λ s g. last_reads depth (x ∷ xs) s is g))
      where
        begins : Reads u (codes ">\n") (Holds false [])
        begins = reads_on u (codes ">") (codes "\n") (λ w. w ≡ Inside 0 (opened t Nil) fs) _
            (plainly u (codes ">") _ refl (λ p. (Inside 0 (opened t Nil) fs, h.greater p ∙ judged_well, refl)))
            (λ w g. subst (λ s. Reads s (codes "\n") (Holds false [])) (sym g) (reads_to (Inside 0 (opened t Nil) fs) (codes "\n") _ _ (line_reads fs 0 t Nil (λ b. refl)) (λ z k. (Nil, refl, refl, k))))

        all : (w : State) → Holds false [] w → Reads w (flat_map (lines (suc depth)) (map (written_child ds) (map child.Sub (x ∷ xs)))) (Holds true (subs (x ∷ xs)))
        all w k =
            subst (λ l. Reads w (l ++ flat_map (lines (suc depth)) (map (written_child ds) (map child.Sub xs))) (Holds true (subs (x ∷ xs)))) (sym (line_is (suc depth) x))
            (reads_on w (written_element ds x (suc depth)) (flat_map (lines (suc depth)) (map (written_child ds) (map child.Sub xs))) _ _ (child_reads (suc depth) false [] x w f.0 k) (λ z g.
            more_read (suc depth) xs (child.Sub (unplaced x) ∷ []) z f.1 g))

    abbrev written_contents : ℕ → List Child → List ℕ
    written_contents depth cs = contents closing depth (map (written_child ds) cs)

    -- all that follows a start tag
    pub contents_read : (depth : ℕ) (P : Element → Type 0) → ((x : Element) → P x → ChildReads (suc depth) x) → AreChildren P e.children → (u : State) → IsAtTag fs t u → Reads u (written_contents depth e.children) (IsRead fs e)
    contents_read depth P f (inl c) u h = on c.0 c.1 (each_from P c.0 c.2)
      where
        on : (xs : List Element) → map child.Sub xs ≡ e.children → Each P xs → Reads u (written_contents depth e.children) (IsRead fs e)
        on [] is k = subst (λ cs. Reads u (written_contents depth cs) (IsRead fs e)) is (empty_reads u (sym is) h)
        on (x ∷ xs) is k =
            subst (λ cs. Reads u (written_contents depth cs) (IsRead fs e)) is
            (subst (λ o. Reads u (option_map_or (λ text. codes ">" ++ (flat_map (escaped escape.Text) text ++ closing)) o (codes ">\n" ++ (flat_map (lines (suc depth)) (map (written_child ds) (map child.Sub (x ∷ xs))) ++ (indent depth ++ closing)))) (IsRead fs e))
            (sym (ap (λ w. lone_text (w ∷ map (written_child ds) (map child.Sub xs))) (child_is ds x)))
            (lines_read depth x xs u (each_more P (ChildReads (suc depth)) f (x ∷ xs) k) is h))
    contents_read depth P f (inr c) u h =
        subst (λ cs. Reads u (written_contents depth cs) (IsRead fs e)) c.1
        (subst (λ w. Reads u (contents closing depth (w ∷ [])) (IsRead fs e)) (sym (words_are ds c.0)) (lone_reads c.0 u c.1 c.2 c.3 h))

  -- ## Elements

  -- from this state an element begins, among these open ones
  pub record Opens (fs : List Open) (a : Around) (s : State) : Type 0 where
    pub less : (p : Place) → step true s Less p ≡ Goes (Begun a p)
    pub letter : (c : ℕ) (p q : Place) → element_begins true a p (Letter c) q ≡ Goes (Naming (OfStart fs p) q (utf8 (Letter c)))

  module _ (fs : List Open) (a : Around) (s : State) (opens : Opens fs a s) (e : Element) (tag : IsTag ds e)
      (prefixes : All (λ d. IsPlainName d.prefix) e.declared) (uris : All (λ d. IsXmlText d.uri) e.declared) (differ : Pairwise (λ c d. c.prefix ≢ d.prefix) e.declared) where
    abbrev IsOpened : State → Type 0
    IsOpened u = (p : Place) × (q : Place) × (ps : List Pair) × AreRead ds e.declared e.attributes ps × IsAtTag fs (start p (called q (prefix_in ds e.space) e.name) ps) u

    abbrev InForce : Type 0
    InForce = (p q : Place) (ps : List Pair) → AreRead ds e.declared e.attributes ps → IsScope ds (start p (called q (prefix_in ds e.space) e.name) ps ∷ tags fs)

    all_attributes : Each (IsAttribute ds) (filter is_version e.attributes ++ filter (λ a. not (is_version a)) e.attributes)
    all_attributes = subst (Each (IsAttribute ds)) (sym tag.version_first) (each_from (IsAttribute ds) e.attributes tag.attributes)

    opening_reads : Reads s (codes "<" ++ (written_name ds e.space e.name ++ written_attributes ds e.declared e.attributes)) IsOpened
    opening_reads =
        reads_on s (codes "<") (written_name ds e.space e.name ++ written_attributes ds e.declared e.attributes) (λ w. (p : Place) × (w ≡ Begun a p)) _
        (plainly s (codes "<") _ refl (λ p. (Begun a p, opens.less p, (p, refl))))
        (λ w b. subst (λ s. Reads s (written_name ds e.space e.name ++ written_attributes ds e.declared e.attributes) IsOpened) (sym b.1)
        (reads_on (Begun a b.0) (written_name ds e.space e.name) (written_attributes ds e.declared e.attributes) _ _ (name_reads ds plain (Begun a b.0) (OfStart fs b.0) (λ c q. opens.letter c b.0 q) e.space e.name tag.space tag.name) (λ z n.
        reads_to z (written_attributes ds e.declared e.attributes) _ _
        (tag_reads ds plain fs e.declared prefixes uris e.attributes
        (each_to (IsAttribute ds) (filter is_version e.attributes) (each_left (IsAttribute ds) (filter is_version e.attributes) (filter (λ a. not (is_version a)) e.attributes) all_attributes))
        (each_to (IsAttribute ds) (filter (λ a. not (is_version a)) e.attributes) (each_right (IsAttribute ds) (filter is_version e.attributes) (filter (λ a. not (is_version a)) e.attributes) all_attributes))
        (start b.0 (called n.0 (prefix_in ds e.space) e.name) []) z refl (named_tag fs b.0 (called n.0 (prefix_in ds e.space) e.name) z n.1))
        (λ y g. (b.0, n.0, g.0, g.1, g.2)))))

    -- a whole element, where its children are read in any element that is as this one
    pub whole_reads : (depth : ℕ) (P : Element → Type 0) → InForce → AreChildren P e.children →
        ((t : Start) → IsScope ds (t ∷ tags fs) → (x : Element) → P x → (ts : Trees) (words : List ℕ) (j : ℕ) → Reads (Inside j (behind fs t ts words) fs) (written_tail ds x (suc depth)) (IsRead (behind fs t ts words ∷ fs) x)) →
        Reads s (written_tail ds e depth) (IsRead fs e)
    whole_reads depth P force c f =
        reads_on s (codes "<" ++ (written_name ds e.space e.name ++ written_attributes ds e.declared e.attributes)) (contents (end_tag ds e.space e.name) depth (map (written_child ds) e.children)) _ _ opening_reads (λ u o.
        let scope = force o.0 o.1 o.2 o.3 in
        contents_read fs e tag o.0 o.1 o.2 (read_tag ds plain e tag (tags fs) o.0 o.1 o.2 o.3 differ scope) depth P (λ x h. f (start o.0 (called o.1 (prefix_in ds e.space) e.name) o.2) scope x h) c u o.4)

  nothing_matches : (ns : List Pair) → Match IsPairOfDeclaration [] ns → ns ≡ []
  nothing_matches [] h = refl
  nothing_matches (n ∷ ns) h = absurd h

  -- below the root
  module _ (fs : List Open) (e : Element) (tag : IsTag ds e) (none : e.declared ≡ []) (scope : IsScope ds (tags fs)) where
    no_prefixes : Pairwise (λ c d. c.prefix ≢ d.prefix) e.declared
    no_prefixes = subst (Pairwise (λ c d. c.prefix ≢ d.prefix)) (sym none) tt

    below_force : (p q : Place) (ps : List Pair) → AreRead ds e.declared e.attributes ps → IsScope ds (start p (called q (prefix_in ds e.space) e.name) ps ∷ tags fs)
    below_force p q ps r =
        let v = v_nothing ds plain e tag (tags fs) p q ps r no_prefixes in
        let o = o_nothing ds plain e tag (tags fs) p q ps r no_prefixes in
        let no = nothing_matches r.declarations (subst (λ l. Match IsPairOfDeclaration l r.declarations) none r.are_declarations) in
        subst (λ l. IsScope ds (start p (called q (prefix_in ds e.space) e.name) l ∷ tags fs)) (sym (r.whole ∙ ap (λ n. r.versions ++ (n ++ r.others)) no))
        (below_scope ds plain e.attributes r.versions r.others v o p (called q (prefix_in ds e.space) e.name) (tags fs) scope)

  pub below_reads : (n : ℕ) (fs : List Open) (f : Open) → length (tags (f ∷ fs)) + n ≤ 200 → IsScope ds (tags (f ∷ fs)) → (e : Element) → IsBelow ds n e → (depth j : ℕ) → Reads (Inside j f fs) (written_tail ds e depth) (IsRead (f ∷ fs) e)
  below_reads zero fs f le scope e b depth j = absurd b
  below_reads (suc n) fs f le scope e b depth j =
      whole_reads (f ∷ fs) (Within f fs) (Inside j f fs) opens e b.1 (subst (All (λ d. IsPlainName d.prefix)) (sym b.0) (λ k d l. absurd (omega (arith, l)))) (subst (All (λ d. IsXmlText d.uri)) (sym b.0) (λ k d l. absurd (omega (arith, l)))) (no_prefixes (f ∷ fs) e b.1 b.0 scope)
      depth (λ x. IsBelow ds n x) (below_force (f ∷ fs) e b.1 b.0 scope) b.2
      (λ t s x h ts words i. below_reads n (f ∷ fs) (behind (f ∷ fs) t ts words) (omega (arith, le)) s x h (suc depth) i)
    where
      opens : Opens (f ∷ fs) (Within f fs) (Inside j f fs)
      opens = record {
        less = λ p. refl;
        letter = λ c p q. ap (λ b. if b then Goes (Naming (OfStart (f ∷ fs) p) q (utf8 (Letter c))) else Breaks TooDeep p) (lt-ltb (length (tags (f ∷ fs))) 200 (omega (arith, le)));
      }
