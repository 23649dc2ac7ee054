-- A written document is read again, to the same root up to places.
use Rattle.std.proofs.Common.{◌≡◌, ◌≢◌, ℕ, ◌+◌, List, [], ◌∷◌, ◌++◌, length, take, refl, sym, ap, ◌∙◌, subst, arith}
use Rattle.std.specs.Prelude.{Bool, true, false, ◌==◌, not, if◌then◌else◌, codes, encode_utf8_all, Option, Some}
use Rattle.std.specs.List.{list_all}
use Rattle.std.specs.Str.{chars, IsUtf8}
use Rattle.std.proofs.Math.Seq.{take-length}
use Rattle.std.proofs.lemmas.Bool.{and_parts, and_from, not-true, eqb-true, eq-eqb}
use Rattle.std.proofs.lemmas.List.{append-nil}
use Rattle.std.proofs.lemmas.Str.{encode_ascii, utf8_valid_len-IsUtf8, chars_from_encodes}
use Rattle.atl_base.specs.declared.place.Place.{Place}
use Rattle.atl_base.specs.XmlText.{is_xml_character}
use Rattle.atl_base.proofs.XmlTexts.{IsUtf8-from_text}
use Rattle.doc_text.specs.Characters.{place, placed, end_of, decoded, characters, no_character}
use Rattle.doc_text.specs.Encodings.{Utf8}
use Rattle.doc_text.specs.Symbols.{Blank, Letter, Joint, Dash, Quote, Symbol, mark, kind_of, utf8}
use Rattle.doc_text.specs.Raw.{called, Pair, start}
use Rattle.doc_text.specs.State.{Before, First, State, Beginning, Declaring, Untold, Targeting, Encoding, Stated, ToldEncoding, Goes, InProlog}
use Rattle.doc_text.specs.Steps.{step, targeted, encoded}
use Rattle.doc_text.specs.Machine.{finish, run, read}
use Rattle.doc_text.specs.Namespaces.{resolved}
use Rattle.doc_text.specs.Reading.{Gives}
use Rattle.doc_text.specs.Written.{declaration, written, written_element}
use Rattle.doc_text.specs.ReadBack.{IsWritable, IsBelow, IsReadBack}
use Rattle.doc_text.specs.declared.tree.Doc.{Doc}
use Rattle.doc_text.specs.declared.tree.Prefix.{Prefix}
use Rattle.doc_text.proofs.Leading.{Leads, Reads, reads_on, plainly, is_written}
use Rattle.doc_text.proofs.NamesAgain.{prefix_in}
use Rattle.doc_text.proofs.TextsAgain.{behind}
use Rattle.doc_text.proofs.TagsAgain.{AreRead}
use Rattle.doc_text.proofs.ScopesAgain.{IsScope, pairwise_from, root_scope, v_nothing, o_nothing}
use Rattle.doc_text.proofs.ElementsAgain.{IsRead, Opens, tail_is, whole_reads, below_reads}
use Rattle.doc_text.proofs.Runs.{steps, true-false}

-- ## The declaration

titled_so : (n : List ℕ) (p : Place) → n ≡ codes "xml" → step true (Targeting First n) (Blank 32) p ≡ Goes (Declaring Untold)
titled_so n p e = ap (λ m. targeted First m (Blank 32)) e

xml_is : (utf8 (Letter 120) ++ utf8 (Letter 109)) ++ utf8 (Letter 108) ≡ codes "xml"
xml_is = simp (encode_ascii 120 (omega arith), encode_ascii 109 (omega arith), encode_ascii 108 (omega arith)) refl

stated_so : (o : Option Place) (v : List ℕ) (p : Place) → v ≡ codes "UTF-8" → step true (Encoding true o v) Quote p ≡ Goes (Stated ToldEncoding)
stated_so o v p e = ap (λ w. encoded true true o w Quote p) e

utf8_is : ((((utf8 (Letter 85)) ++ utf8 (Letter 84)) ++ utf8 (Letter 70)) ++ utf8 Dash) ++ utf8 (Joint 56) ≡ codes "UTF-8"
utf8_is = simp (encode_ascii 85 (omega arith), encode_ascii 84 (omega arith), encode_ascii 70 (omega arith), encode_ascii 45 (omega arith), encode_ascii 56 (omega arith)) refl

declaration_reads : Reads Beginning declaration (λ u. u ≡ InProlog)
declaration_reads = plainly Beginning declaration _ refl (λ p0. (_, refl, λ p1. (_, refl, λ p2. (_, refl, λ p3. (_, refl, λ p4. (_, refl, λ p5. (Declaring Untold, titled_so ((utf8 (Letter 120) ++ utf8 (Letter 109)) ++ utf8 (Letter 108)) p5 xml_is, λ p6. (_, refl, λ p7. (_, refl, λ p8. (_, refl, λ p9. (_, refl, λ p10. (_, refl, λ p11. (_, refl, λ p12. (_, refl, λ p13. (_, refl, λ p14. (_, refl, λ p15. (_, refl, λ p16. (_, refl, λ p17. (_, refl, λ p18. (_, refl, λ p19. (_, refl, λ p20. (_, refl, λ p21. (_, refl, λ p22. (_, refl, λ p23. (_, refl, λ p24. (_, refl, λ p25. (_, refl, λ p26. (_, refl, λ p27. (_, refl, λ p28. (_, refl, λ p29. (_, refl, λ p30. (_, refl, λ p31. (_, refl, λ p32. (_, refl, λ p33. (_, refl, λ p34. (_, refl, λ p35. (Stated ToldEncoding, stated_so (Some p30) (((((utf8 (Letter 85)) ++ utf8 (Letter 84)) ++ utf8 (Letter 70)) ++ utf8 Dash) ++ utf8 (Joint 56)) p35 utf8_is, λ p36. (_, refl, λ p37. (_, refl, λ p38. (_, refl, refl))))))))))))))))))))))))))))))))))))))))

-- ## The root

module _ (doc : Doc) (w : IsWritable doc) where
  abbrev ds : List Prefix
  ds = doc.root.declared

  opens : Opens ds w.prefixes [] Before InProlog
  opens = record { less = λ p. refl; letter = λ c p q. refl }

  force : (p q : Place) (ps : List Pair) → AreRead ds ds doc.root.attributes ps → IsScope ds (start p (called q (prefix_in ds doc.root.space) doc.root.name) ps ∷ [])
  force p q ps r =
      let d = pairwise_from (λ c d. c.prefix ≢ d.prefix) ds w.differ in
      let v = v_nothing ds w.prefixes doc.root w.tag [] p q ps r d in
      let o = o_nothing ds w.prefixes doc.root w.tag [] p q ps r d in
      subst (λ l. IsScope ds (start p (called q (prefix_in ds doc.root.space) doc.root.name) l ∷ [])) (sym r.whole)
      (root_scope ds w.prefixes doc.root.attributes r.versions r.others v o p (called q (prefix_in ds doc.root.space) doc.root.name) r.declarations r.are_declarations w.differ)

  root_reads : Reads InProlog (written_element ds doc.root 0) (IsRead [] doc.root)
  root_reads = subst (λ l. Reads InProlog l (IsRead [] doc.root)) (sym (tail_is ds doc.root 0))
      (whole_reads ds w.prefixes [] Before InProlog opens doc.root w.tag w.prefixes w.uris (pairwise_from (λ c d. c.prefix ≢ d.prefix) ds w.differ) 0 (λ x. IsBelow ds 199 x) force w.children
      (λ t s x h ts words j. below_reads ds w.prefixes 199 [] (behind [] t ts words) (omega arith) s x h 1 j))

  all_reads : Reads Beginning (written doc) (IsRead [] doc.root)
  all_reads = reads_on Beginning declaration (written_element ds doc.root 0) _ _ declaration_reads (λ u e. subst (λ s. Reads s (written_element ds doc.root 0) (IsRead [] doc.root)) (sym e) root_reads)

-- ## From characters to their places

module _ (end : Place) where
  -- what leads somewhere does so wherever it is placed
  placed_leads : (s : State) (cs : List ℕ) (P : State → Type 0) → Leads s cs P → list_all is_written cs ≡ true → (line column : ℕ) → (u : State) × P u × (run true end s (placed false line column cs) ≡ finish true end u)
  placed_leads s [] P l h line column = (s, l, refl)
  placed_leads s (c ∷ cs) P l h line column =
      let k = and_parts (is_written c) (list_all is_written cs) h in
      on (c == 10) refl (c == 13) refl (and_parts (is_xml_character c) (not (c == 13)) k.0).1 (λ u m n y. placed_leads u cs P y k.1 m n)
    where
      Ends : List Symbol → Type 0
      Ends ss = (u : State) × P u × (run true end s ss ≡ finish true end u)

      on : (b : Bool) → (c == 10) ≡ b → (d : Bool) → (c == 13) ≡ d → not (c == 13) ≡ true → ((u : State) (m n : ℕ) → Leads u cs P → (v : State) × P v × (run true end u (placed false m n cs) ≡ finish true end v)) →
          Ends (if b then mark (place line column) (Blank 10) ∷ placed false (line + 1) 1 cs else (if d then mark (place line column) (Blank 10) ∷ placed true line (column + 1) cs else mark (place line column) (kind_of c) ∷ placed false line (column + 1) cs))
      on true e d f n again =
          let g = l (place line column) in
          let r = again g.0 (line + 1) 1 g.2 in
          (r.0, r.1, steps true end s (mark (place line column) (Blank 10)) (placed false (line + 1) 1 cs) g.0 (ap (λ x. step true s (kind_of x) (place line column)) (sym (eqb-true c 10 e)) ∙ g.1) ∙ r.2)
      on false e true f n again = absurd (true-false (sym f ∙ not-true (c == 13) n))
      on false e false f n again =
          let g = l (place line column) in
          let r = again g.0 line (column + 1) g.2 in
          (r.0, r.1, steps true end s (mark (place line column) (kind_of c)) (placed false line (column + 1) cs) g.0 g.1 ∙ r.2)

-- the characters of UTF-8
utf8_characters : (bytes cs : List ℕ) → encode_utf8_all cs ≡ bytes → list_all is_written cs ≡ true → decoded Utf8 bytes ≡ cs
utf8_characters bytes cs e h =
    ap (λ n. chars (take n bytes) ++ (if n == length bytes then [] else no_character ∷ [])) (utf8_valid_len-IsUtf8 bytes u)
    ∙ ap (λ b. chars (take (length bytes) bytes) ++ (if b then [] else no_character ∷ [])) (eq-eqb (length bytes) (length bytes) refl)
    ∙ append-nil (chars (take (length bytes) bytes)) ∙ ap chars (take-length bytes) ∙ sym (chars_from_encodes cs bytes u e)
  where
    xml : (cs : List ℕ) → list_all is_written cs ≡ true → list_all is_xml_character cs ≡ true
    xml [] h = refl
    xml (c ∷ cs) h = let k = and_parts (is_written c) (list_all is_written cs) h in and_from (is_xml_character c) (list_all is_xml_character cs) (and_parts (is_xml_character c) (not (c == 13)) k.0).0 (xml cs k.1)

    u : IsUtf8 bytes
    u = IsUtf8-from_text bytes (cs, xml cs h, e)

-- what is written is in UTF-8
written_characters : (rest cs : List ℕ) → encode_utf8_all cs ≡ declaration ++ rest → list_all is_written cs ≡ true → characters (declaration ++ rest) ≡ cs
written_characters rest cs e h = utf8_characters (declaration ++ rest) cs e h

pub reads_back : (doc : Doc) → IsWritable doc → IsReadBack doc
reads_back doc w = done (all_reads doc w)
  where
    done : Reads Beginning (written doc) (IsRead [] doc.root) → IsReadBack doc
    done r =
        let is = written_characters (written_element doc.root.declared doc.root 0) r.characters r.spelt r.written in
        let g = placed_leads (end_of (written doc)) Beginning r.characters (IsRead [] doc.root) r.leads r.written 1 1 in
        (resolved g.1.0 g.1.1, subst (λ z. Gives z (resolved g.1.0 g.1.1)) (sym (ap (λ cs. read true (end_of (written doc)) (placed false 1 1 cs)) is ∙ g.2 ∙ ap (finish true (end_of (written doc))) g.1.3)) refl, g.1.2)
