use Rattle.std.proofs.Common.{◌≡◌, ◌++◌, ◌∷◌, [], ℕ, List, Bor, get_or, take, map, sym, ap, ◌∙◌}
use Rattle.std.proofs.lemmas.List.{get_or_default, map_push, take_all}
use Rattle.std.proofs.lemmas.List.Elements.{All-push, All-same}
use Rattle.atl_base.specs.XmlText.{IsXmlText}
use Rattle.xmi_links.specs.References.{Token, token_of}
use Rattle.xmi_links.specs.Found.{named_in, token_in}
use Rattle.xmi_links.proofs.Steps.{taken}
use Rattle.xmi_links.proofs.WordTexts.{word_is_text}
use Rattle.xmi_links.proofs.references.named_words.Goals as goal

abbrev none : Bor (List ℕ)
none = record { ref_ptr = (0, 0); now = [] }

pub token_names-requires : goal.token_names-requires
token_names-requires c =
    let word : Bor (List ℕ) = get_or c.args.words.now c.loop-i.i none in
    word_is_text c.args.text.now c.requires.text c.args.words.now c.requires.words c.loop-i.i word c.loop-i-test.true (get_or_default c.args.words.now c.loop-i.i none word c.loop-i-test.true)

pub loop-i-preserved : goal.loop-i-preserved
loop-i-preserved c =
    let m = c.args.sketch.now in
    let word : Bor (List ℕ) = get_or c.args.words.now c.loop-i.i none in
    let is : word ≡ get_or c.args.words.now c.loop-i.i word = get_or_default c.args.words.now c.loop-i.i none word c.loop-i-test.true in
    let old = map token_in c.loop-i.tokens.items in
    let token : Token = record { text = word.now; named = named_in c.in_ok-named.named } in
    let pushed : map token_in c.push.new.self.items ≡ old ++ token ∷ [] =
    ap (map token_in) c.in_ok-push.ensures.items ∙ map_push token_in c.loop-i.tokens.items (record { text = word; named = c.in_ok-named.named }) in
    record {
      told = λ who h.
          let said : List Token = map (λ (w : Bor (List ℕ)). token_of m who w.now) (take c.loop-i.i c.args.words.now) in
          pushed
          ∙ ap (λ l. l ++ token ∷ []) (c.loop-i.invariant.told who h)
          ∙ ap (λ n. let t : Token = record { text = word.now; named = n } in said ++ t ∷ []) (c.in_ok-named.ensures who h)
          ∙ sym (taken (λ (w : Bor (List ℕ)). token_of m who w.now) c.args.words.now c.loop-i.i word c.loop-i-test.true is);
      texts = All-same (λ (t : Token). IsXmlText t.text) (map token_in c.push.new.self.items) (old ++ token ∷ []) pushed
          (All-push (λ (t : Token). IsXmlText t.text) old token c.loop-i.invariant.texts
          (word_is_text c.args.text.now c.requires.text c.args.words.now c.requires.words c.loop-i.i word c.loop-i-test.true is));
    }

pub returns-clause-tokens : goal.returns-clause-tokens
returns-clause-tokens c = λ who h.
    c.loop-i.invariant.told who h
    ∙ ap (map (λ (w : Bor (List ℕ)). token_of c.args.sketch.now who w.now)) (take_all c.loop-i.i c.args.words.now c.loop-i-test.false)
