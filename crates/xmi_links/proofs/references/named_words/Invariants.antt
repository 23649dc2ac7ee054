use Rattle.std.proofs.Common.{◌≡◌, ℕ, List, take, map}
use Rattle.std.specs.Prelude.{All}
use Rattle.atl_base.specs.declared.numbers.ObjId.{ObjId}
use Rattle.atl_base.specs.XmlText.{IsXmlText}
use Rattle.xmi_links.specs.References.{token_of}
use Rattle.xmi_links.specs.Found.{AreBearers, token_in}
use Rattle.xmi_links.proofs.references.named_words.Given as goal

-- the tokens so far
abbrev pub invariant-loop-i : goal.invariant-loop-i
invariant-loop-i l = record {
  told : (who : List ℕ → List ObjId) → AreBearers who l.ids → map token_in l.tokens.items ≡ map (λ w. token_of l.sketch who w.now) (take l.i l.words);
  texts : All (λ t. IsXmlText t.text) (map token_in l.tokens.items);
}
