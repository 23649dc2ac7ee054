use Rattle.std.proofs.Common.{◌++◌, map, sym, ap, ◌∙◌, arith}
use Rattle.xmi_text.proofs.WordsOf.{at_blank, at_letter}
use Rattle.xmi_text.proofs.words.words.Goals as goal
use Rattle.xmi_text.proofs.words.words.Goals.{then-is_blank+in_ok-push_word, else-is_blank}

pub loop-i-preserved : goal.loop-i-preserved
loop-i-preserved c = elim c.if-is_blank.branch [
  | then-is_blank+in_ok-push_word w ↦ record {
    told = rw (w.words-is, w.begin-is) (
        w.in_ok-push_word.ensures _
        ∙ ap (λ ws. map (λ v. v.now) c.loop-i.words.items ++ ws) (sym (at_blank c.args.text.now c.loop-i.begin c.loop-i.i c.loop-i-test.true (sym c.is_blank.ensures ∙ w.if-is_blank.true)))
        ∙ c.loop-i.invariant.told);
    within = omega arith;
  }
  | else-is_blank w ↦ record {
    told = rw (w.words-is, w.begin-is) (
        ap (λ ws. map (λ v. v.now) c.loop-i.words.items ++ ws) (sym (at_letter c.args.text.now c.loop-i.begin c.loop-i.i c.loop-i.invariant.within c.loop-i-test.true (sym c.is_blank.ensures ∙ w.if-is_blank.false)))
        ∙ c.loop-i.invariant.told);
    within = omega arith;
  }
]
