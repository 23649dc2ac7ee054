use Rattle.std.proofs.Common.{◌≡◌, ◌++◌, ◌∷◌, [], ap, sym, ◌∙◌}
use Rattle.std.specs.Prelude.{is_some, not, false, true}
use Rattle.doc_text.specs.Declarations.{first_of, is_declaration}
use Rattle.doc_text.proofs.Declared.{plain_more, again_more}
use Rattle.doc_text.proofs.pairs.Pairs.push.Goals as goal
use Rattle.doc_text.proofs.pairs.Pairs.push.Goals.{then-is_declaration+else-is_none, else-is_declaration}

pub invariant_of-self-2 : goal.invariant_of-self-2
invariant_of-self-2 c = λ q.
    let items = c.self-2.inside.items in
    let pair = c.args.pair in
    let whole : c.args.self.now ≡ items = cc in
    let same : first_of q items ≡ first_of q (items ++ (pair ∷ [])) =
    elim c.if-is_declaration.branch [
      | then-is_declaration+else-is_none w ↦
          let some : is_some w.first_of.result ≡ true = w.is_none.ensures ∙ ap not w.if-is_none.false in
          again_more q w.declared_prefix-prefix.result.now items pair w.first_of.result (sym w.declared_prefix-prefix.ensures) (w.first_of.ensures.place ∙ ap (first_of w.declared_prefix-prefix.result.now) whole) some
      | else-is_declaration w ↦
          let plain : is_declaration pair.name ≡ false = sym c.is_declaration.ensures ∙ w.if-is_declaration.false in
          plain_more q items pair plain
    ] in
    c.self-2.invariant q ∙ same ∙ ap (first_of q) (sym c.in_ok-push.ensures.ok)
