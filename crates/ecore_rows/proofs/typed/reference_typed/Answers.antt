use Rattle.std.proofs.Common.{◌≢◌, length, map, sym, ap, ◌∙◌, arith}
use borrow.Author.Tests.{ltb-true, ltb-false}
use Rattle.xmi_text.specs.Scopes.{scope_of}
use Rattle.ecore_outline.specs.Entries.{entries_of}
use Rattle.ecore_rows.specs.Rows.{reference_typed}
use Rattle.ecore_rows.proofs.WordCases.{one, reference_other}
use Rattle.ecore_rows.proofs.typed.reference_typed.Goals as goal
use Rattle.ecore_rows.proofs.typed.reference_typed.Goals.{in_default-via-then-words-lt1, in_default-via-else-words-lt1+else-words-lt2+else-words-lt3}

pub returns-in-len1 : goal.returns-in-len1
returns-in-len1 c =
    c.reference_word_typed.ensures (scope_of c.args.scope.now)
    ∙ ap (λ ws. reference_typed (entries_of c.args.file.now) (scope_of c.args.scope.now) c.args.text.now (map (λ w. w.now) ws))
    (sym (one c.args.words.now _ c.in-len1.len_at_least c.in-len1.len_below))

pub returns-in_default : goal.returns-in_default
returns-in_default c = elim c.in_default.branch [
  | in_default-via-then-words-lt1 w ↦
      let a : length c.args.words.now ≢ 1 = omega (arith, ltb-true) in
      let b : length c.args.words.now ≢ 2 = omega (arith, ltb-true) in
      c.or_foreign-in_default.ensures ∙ sym (reference_other (entries_of c.args.file.now) (scope_of c.args.scope.now) c.args.text.now c.args.words.now a b)
  | in_default-via-else-words-lt1+else-words-lt2+else-words-lt3 w ↦
      let a : length c.args.words.now ≢ 1 = omega (arith, ltb-false) in
      let b : length c.args.words.now ≢ 2 = omega (arith, ltb-false) in
      c.or_foreign-in_default.ensures ∙ sym (reference_other (entries_of c.args.file.now) (scope_of c.args.scope.now) c.args.text.now c.args.words.now a b)
]
