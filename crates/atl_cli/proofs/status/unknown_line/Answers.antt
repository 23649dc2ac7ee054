use Rattle.std.proofs.Common.{◌≡◌, ◌≢◌, ◌∙◌, ◌++◌, ◌==◌, true, false, List, [], ◌∷◌, ℕ, length, codes, refl, ap}
use Rattle.std.proofs.lemmas.Result.{IfOk-weaker}
use Rattle.atl_cli.specs.declared.command.Misuse.TheVariants.{UnknownCommand}
use Rattle.atl_cli.specs.declared.status.Status.TheVariants.{Usage}
use Rattle.atl_cli.specs.Status.{line_of}
use Rattle.atl_cli.proofs.status.unknown_line.Goals as goal

-- a word that is not empty stands behind a blank
with_word : (word : List ℕ) → word ≢ [] → codes "2 Usage: UnknownCommand " ++ (word ++ codes "\n") ≡ line_of (Usage (UnknownCommand word))
with_word [] some = absurd (some refl)
with_word (c ∷ word) some = refl

pub returns : goal.returns
returns c =
    let some : c.args.word.now ≢ [] = λ e.
    let both : false ≡ true = c.if-is_empty.ensures ∙ ap (λ n. n == 0) (ap length (c.bytes.ensures.bytes ∙ e)) in
    cc in
    IfOk-weaker c.fault_line.result _ _ (λ line is. is ∙ with_word c.args.word.now some) c.fault_line.ensures
