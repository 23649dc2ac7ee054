-- How runs end, by the command; and that a call has one answer.
use Rattle.std.proofs.Common.{◌≡◌, ℕ, zero, suc, ◌<◌, List, [], ◌∷◌, length, Option, Some, None, IfSome, inr, sym, subst, ◌∙◌, refl, arith}
use Rattle.atl_outside.specs.Held.{Held, bytes_at}
use Rattle.atl_cli.specs.declared.command.Command.{Command}
use Rattle.atl_cli.specs.declared.command.Command.TheVariants as C
use Rattle.atl_cli.specs.declared.status.Ending.{Ending}
use Rattle.atl_cli.specs.declared.status.Ending.TheVariants as ending
use Rattle.atl_cli.specs.declared.status.Status.TheVariants as status
use Rattle.atl_cli.specs.Answers.{Judges, JudgesBy, Ended, EndedBy}
use Rattle.atl_cli.specs.Commands.{command_of}
use Rattle.atl_cli.specs.Format as f
use Rattle.atl_cli.specs.Model as m
use Rattle.atl_cli.specs.Outcome.{Outcome}
use Rattle.atl_cli.proofs.FormatAnswer as format
use Rattle.atl_cli.proofs.ModelAnswer as model
use Rattle.atl_cli.proofs.OneAnswer as transform

pub ended_by : (words : List (List ℕ)) (word : List ℕ) (rest : List (List ℕ)) (k : Option Command) (before after : Option Held) (low high : ℕ) (e : Ending) →
    words ≡ word ∷ rest → k ≡ command_of word → EndedBy k word rest before after low high e → Ended words before after low high e
ended_by words word rest k before after low high e is by ended =
    subst (λ l. Ended l before after low high e) (sym is) (subst (λ o. EndedBy o word rest before after low high e) by ended)

pub no_memory : (words : List (List ℕ)) (before after : Option Held) (low high : ℕ) → after ≡ before → Ended words before after low high (ending.Ends status.Memory)
no_memory [] before after low high same = (same, inr refl)
no_memory (word ∷ rest) before after low high same = go (command_of word)
  where
    go : (k : Option Command) → EndedBy k word rest before after low high (ending.Ends status.Memory)
    go None = (same, inr refl)
    go (Some C.Unbuilt) = (same, inr refl)
    go (Some C.Transform) = same
    go (Some C.Model) = m.NoMemory same
    go (Some C.Format) = (same, f.NoMemory)

by_command : (k : Option Command) (word : List ℕ) (rest : List (List ℕ)) (held : Held) (a b : Outcome) → JudgesBy k word rest held a → JudgesBy k word rest held b → a ≡ b
by_command None word rest held a b x y = x ∙ sym y
by_command (Some C.Unbuilt) word rest held a b x y = x ∙ sym y
by_command (Some C.Transform) word rest held a b x y = transform.one_answer (word ∷ rest) held a b x y
by_command (Some C.Model) word rest held a b x y = model.one_answer rest held a b x y
by_command (Some C.Format) word rest held a b x y = format.one_answer rest held a b x y

pub one_answer : (words : List (List ℕ)) (held : Held) (a b : Outcome) → Judges words held a → Judges words held b → a ≡ b
one_answer [] held a b x y = x ∙ sym y
one_answer (word ∷ rest) held a b x y = by_command (command_of word) word rest held a b x y

-- some list is longer than a number
pub longer : (n : ℕ) → (l : List ℕ) × (n < length l)
longer zero = (0 ∷ [], omega arith)
longer (suc n) = let before = longer n in (0 ∷ before.0, omega (arith, before.1))

-- where the files don't tell, some bytes are too long
pub long_bytes : (before : Option Held) (path : List ℕ) (limit : ℕ) → IfSome before (λ held. limit < length (bytes_at held path)) →
    (bytes : List ℕ) × IfSome before (λ held. bytes ≡ bytes_at held path) × (limit < length bytes)
long_bytes (Some held) path limit long = (bytes_at held path, refl, long)
long_bytes None path limit long = let some = longer limit in (some.0, tt, some.1)
