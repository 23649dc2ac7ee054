-- What a call is to answer: by its first word, and then as that command says.
use Rattle.std.specs.Prelude.{◌≡◌, ◌⊎◌, ℕ, List, [], ◌∷◌, ◌++◌, Option, None, Some}
use Rattle.std.specs.Option.{option_map}
use Rattle.atl_outside.specs.Held.{Held}
use Rattle.atl_outside.specs.Rose.{Rose}
use Rattle.atl_outside.specs.Taken.{TakesFront}
use Rattle.atl_cli.specs.declared.command.Command.{Command}
use Rattle.atl_cli.specs.declared.command.Command.TheVariants as C
use Rattle.atl_cli.specs.declared.command.Misuse.TheVariants.{NoCommand, UnknownCommand}
use Rattle.atl_cli.specs.declared.status.Ending.{Ending}
use Rattle.atl_cli.specs.declared.status.Ending.TheVariants as ending
use Rattle.atl_cli.specs.declared.status.Form.TheVariants.{Words}
use Rattle.atl_cli.specs.declared.status.Status.{Status}
use Rattle.atl_cli.specs.declared.status.Status.TheVariants as status
use Rattle.atl_cli.specs.Commands.{command_of}
use Rattle.atl_cli.specs.Format as format
use Rattle.atl_cli.specs.Model as model
use Rattle.atl_cli.specs.Outcome.{Outcome, Ends, status_of, said}
use Rattle.atl_cli.specs.Transform as transform

-- ---- where nothing outside fails and memory lasts

abbrev pub JudgesBy : Option Command → List ℕ → List (List ℕ) → Held → Outcome → Type 0
JudgesBy None word words held o = o ≡ Ends (status.Usage (UnknownCommand word))
JudgesBy (Some C.Unbuilt) word words held o = o ≡ Ends (status.NotYet Words)
JudgesBy (Some C.Transform) word words held o = transform.Judges (word ∷ words) held o
JudgesBy (Some C.Model) word words held o = model.Judges words held o
JudgesBy (Some C.Format) word words held o = format.Judges words held o

-- What the words come to, where the files hold these contents.
abbrev pub Judges : List (List ℕ) → Held → Outcome → Type 0
Judges [] held o = o ≡ Ends (status.Usage NoCommand)
Judges (word ∷ words) held o = JudgesBy (command_of word) word words held o

-- ---- with failures

-- with this status, or for want of memory, and no file is changed
abbrev pub EndsBy : Status → Option Held → Option Held → Ending → Type 0
EndsBy end before after e = (after ≡ before) × ((e ≡ ending.Ends end) ⊎ (e ≡ ending.Ends status.Memory))

-- `transform` ends with a status, and has no other text to put out
abbrev pub Transformed : List (List ℕ) → Option Held → Option Held → ℕ → ℕ → Ending → Type 0
Transformed words before after low high (ending.Ends end) = transform.Ended words before after low high end
Transformed words before after low high (ending.Prints text) = ⊥

-- so does `model`
abbrev pub Remade : List (List ℕ) → Option Held → Option Held → ℕ → ℕ → Ending → Type 0
Remade words before after low high (ending.Ends end) = model.Ended words before after low high end
Remade words before after low high (ending.Prints text) = ⊥

abbrev pub EndedBy : Option Command → List ℕ → List (List ℕ) → Option Held → Option Held → ℕ → ℕ → Ending → Type 0
EndedBy None word words before after low high e = EndsBy (status.Usage (UnknownCommand word)) before after e
EndedBy (Some C.Unbuilt) word words before after low high e = EndsBy (status.NotYet Words) before after e
EndedBy (Some C.Transform) word words before after low high e = Transformed (word ∷ words) before after low high e
EndedBy (Some C.Model) word words before after low high e = Remade words before after low high e
EndedBy (Some C.Format) word words before after low high e = (after ≡ before) × format.Ended words before low high e

-- How a run over files ends, before anything is put out: the files' content and count of faults before, and after it.
abbrev pub Ended : List (List ℕ) → Option Held → Option Held → ℕ → ℕ → Ending → Type 0
Ended [] before after low high e = EndsBy (status.Usage NoCommand) before after e
Ended (word ∷ words) before after low high e = EndedBy (command_of word) word words before after low high e

-- What it says is put out: whole; or in part, where the sink failed; or not at all, where memory was refused.
abbrev pub Told : Option (List ℕ) → Option (List ℕ) → ℕ → ℕ → Ending → Status → Type 0
Told before after low high e result =
    ((result ≡ status_of e) × (after ≡ option_map (λ taken. taken ++ said e) before))
    ⊎ ((result ≡ status.WriteFault []) × Rose low high × TakesFront (said e) before after)
    ⊎ ((result ≡ status.Memory) × (after ≡ before))
