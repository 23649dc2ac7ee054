-- What a call comes to where nothing outside fails and memory lasts: a status that ends it, a text that is written at a
-- path, or a text that is put out; the last two with status 0.
use Rattle.std.specs.Prelude.{ℕ, List}
use Rattle.atl_cli.specs.declared.status.Ending.{Ending}
use Rattle.atl_cli.specs.declared.status.Ending.TheVariants as ending
use Rattle.atl_cli.specs.declared.status.Status.{Status}
use Rattle.atl_cli.specs.declared.status.Status.TheVariants as status
use Rattle.atl_cli.specs.Status.{line_of}

pub data Outcome : Type 0 where
  Ends : Status → Outcome
  Writes : List ℕ → List ℕ → Outcome
  Prints : List ℕ → Outcome

-- a file's limit in bytes
abbrev pub file_limit : ℕ
file_limit = 67108864

-- a run that has written nothing came to this
abbrev pub outcome_of : Ending → Outcome
outcome_of (ending.Ends end) = Ends end
outcome_of (ending.Prints text) = Prints text

-- its status, and what it puts out: the line of the status, or the text
abbrev pub status_of : Ending → Status
status_of (ending.Ends end) = end
status_of (ending.Prints text) = status.Ok

abbrev pub said : Ending → List ℕ
said (ending.Ends end) = line_of end
said (ending.Prints text) = text
