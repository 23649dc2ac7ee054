-- The commands by their words: three that stand, and those that are to come.
use Rattle.std.specs.Prelude.{ℕ, List, [], ◌∷◌, Option, None, Some, if◌then◌else◌, codes}
use Rattle.std.specs.List.{list_any}
use Rattle.std.specs.Str.{bytes_eq}
use Rattle.atl_cli.specs.declared.command.Command.{Command}
use Rattle.atl_cli.specs.declared.command.Command.TheVariants as C

abbrev pub words_to_come : List (List ℕ)
words_to_come = codes "compile" ∷ codes "run" ∷ codes "live" ∷ codes "make" ∷ []

abbrev pub command_of : List ℕ → Option Command
command_of word =
    if bytes_eq word (codes "transform") then Some C.Transform
    else if bytes_eq word (codes "model") then Some C.Model
    else if bytes_eq word (codes "format") then Some C.Format
    else if list_any (λ other. bytes_eq word other) words_to_come then Some C.Unbuilt
    else None
