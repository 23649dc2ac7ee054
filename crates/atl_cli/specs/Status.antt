-- The numbers of the statuses, and the one line that each puts out; Ok and Memory put none, nor does a sink's failure,
-- which has no path. Where a value is empty, the blank before it goes too.
use Rattle.std.specs.Prelude.{ℕ, List, [], ◌∷◌, ◌++◌, codes}
use Rattle.std.specs.Fmt.{decimal}
use Rattle.atl_base.specs.declared.place.Place.{Place}
use Rattle.atl_cli.specs.declared.command.Misuse.{Misuse}
use Rattle.atl_cli.specs.declared.command.Misuse.TheVariants as misuse
use Rattle.atl_cli.specs.declared.syntax.SyntaxKind.{SyntaxKind}
use Rattle.atl_cli.specs.declared.syntax.SyntaxKind.TheVariants as kind
use Rattle.atl_cli.specs.Refused.{meta_word, model_word}
use Rattle.atl_cli.specs.declared.status.Status.{Status}
use Rattle.atl_cli.specs.declared.status.Status.TheVariants as status
use Rattle.atl_cli.specs.declared.status.Size.{Size}
use Rattle.atl_cli.specs.declared.status.Size.TheVariants as size
use Rattle.atl_cli.specs.declared.status.Form.{Form}
use Rattle.atl_cli.specs.declared.status.Form.TheVariants as form

abbrev pub number_of : Status → ℕ
number_of status.Ok = 0
number_of status.Memory = 1
number_of (status.Usage why) = 2
number_of (status.ReadFault path) = 3
number_of (status.WriteFault path) = 4
number_of (status.Syntax what at) = 5
number_of (status.Meta path kind value at) = 7
number_of (status.Model path kind value at) = 8
number_of (status.TooLarge what) = 14
number_of (status.NotYet what) = 15

abbrev pub size_words : Size → List ℕ
size_words size.File = codes "file 67108864"
size_words size.Objects = codes "objects 1000000"
size_words size.Rules = codes "rules 1000"

abbrev pub form_word : Form → List ℕ
form_word form.Words = codes "words"
form_word form.Module = codes "module"
form_word form.Model = codes "model"

abbrev pub usage_words : Misuse → List ℕ
usage_words misuse.NoCommand = codes "NoCommand"
usage_words (misuse.UnknownCommand []) = codes "UnknownCommand"
usage_words (misuse.UnknownCommand (c ∷ word)) = codes "UnknownCommand " ++ (c ∷ word)
usage_words (misuse.BadWords command) = codes "BadWords " ++ command

abbrev pub kind_word : SyntaxKind → List ℕ
kind_word kind.BadByte = codes "BadByte"
kind_word kind.OpenText = codes "OpenText"
kind_word kind.WideNumber = codes "WideNumber"
kind_word kind.RealNumber = codes "RealNumber"
kind_word kind.OtherUnit = codes "OtherUnit"
kind_word kind.Expected = codes "Expected"
kind_word kind.TooDeep = codes "TooDeep"

abbrev pub place_words : Place → List ℕ
place_words at = decimal at.line ++ (codes ":" ++ decimal at.column)

-- a value behind a blank, if there is one
abbrev pub valued : List ℕ → List ℕ
valued [] = []
valued (c ∷ value) = codes " " ++ (c ∷ value)

-- what is told of a file: its path, a kind, a value and a place
abbrev pub told : List ℕ → List ℕ → List ℕ → Place → List ℕ
told path kind value at = path ++ (codes " " ++ (kind ++ (valued value ++ (codes " at " ++ (place_words at ++ codes "\n")))))

abbrev pub line_of : Status → List ℕ
line_of status.Ok = []
line_of status.Memory = []
line_of (status.Usage why) = codes "2 Usage: " ++ (usage_words why ++ codes "\n")
line_of (status.ReadFault path) = codes "3 ReadFault: " ++ (path ++ codes "\n")
line_of (status.WriteFault []) = []
line_of (status.WriteFault (c ∷ path)) = codes "4 WriteFault: " ++ ((c ∷ path) ++ codes "\n")
line_of (status.Syntax what at) = codes "5 Syntax: " ++ (kind_word what ++ (codes " at " ++ (place_words at ++ codes "\n")))
line_of (status.Meta path kind value at) = codes "7 Meta: " ++ told path (meta_word kind) value at
line_of (status.Model path kind value at) = codes "8 Model: " ++ told path (model_word kind) value at
line_of (status.TooLarge what) = codes "14 TooLarge: " ++ (size_words what ++ codes "\n")
line_of (status.NotYet what) = codes "15 NotYet: " ++ (form_word what ++ codes "\n")
