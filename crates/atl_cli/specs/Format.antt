-- What `format` answers: by the words behind it, and then by the bytes of the file that they name.
use Rattle.std.specs.Prelude.{◌≡◌, ◌⊎◌, ℕ, ◌||◌, ◌==◌, ◌≤◌, ◌<◌, Bool, true, false, List, [], ◌∷◌, Option, Some, IfSome, Result, Ok, Err, if◌then◌else◌, length, take, count_by, nat_lt, codes}
use Rattle.std.specs.Option.{unwrap_or}
use Rattle.std.specs.Str.{chars}
use Rattle.atl_base.specs.XmlText.{IsXmlText, IsFirstOffence}
use Rattle.atl_base.specs.declared.place.Place.{Place}
use Rattle.atl_tree.specs.declared.module.Item.{Item}
use Rattle.atl_tree.specs.declared.module.Item.TheVariants.{Help, Make}
use Rattle.atl_tree.specs.declared.module.Module.{Module}
use Rattle.atl_tree.specs.declared.token.LexRefusal.{LexRefusal}
use Rattle.atl_tree.specs.declared.token.LexRefusal.TheVariants as L
use Rattle.atl_tree.specs.Tokens.{place, after}
use Rattle.atl_outside.specs.Held.{Held, bytes_at}
use Rattle.atl_outside.specs.Rose.{Rose}
use Rattle.ocl_parse.specs.declared.refusal.ParseRefusal.{ParseRefusal}
use Rattle.ocl_parse.specs.declared.refusal.ParseRefusal.TheVariants as R
use Rattle.module_parse.specs.Reading.{module_of_text}
use Rattle.module_print.specs.Printed.{printed}
use Rattle.atl_cli.specs.declared.command.Misuse.TheVariants.{BadWords}
use Rattle.atl_cli.specs.declared.status.Ending.{Ending}
use Rattle.atl_cli.specs.declared.status.Ending.TheVariants as ending
use Rattle.atl_cli.specs.declared.status.Form.TheVariants as form
use Rattle.atl_cli.specs.declared.status.Size.TheVariants.{File, Rules}
use Rattle.atl_cli.specs.declared.status.Status.{Status}
use Rattle.atl_cli.specs.declared.status.Status.TheVariants as status
use Rattle.atl_cli.specs.declared.syntax.SyntaxKind.TheVariants as K
use Rattle.atl_cli.specs.Operands.{operands}
use Rattle.atl_cli.specs.Outcome.{Outcome, Ends, Prints, file_limit, outcome_of}
use Rattle.atl_cli.specs.Source.{behind}

-- ---- the file

-- a byte order mark in front is skipped
abbrev pub without_mark : List ℕ → List ℕ
without_mark bytes = unwrap_or (behind (239 ∷ 187 ∷ 191 ∷ []) bytes) bytes

-- space, tab, line feed, carriage return
abbrev pub is_passed : ℕ → Bool
is_passed c = c == 32 || c == 9 || c == 10 || c == 13

-- behind blanks and line ends the first character is <
abbrev pub opens_element : List ℕ → Bool
opens_element [] = false
opens_element (c ∷ bytes) = if is_passed c then opens_element bytes else c == 60

abbrev pub is_document : List ℕ → Bool
is_document bytes = opens_element (without_mark bytes)

-- the place behind a front part
abbrev pub place_behind : List ℕ → Place
place_behind front = after (place 1 1) (chars (without_mark front))

abbrev pub lex_status : LexRefusal → Status
lex_status (L.BadByte p) = status.Syntax K.BadByte p
lex_status (L.OpenText p) = status.Syntax K.OpenText p
lex_status (L.WideNumber p) = status.Syntax K.WideNumber p
lex_status (L.RealNumber p) = status.Syntax K.RealNumber p
lex_status L.Memory = status.Memory

-- how a refusal of the text ends a call
abbrev pub syntax_status : ParseRefusal → Status
syntax_status (R.Lex e) = lex_status e
syntax_status (R.OtherUnit p) = status.Syntax K.OtherUnit p
syntax_status (R.Expected p) = status.Syntax K.Expected p
syntax_status (R.TooDeep p) = status.Syntax K.TooDeep p
syntax_status R.Memory = status.Memory

abbrev pub is_rule : Item → Bool
is_rule (Help h) = false
is_rule (Make r) = true

abbrev pub rule_count : Module → ℕ
rule_count m = count_by is_rule m.items

-- how many rules a module has at most
abbrev pub rule_limit : ℕ
rule_limit = 1000

-- what a text comes to, by what is read of it
abbrev pub text_outcome : Result Module ParseRefusal → Outcome
text_outcome (Err e) = Ends (syntax_status e)
text_outcome (Ok m) = if nat_lt rule_limit (rule_count m) then Ends (status.TooLarge Rules) else Prints (printed m)

-- What a file of these bytes comes to.
pub data Formats (bytes : List ℕ) : Outcome → Type 0 where
  LongFile : file_limit < length bytes → Formats bytes (Ends (status.TooLarge File))
  IsDocument : length bytes ≤ file_limit → is_document bytes ≡ true → Formats bytes (Ends (status.NotYet form.Module))
  NoText : length bytes ≤ file_limit → is_document bytes ≡ false → (n : ℕ) → IsFirstOffence bytes n
      → Formats bytes (Ends (status.Syntax K.BadByte (place_behind (take n bytes))))
  IsText : length bytes ≤ file_limit → is_document bytes ≡ false → IsXmlText bytes → Formats bytes (text_outcome (module_of_text (chars bytes)))

-- ---- the words, and the run

-- the words name one file
abbrev pub HasFile : List (List ℕ) → List ℕ → Type 0
HasFile words path = operands words ≡ Some (path ∷ [])

abbrev pub HasNoFile : List (List ℕ) → Type 0
HasNoFile words = (path : List ℕ) → HasFile words path → ⊥

abbrev pub bad_words : Status
bad_words = status.Usage (BadWords (codes "format"))

-- What the words behind the command come to, where the files hold these contents.
abbrev pub Judges : List (List ℕ) → Held → Outcome → Type 0
Judges words held o = (HasNoFile words × (o ≡ Ends bad_words)) ⊎ ((path : List ℕ) × HasFile words path × Formats (bytes_at held path) o)

-- How a run ends. Where the files don't tell what they hold, it is as the bytes say that the read gave.
pub data Ended (words : List (List ℕ)) (before : Option Held) (low high : ℕ) : Ending → Type 0 where
  Misused : HasNoFile words → Ended words before low high (ending.Ends bad_words)
  Unread : (path : List ℕ) → HasFile words path → Rose low high → Ended words before low high (ending.Ends (status.ReadFault path))
  Judged : (path bytes : List ℕ) (e : Ending) → HasFile words path → IfSome before (λ held. bytes ≡ bytes_at held path) → Formats bytes (outcome_of e)
      → Ended words before low high e
  NoMemory : Ended words before low high (ending.Ends status.Memory)
