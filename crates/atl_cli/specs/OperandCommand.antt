-- The command as clap sees it: its only argument takes all operands.
use Rattle.std.specs.Prelude.{◌≢◌, true, List, [], ◌∷◌, Option, None, Some, codes}
use Rattle.atl_base.specs.XmlText.{IsXmlText}
use Rattle.clap.specs.Lexer.{usize_max}
use Rattle.clap.specs.Simple.{App, new_rule, new_shape}
use Rattle.clap.specs.Walk.{Rule, Text}
use Rattle.clap.specs.declared.builder.action.ArgAction.TheVariants.{Append}

abbrev pub operand_rule : Rule
operand_rule = record (new_rule (codes "operands")) { action = Some Append; range = Some (record { start_inclusive = 1; end_inclusive = usize_max }) }

abbrev pub operand_app : App
operand_app = record { top = record (new_shape (codes "operands")) { rules = operand_rule ∷ []; no_binary_name = true; disable_help_flag = true }; subs = [] }

-- the values that an argument has, if any
abbrev pub listed : Option (List Text) → List Text
listed None = []
listed (Some vs) = vs

-- a word that is a text and not empty
abbrev pub IsWord : Text → Type 0
IsWord w = (w ≢ []) × IsXmlText w
