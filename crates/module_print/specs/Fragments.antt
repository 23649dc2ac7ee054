-- The text of the parts of declarations, with a blank behind each mark.
use Rattle.std.specs.Prelude.{ℕ, false, List, [], ◌∷◌, ◌++◌, codes}
use Rattle.std.specs.List.{flat_map}
use Rattle.atl_tree.specs.declared.name.Name.{Name}
use Rattle.atl_tree.specs.declared.name.ClassRef.{ClassRef}
use Rattle.atl_tree.specs.declared.module.Module.{Module}
use Rattle.atl_tree.specs.declared.module.Rule.{Rule}
use Rattle.atl_tree.specs.declared.module.ModelDecl.{ModelDecl}
use Rattle.atl_tree.specs.declared.module.Param.{Param}
use Rattle.atl_tree.specs.declared.module.Pattern.{Pattern}
use Rattle.atl_tree.specs.declared.module.LocalVar.{LocalVar}
use Rattle.atl_tree.specs.declared.module.Target.{Target}
use Rattle.atl_tree.specs.declared.module.Bind.{Bind}
use Rattle.module_print.specs.Printed.{name_text}
use Rattle.module_grammar.specs.Grammar.{models_marks, bracketed_marks, words_marks, parent_marks, using_marks, list_marks, to_marks, block_marks}
use Rattle.module_print.specs.Writing.{models_written, bracketed_written, abstract_words, sort_words, parent_written, using_written, list_written, to_written, block_written}
use Rattle.module_print.specs.Pending.{spaced, kind_text, expr_text}

-- a token, before what follows
abbrev pub token : List ℕ → List ℕ → List ℕ
token text rest = text ++ (32 ∷ rest)

abbrev pub comma : List ℕ → List ℕ
comma text = token (codes ",") text

abbrev pub model_text : ModelDecl → List ℕ
model_text d = token (name_text d.model.text) (token (codes ":") (token (name_text d.meta.text) []))

abbrev pub param_text : Param → List ℕ
param_text p = token (name_text p.name.text) (token (codes ":") (kind_text p.kind))

abbrev pub class_text : ClassRef → List ℕ
class_text c = token (name_text c.meta) (token (codes "!") (token (name_text c.class) []))

abbrev pub source_text : Pattern → List ℕ
source_text p = token (name_text p.name.text) (token (codes ":") (class_text p.class))

abbrev pub local_text : LocalVar → List ℕ
local_text v = token (name_text v.name.text) (token (codes ":") (kind_text v.kind ++ token (codes "=") (expr_text false 0 v.value ++ token (codes ";") [])))

abbrev pub bind_text : Bind → List ℕ
bind_text b = token (name_text b.feature.text) (token (codes "<-") (expr_text false 0 b.value))

abbrev pub target_text : Target → List ℕ
target_text t = token (name_text t.name.text) (token (codes ":") (class_text t.class ++ spaced (list_marks (list_written t.binds))))

-- using, to and do, and the end of a rule's line
abbrev pub rest_text : Rule → List ℕ
rest_text r = spaced (using_marks (using_written r.locals)) ++ (spaced (to_marks (to_written r.targets)) ++ (spaced (block_marks (block_written r.block)) ++ codes "}\n"))

-- a rule with sources up to its brace, and one without from `rule` on
abbrev pub head_text : Rule → List ℕ
head_text r = spaced (words_marks (sort_words r.sort (abstract_words r.is_abstract))) ++ token (codes "rule") (token (name_text r.name.text) (spaced (parent_marks (parent_written r.parent))))

abbrev pub called_text : Rule → List ℕ
called_text r = token (codes "rule") (token (name_text r.name.text) (spaced (bracketed_marks (bracketed_written r.params)) ++ token (codes "{") (rest_text r)))

-- parameters with commas between
abbrev pub params_text : List Param → List ℕ
params_text [] = []
params_text (p ∷ ps) = param_text p ++ flat_map (λ q. comma (param_text q)) ps

abbrev pub first_line : Name → List ℕ
first_line n = token (codes "module") (token (name_text n.text) (codes ";\n"))

abbrev pub second_line : Module → List ℕ
second_line m = token (codes "create") (spaced (models_marks (models_written m.targets)) ++ token (codes "from") (spaced (models_marks (models_written m.sources)) ++ codes ";\n"))
