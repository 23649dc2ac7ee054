-- What the code's scopes stand for: the declarations that are in force at an element, its own first.
use Rattle.std.specs.Prelude.{List, [], ◌++◌}
use Rattle.doc_text.specs.declared.tree.Prefix.{Prefix}
use Rattle.xmi_text.specs.Scopes.{declared_of}
use Rattle.xmi_models.specs.declared.scope.Scope.{Scope, Outside, Within'}

abbrev pub scope_of : Scope → List Prefix
scope_of Outside = []
scope_of (Within' own p outer) = declared_of own ++ scope_of outer
