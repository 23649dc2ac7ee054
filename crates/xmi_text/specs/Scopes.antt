-- What the code's scopes stand for: the declarations that are in force at an element.
use Rattle.std.specs.Prelude.{◌≡◌, List, [], ◌++◌}
use Rattle.doc_text.specs.declared.tree.Prefix.{Prefix}
use Rattle.xmi_text.specs.declared.level.Declared.{Declared}
use Rattle.xmi_text.specs.declared.level.Declared.TheVariants.{Few, Many}
use Rattle.xmi_text.specs.declared.scope.Scope.{Scope}

abbrev pub declared_of : Declared → List Prefix
declared_of (Few d) = d.now
declared_of (Many l) = l.now

-- the declarations of an element, of its parent, and so on
abbrev pub scope_of : Scope → List Prefix
scope_of s = declared_of s.first ++ (declared_of s.second ++ (declared_of s.third ++ (declared_of s.fourth ++ (declared_of s.fifth ++ declared_of s.sixth))))

-- an element may stand one level below, or so many
abbrev pub Leaves1 : Scope → Type 0
Leaves1 s = declared_of s.sixth ≡ []

abbrev pub Leaves2 : Scope → Type 0
Leaves2 s = (declared_of s.fifth ≡ []) × Leaves1 s

abbrev pub Leaves3 : Scope → Type 0
Leaves3 s = (declared_of s.fourth ≡ []) × Leaves2 s

abbrev pub Leaves4 : Scope → Type 0
Leaves4 s = (declared_of s.third ≡ []) × Leaves3 s

abbrev pub Leaves5 : Scope → Type 0
Leaves5 s = (declared_of s.second ≡ []) × Leaves4 s
