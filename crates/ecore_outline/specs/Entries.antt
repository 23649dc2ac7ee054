-- What the code's entries stand for: the same part and element, with the declarations that are in force at it.
use Rattle.std.specs.Prelude.{List, map}
use Rattle.ecore_outline.specs.declared.outline.Entry.{Entry as CodeEntry}
use Rattle.ecore_outline.specs.Outline.{Entry, entry}
use Rattle.xmi_text.specs.Scopes.{scope_of}

abbrev pub entry_of : CodeEntry → Entry
entry_of e = entry e.role (record { element = e.element.now; scope = scope_of e.scope })

abbrev pub entries_of : List CodeEntry → List Entry
entries_of = map entry_of
