-- How bytes are written where they can't stand for themselves: as references (XML 1.0, sections 4.1 and 4.6).
use Rattle.std.specs.Prelude.{ℕ, ◌==◌, List, [], ◌∷◌, if◌then◌else◌, codes}
use Rattle.doc_text.specs.declared.escape.Escapes.{Escapes}
use Rattle.doc_text.specs.declared.escape.Escapes.TheVariants.{Value, Text}

-- in an attribute's value: what would end it, or be read as another byte; in an element's text likewise
abbrev pub escaped : Escapes → ℕ → List ℕ
escaped Value c = if c == 38 then codes "&amp;" else if c == 60 then codes "&lt;" else if c == 13 then codes "&#xD;"
    else if c == 34 then codes "&quot;" else if c == 9 then codes "&#x9;" else if c == 10 then codes "&#xA;" else c ∷ []
escaped Text c = if c == 38 then codes "&amp;" else if c == 60 then codes "&lt;" else if c == 13 then codes "&#xD;"
    else if c == 62 then codes "&gt;" else c ∷ []
