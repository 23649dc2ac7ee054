-- What one more character is for a word of the declaration that has been read up to some place.
use Rattle.doc_text.specs.State.{State, Step, Goes, Stops}
use Rattle.doc_text.specs.declared.reading.declaration.Spelling.{Spelling}
use Rattle.doc_text.specs.declared.reading.declaration.Spelling.TheVariants.{Over, More, Wrong}

-- the word is over before it, or goes on with it, or has another one there
abbrev pub spelt_on : Spelling → State → Step → Step
spelt_on Over more over = over
spelt_on More more over = Goes more
spelt_on Wrong more over = Stops
