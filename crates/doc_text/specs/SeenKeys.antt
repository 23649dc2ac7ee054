-- The key of an attribute, as the code holds it.
use Rattle.doc_text.specs.Keys.{Key}
use Rattle.doc_text.specs.declared.reading.keys.Key.{Key as SomeKey}

abbrev pub key_in : SomeKey → Key
key_in k = record { declares = k.declares; space = k.space.now; local = k.local.now }
