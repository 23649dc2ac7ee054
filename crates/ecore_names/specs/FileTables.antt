-- What the tables of a file say: what each class declares, the literals of each enumeration, and the classifiers.
use Rattle.std.specs.Prelude.{◌≡◌, List, map}
use Rattle.ecore_names.specs.declared.owns.Owns.{Owns}
use Rattle.ecore_names.specs.declared.literals.Literals.{Literals}
use Rattle.ecore_names.specs.declared.classifiers.Classifier.{Classifier as CodeClassifier}
use Rattle.ecore_names.specs.declared.classifiers.Targets.{Targets}
use Rattle.ecore_outline.specs.Outline.{Entry}
use Rattle.ecore_names.specs.Targets.{own_of, target_of}
use Rattle.ecore_names.specs.DataTypes.{data_type_of}
use Rattle.xmi_text.specs.Keys.{AreFirsts}
use Rattle.ecore_names.specs.Owns.{owns_of, row_key, row_own}
use Rattle.ecore_names.specs.Literals.{literal_keys, key_text, enum_key}
use Rattle.ecore_names.specs.Classifiers.{classifiers_in, holders_in, Row, row_in, named, numbered, aliased}

pub record AreOwns (file : List Entry) (t : Owns) : Type 0 where
  pub places : AreFirsts t.places (map row_key (owns_of file))
  pub owns : map own_of t.owns.items ≡ map row_own (owns_of file)

pub record AreLiterals (file : List Entry) (t : Literals) : Type 0 where
  pub texts : map (λ x. x.now) t.texts.items ≡ map key_text (literal_keys file)
  pub places : AreFirsts t.places (literal_keys file)
  pub begins : AreFirsts t.begins (map enum_key (literal_keys file))

abbrev pub row_of : CodeClassifier → Row
row_of c = record { name = c.name.now; number = c.number; alias = c.alias; target = target_of c.target; gives = data_type_of c.gives }

abbrev pub rows_of : List CodeClassifier → List Row
rows_of = map row_of

abbrev pub rows_in : List Entry → List Row
rows_in file = map (row_in (holders_in file)) (classifiers_in file)

pub record AreTargets (file : List Entry) (t : Targets) : Type 0 where
  pub rows : rows_of t.rows.items ≡ rows_in file
  pub holders : AreFirsts t.holders (holders_in file)
  pub names : AreFirsts t.names (map named (rows_in file))
  pub numbers : AreFirsts t.numbers (map numbered (rows_in file))
  pub aliases : AreFirsts t.aliases (map aliased (rows_in file))
