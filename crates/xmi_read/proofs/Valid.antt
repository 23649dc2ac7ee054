-- A file without faults is a metamodel.
use Rattle.std.proofs.Common.{◌≡◌, subst, List}
use Rattle.std.specs.Prelude.{None, false}
use Rattle.doc_text.specs.declared.tree.Doc.{Doc}
use Rattle.ecore_meta.specs.Valid.{ArePlaces, IsMetamodel}
use Rattle.ecore_outline.specs.Outline.{Entry, outline, is_package_role, is_class_role}
use Rattle.xmi_read.specs.Parts.{parts_of}
use Rattle.ecore_faults.specs.Faults.{first_fault}
use Rattle.ecore_outline.proofs.Behind.{Behind, is_member_role, classes_behind, members_behind}
use Rattle.xmi_read.proofs.Defaults.{kinds, defaults}
use Rattle.xmi_read.proofs.Naming.{names}
use Rattle.xmi_read.proofs.Opposites.{opposites}
use Rattle.xmi_read.proofs.Owners.{class_packages, feature_owners, skipped_owners, owners, own_differ, own_within}
use Rattle.xmi_read.proofs.Seen.{seen_differ}
use Rattle.xmi_read.proofs.Supers.{acyclic, supers_within}
use Rattle.xmi_read.proofs.Tables.{tables, the_parts}
use Rattle.xmi_read.proofs.Twice.{uris, prefixes, classifiers, literals_differ}

module _ (file : List Entry) (packaged : Behind is_package_role is_class_role false file) (ordered : Behind is_class_role is_member_role false file) (none : first_fault file ≡ None) where
  places : ArePlaces (tables file)
  places = record {
    packages = class_packages file packaged;
    supers = supers_within file;
    own = own_within file ordered;
    owners = feature_owners file ordered;
    kinds = kinds file;
    skipped = skipped_owners file ordered;
  }

  tables_valid : IsMetamodel (tables file)
  tables_valid = record {
    places = places;
    acyclic = acyclic file none;
    owners = owners file ordered;
    own_differ = own_differ file;
    seen_differ = seen_differ file none ordered;
    defaults = defaults file none;
    opposites = opposites file none;
    classifiers_differ = classifiers file none;
    literals_differ = literals_differ file none;
    uris_differ = uris file none;
    prefixes_differ = prefixes file none;
    names = names file none;
  }

  valid : IsMetamodel (parts_of file)
  valid = subst IsMetamodel (the_parts file) tables_valid

pub outline_valid : (doc : Doc) → first_fault (outline doc) ≡ None → IsMetamodel (parts_of (outline doc))
outline_valid doc none = valid (outline doc) (classes_behind doc) (members_behind doc) none
