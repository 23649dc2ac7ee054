-- What reading a metamodel answers: the metamodel that the file stands for where nothing is wrong in it, else the first thing
-- that is wrong, with its value and place. Memory may be refused at any time.
use Rattle.std.specs.Prelude.{◌≡◌, Option, Some, None, Result, Ok, Err}
use Rattle.atl_base.specs.declared.place.Place.{Place}
use Rattle.doc_text.specs.declared.tree.Doc.{Doc}
use Rattle.ecore_meta.specs.declared.parts.Parts.{Parts}
use Rattle.xmi_read.specs.declared.refusal.MetaRefusal.{MetaRefusal}
use Rattle.xmi_read.specs.declared.refusal.MetaRefusal.TheVariants.{NotEcore, SubPackage, Generic, NoName, TwiceName, OtherFile, NoType, SuperCycle, BadOpposite, BadNumber, Document, Memory}
use Rattle.ecore_outline.specs.Outline.{outline}
use Rattle.ecore_faults.specs.declared.fault.Kind.TheVariants.{NotEcore as IsNotEcore, SubPackage as IsSubPackage, Generic as IsGeneric, NoName as HasNoName, TwiceName as IsTwiceName, OtherFile as IsOtherFile, NoType as HasNoType, SuperCycle as IsSuperCycle, BadOpposite as IsBadOpposite, BadNumber as IsBadNumber}
use Rattle.ecore_faults.specs.Faults.{Fault, first_fault}
use Rattle.xmi_read.specs.Parts.{parts_of}

-- the first fault that a refusal tells; what is no fault of a document tells nothing that could be first
abbrev pub IsTold : Option (Fault × Place) → MetaRefusal → Type 0
IsTold first (NotEcore value place) = first ≡ Some ((IsNotEcore, value), place)
IsTold first (SubPackage value place) = first ≡ Some ((IsSubPackage, value), place)
IsTold first (Generic value place) = first ≡ Some ((IsGeneric, value), place)
IsTold first (NoName value place) = first ≡ Some ((HasNoName, value), place)
IsTold first (TwiceName value place) = first ≡ Some ((IsTwiceName, value), place)
IsTold first (OtherFile value place) = first ≡ Some ((IsOtherFile, value), place)
IsTold first (NoType value place) = first ≡ Some ((HasNoType, value), place)
IsTold first (SuperCycle value place) = first ≡ Some ((IsSuperCycle, value), place)
IsTold first (BadOpposite value place) = first ≡ Some ((IsBadOpposite, value), place)
IsTold first (BadNumber value place) = first ≡ Some ((IsBadNumber, value), place)
IsTold first (Document refusal) = ⊥
IsTold first Memory = Unit {0}

abbrev pub IsMetaAnswer : Doc → Result Parts MetaRefusal → Type 0
IsMetaAnswer doc (Ok meta) = (first_fault (outline doc) ≡ None) × (meta ≡ parts_of (outline doc))
IsMetaAnswer doc (Err refusal) = IsTold (first_fault (outline doc)) refusal
