-- What reading a model answers: the model that the document stands for where nothing is wrong in it, else the first thing that is
-- wrong, with its value and place: first of all in the elements, and then in the references. Memory may be refused at any time.
use Rattle.std.specs.Prelude.{◌≡◌, ℕ, List, Option, Some, None, Result, Ok, Err}
use Rattle.std.specs.Option.{option_map_or}
use Rattle.atl_base.specs.declared.place.Place.{Place}
use Rattle.doc_text.specs.declared.tree.Doc.{Doc}
use Rattle.ecore_meta.specs.declared.parts.Parts.{Parts}
use Rattle.model_store.specs.Contents.{Contents}
use Rattle.xmi_models.specs.Outline.{Entry, outline}
use Rattle.xmi_models.specs.Faults.{Fault, element_fault}
use Rattle.xmi_models.specs.declared.fault.Kind.TheVariants.{NoClass as HasNoClass, Abstract as IsAbstract, NoFeature as IsNoFeature, StrayText as HasStrayText, BadValue as HasBadValue, Href as HasHref, BadType as HasBadType, Full as IsFull, BadPath as HasBadPath, NoId as HasNoId, TwiceId as IsTwiceId, TwoContainers as HasTwoContainers, TwoEnds as HasTwoEnds}
use Rattle.xmi_models.specs.declared.fault.FoundFault.{FoundFault}
use Rattle.xmi_models.specs.declared.outline.File.{File}
use Rattle.xmi_models.specs.Entries.{entries_of}
use Rattle.xmi_models.specs.FoundFaults.{fault_of}
use Rattle.xmi_links.specs.declared.refusal.ModelRefusal.{ModelRefusal}
use Rattle.xmi_links.specs.declared.refusal.ModelRefusal.TheVariants.{NoClass, Abstract, NoFeature, StrayText, BadValue, Href, BadType, Full, BadPath, NoId, TwiceId, TwoContainers, TwoEnds, Document, Memory}
use Rattle.xmi_links.specs.References.{reference_fault}
use Rattle.xmi_links.specs.ModelOf.{model_of}

-- the first thing wrong in a file
abbrev pub file_fault : Parts → List Entry → Option (Fault × Place)
file_fault meta file = option_map_or Some (element_fault meta file) (reference_fault meta file)

-- the first fault that a refusal tells; what is no fault of a document tells nothing that could be first
abbrev pub IsTold : Option (Fault × Place) → ModelRefusal → Type 0
IsTold first (NoClass value place) = first ≡ Some ((HasNoClass, value), place)
IsTold first (Abstract value place) = first ≡ Some ((IsAbstract, value), place)
IsTold first (NoFeature value place) = first ≡ Some ((IsNoFeature, value), place)
IsTold first (StrayText value place) = first ≡ Some ((HasStrayText, value), place)
IsTold first (BadValue value place) = first ≡ Some ((HasBadValue, value), place)
IsTold first (Href value place) = first ≡ Some ((HasHref, value), place)
IsTold first (BadType value place) = first ≡ Some ((HasBadType, value), place)
IsTold first (Full place) = (value : List ℕ) × (first ≡ Some ((IsFull, value), place))
IsTold first (BadPath value place) = first ≡ Some ((HasBadPath, value), place)
IsTold first (NoId value place) = first ≡ Some ((HasNoId, value), place)
IsTold first (TwiceId value place) = first ≡ Some ((IsTwiceId, value), place)
IsTold first (TwoContainers value place) = first ≡ Some ((HasTwoContainers, value), place)
IsTold first (TwoEnds value place) = first ≡ Some ((HasTwoEnds, value), place)
IsTold first (Document refusal) = ⊥
IsTold first Memory = Unit {0}

-- what a document's elements are, where nothing is wrong in them
abbrev pub IsFaultlessFile : Parts → Doc → Result File FoundFault → Type 0
IsFaultlessFile meta doc (Ok file) = (entries_of file.entries.items ≡ outline meta doc) × (element_fault meta (outline meta doc) ≡ None)
IsFaultlessFile meta doc (Err found) = element_fault meta (outline meta doc) ≡ Some (fault_of found.fault, found.place)

-- where nothing is wrong in the elements of a file
abbrev pub IsLinkedAnswer : Parts → List Entry → Result Contents ModelRefusal → Type 0
IsLinkedAnswer meta file (Ok model) = (reference_fault meta file ≡ None) × (model ≡ model_of meta file)
IsLinkedAnswer meta file (Err refusal) = IsTold (reference_fault meta file) refusal

abbrev pub IsModelAnswer : Doc → Parts → Result Contents ModelRefusal → Type 0
IsModelAnswer doc meta (Ok model) = (file_fault meta (outline meta doc) ≡ None) × (model ≡ model_of meta (outline meta doc))
IsModelAnswer doc meta (Err refusal) = IsTold (file_fault meta (outline meta doc)) refusal
