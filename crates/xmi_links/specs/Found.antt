-- What the code's values stand for: tokens with what they name, references, links, and the tables of ids and of ends.
use Rattle.std.specs.Prelude.{◌≡◌, ◌≢◌, ℕ, suc, ◌==◌, ◌&&◌, ◌++◌, Bool, true, false, List, [], ◌∷◌, All, map, filter, flat_map, bytes_eq, codes, Option, Some, None, if◌then◌else◌}
use Rattle.std.specs.HashMap.{get_by}
use Rattle.std.specs.List.{list_any}
use Rattle.std.specs.Option.{option_map_or}
use Rattle.atl_base.specs.declared.numbers.ObjId.{ObjId}
use Rattle.atl_base.specs.XmlText.{IsXmlText}
use Rattle.doc_text.specs.Names.{xmi_space}
use Rattle.ecore_meta.specs.Inheritance.{features}
use Rattle.ecore_meta.specs.declared.parts.Parts.{Parts}
use Rattle.model_store.specs.Contents.{Contents, class_of, is_many, slot}
use Rattle.model_store.specs.Texts.{plain_text}
use Rattle.xmi_text.specs.Markup.{is_called}
use Rattle.xmi_models.specs.Outline.{Entry}
use Rattle.xmi_links.specs.declared.ends.Ends.{Ends}
use Rattle.xmi_links.specs.declared.ids.Bearers.{Bearers}
use Rattle.xmi_links.specs.declared.ids.Bearers.TheVariants as borne
use Rattle.xmi_links.specs.declared.ids.Id.{Id}
use Rattle.xmi_links.specs.declared.ids.Ids.{Ids}
use Rattle.xmi_links.specs.declared.tokens.Named.{Named as CodeNamed}
use Rattle.xmi_links.specs.declared.tokens.Named.TheVariants as code
use Rattle.xmi_links.specs.declared.references.Token.{Token as CodeToken}
use Rattle.xmi_links.specs.declared.references.Reference.{Reference as CodeReference}
use Rattle.xmi_links.specs.declared.links.Link.{Link as CodeLink}
use Rattle.xmi_links.specs.References.{Named, One, Nothing, Nobody, Several, Token, Reference, Link, link, is_id, has_clash}

-- ## Tokens, references and links

abbrev pub named_in : CodeNamed → Named
named_in (code.Object o) = One o
named_in code.NoPath = Nothing
named_in code.NoId = Nobody
named_in code.Several = Several

abbrev pub token_in : CodeToken → Token
token_in t = record { text = t.text.now; named = named_in t.named }

abbrev pub reference_in : CodeReference → Reference
reference_in r = record { source = r.source; feature = r.feature; tokens = map token_in r.tokens.items }

abbrev pub references_in : List CodeReference → List Reference
references_in = map reference_in

-- the tokens of a reference are texts
abbrev pub AreTexts : Reference → Type 0
AreTexts r = All (λ t. IsXmlText t.text) r.tokens

abbrev pub link_in : CodeLink → Link
link_in l = link l.from l.by l.to

abbrev pub links_in : List CodeLink → List Link
links_in = map link_in

-- ## Ids

-- an id and an object that bears it
abbrev pub id_in : Id → List ℕ × ObjId
id_in i = (i.text, i.bearer)

abbrev pub ids_in : List Id → List (List ℕ × ObjId)
ids_in = map id_in

-- those that attributes and values of an object say
abbrev pub value_ids : Contents → ObjId → List (List ℕ × ObjId)
value_ids m o = option_map_or (λ c. flat_map (λ f. if is_id m.meta f then map (λ v. (plain_text m.meta f v, o)) (slot m o f) else []) (features m.meta.classes c)) (class_of m o) []

abbrev pub element_ids : Contents → ObjId → Entry → List (List ℕ × ObjId)
element_ids m o e = map (λ a. (a.value, o)) (filter (is_called xmi_space (codes "id")) e.tag.attributes) ++ value_ids m o

abbrev pub ids_from : Contents → ℕ → List Entry → List (List ℕ × ObjId)
ids_from m n [] = []
ids_from m n (e ∷ es) = element_ids m (record { 0 = n }) e ++ ids_from m (suc n) es

-- one bearer more; an object may bear an id twice
abbrev pub with_bearer : Option Bearers → ObjId → Bearers
with_bearer None o = borne.One o
with_bearer (Some (borne.One p)) o = if p.0 == o.0 then borne.One o else borne.Several
with_bearer (Some borne.Several) o = borne.Several

-- who bears an id, after these ids more
abbrev pub borne_by : List ℕ → Option Bearers → List (List ℕ × ObjId) → Option Bearers
borne_by id known [] = known
borne_by id known (i ∷ ids) = borne_by id (if bytes_eq i.0 id then Some (with_bearer known i.1) else known) ids

-- what a table says of an id
abbrev pub bearers_found : Ids → List ℕ → Option Bearers
bearers_found ids id = get_by (λ k. bytes_eq id k.now) ids.bearers

abbrev pub bearers_kept : List ObjId → Option Bearers
bearers_kept [] = None
bearers_kept (o ∷ []) = Some (borne.One o)
bearers_kept (o ∷ p ∷ os) = Some borne.Several

-- a table says of each id who bears it
abbrev pub AreBearers : (List ℕ → List ObjId) → Ids → Type 0
AreBearers who ids = (id : List ℕ) → bearers_found ids id ≡ bearers_kept (who id)

-- ## Ends

-- what a table says that an end has
abbrev pub end_found : Ends → ℕ → ℕ → Option ℕ
end_found ends o f = get_by (λ k. o == k.0 && f == k.1) ends.given

abbrev pub is_end : ℕ → ℕ → Link → Bool
is_end o f l = l.from.0 == o && l.by.0 == f

-- each of these single ends has its object
abbrev pub AreKept : Parts → Ends → List Link → Type 0
AreKept meta ends [] = Unit {0}
AreKept meta ends (l ∷ ls) = (is_many meta l.by ≡ false → end_found ends l.from.0 l.by.0 ≡ Some l.to.0) × AreKept meta ends ls

-- A table has each single end that was given an object, and all that it was given is that object.
pub record AreEnds (meta : Parts) (before : List Link) (ends : Ends) : Type 0 where
  pub all : AreKept meta ends before
  pub only : (o f : ℕ) → end_found ends o f ≢ None → list_any (is_end o f) before ≡ true

-- These ends are given too, until one clashes with what was given before.
abbrev pub IsGiven : Parts → Ends → List Link → Bool → Ends → Type 0
IsGiven meta old ends clash new = (before : List Link) → AreEnds meta before old → (clash ≡ has_clash meta before ends) × (clash ≡ false → AreEnds meta (before ++ ends) new)

abbrev pub maybe_link : Option CodeLink → List Link
maybe_link (Some l) = link_in l ∷ []
maybe_link None = []
