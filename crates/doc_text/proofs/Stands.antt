-- A state, and what was written before it: the invariant of reading.
use Rattle.std.proofs.Common.{◌≡◌, ℕ, List, refl}
use Rattle.std.specs.Prelude.{Bool, true, false, if◌then◌else◌, is_none, Option, Some, None}
use Rattle.atl_base.specs.declared.place.Place.{Place}
use Rattle.doc_text.specs.Symbols.{Blank, Letter, Symbol, mark, is_blank, is_name}
use Rattle.doc_text.specs.Faults.{Fault}
use Rattle.doc_text.specs.Markup.{Run, No, More, Plain, Gap, Tag}
use Rattle.doc_text.specs.Conditions.{passes}
use Rattle.doc_text.specs.State.{State, Step, Goes, Stops, Breaks}
use Rattle.doc_text.specs.Steps.{weighed}
use Rattle.doc_text.specs.Machine.{run}
use Rattle.doc_text.proofs.Zipper.{Part, Zip}
use Rattle.doc_text.proofs.Before.{value, Fits, before}

pub chooses : (P : Step → Type 0) (t : Bool) (x y : Step) → (t ≡ true → P x) → (t ≡ false → P y) → P (if t then x else y)
chooses P true x y f g = f refl
chooses P false x y f g = g refl

abbrev pub with_more : Plain → (s : Symbol) → is_name s.kind ≡ true → Plain
with_more n s h = record { first = n.first; starts = n.starts; others = More n.others s h }

abbrev pub letter : ℕ → Place → Plain
letter c p = record { first = mark p (Letter c); starts = refl; others = No }

abbrev pub gap : Run is_blank → ℕ → Place → Gap
gap run c p = record { blanks = run; last = mark p (Blank c); ends = refl }

abbrev pub tag : Part → Run is_blank → Tag
tag t run = record { less = t.less; name = t.name; attributes = t.attributes; blanks = run }

module _ (strict : Bool) (all : List Symbol → List Symbol) where
  -- a state, and what was written before it
  pub record Stands (s : State) : Type 0 where
    pub zip : Zip
    pub is : value zip ≡ s
    pub fits : Fits strict zip
    pub text : (rest : List Symbol) → before zip rest ≡ all rest

  abbrev pub StepStands : Step → Type 0
  StepStands (Goes s) = Stands s
  StepStands Stops = Unit {0}
  StepStands (Breaks e p) = Unit {0}

  abbrev pub to : (z : Zip) → Fits strict z → ((rest : List Symbol) → before z rest ≡ all rest) → Stands (value z)
  to z f t = record { zip = z; is = refl; fits = f; text = t }

  -- one that is reached where a character passes a test
  pub tests : (t : Bool) (s : State) → (t ≡ true → Stands s) → StepStands (if t then Goes s else Stops)
  tests true s f = f refl
  tests false s f = tt

  pub weighs : (b : Bool) (fault : Option (Fault × Place)) (x : Step) → (passes b (is_none fault) ≡ true → StepStands x) → StepStands (weighed b fault x)
  weighs false fault x f = f refl
  weighs true None x f = f refl
  weighs true (Some g) x f = tt
