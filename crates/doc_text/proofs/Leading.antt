-- Where reading is led by a text, whatever the places of its characters: the logic in which written text is read again.
use Rattle.std.proofs.Common.{◌≡◌, ℕ, List, [], ◌∷◌, ◌++◌, refl, sym, ap, ◌∙◌, subst}
use Rattle.std.specs.Prelude.{Bool, true, ◌&&◌, encode_utf8_all, nat_lt, not, ◌==◌}
use Rattle.std.specs.List.{list_all}
use Rattle.std.proofs.lemmas.Bool.{and_parts, and_from, ltb-true}
use Rattle.std.proofs.lemmas.List.Folds.{list_all-append}
use Rattle.std.proofs.lemmas.Str.{encode_ascii, encodes-append, encodes_same}
use Rattle.atl_base.specs.declared.place.Place.{Place}
use Rattle.atl_base.specs.XmlText.{is_xml_character}
use Rattle.doc_text.specs.Characters.{place}
use Rattle.doc_text.specs.Symbols.{kind_of}
use Rattle.doc_text.specs.State.{State, Goes}
use Rattle.doc_text.specs.Steps.{step}

-- from this state these characters, wherever they stand, lead to one of those states
abbrev pub Leads : State → List ℕ → (State → Type 0) → Type 0
Leads s [] P = P s
Leads s (c ∷ cs) P = (p : Place) → (u : State) × (step true s (kind_of c) p ≡ Goes u) × Leads u cs P

-- it leads somewhere
pub reaches : (s : State) (cs : List ℕ) (P : State → Type 0) → Leads s cs P → (u : State) × P u
reaches s [] P l = (s, l)
reaches s (c ∷ cs) P l = let k = l (place 1 1) in reaches k.0 cs P k.2

pub leads_on : (s : State) (xs ys : List ℕ) (P Q : State → Type 0) → Leads s xs P → ((u : State) → P u → Leads u ys Q) → Leads s (xs ++ ys) Q
leads_on s [] ys P Q l f = f s l
leads_on s (x ∷ xs) ys P Q l f = λ p. let k = l p in (k.0, k.1, leads_on k.0 xs ys P Q k.2 f)

pub leads_to : (s : State) (xs : List ℕ) (P Q : State → Type 0) → Leads s xs P → ((u : State) → P u → Q u) → Leads s xs Q
leads_to s [] P Q l f = f s l
leads_to s (x ∷ xs) P Q l f = λ p. let k = l p in (k.0, k.1, leads_to k.0 xs P Q k.2 f)

-- a character that stands in written text: there is no carriage return
abbrev pub is_written : ℕ → Bool
is_written c = is_xml_character c && not (c == 13)

-- The same by bytes: they are the UTF-8 of characters that lead there.
pub record Reads (s : State) (bytes : List ℕ) (P : State → Type 0) : Type 0 where
  pub characters : List ℕ
  pub spelt : encode_utf8_all characters ≡ bytes
  pub written : list_all is_written characters ≡ true
  pub leads : Leads s characters P

pub nothing : (s : State) (P : State → Type 0) → P s → Reads s [] P
nothing s P h = record { characters = []; spelt = refl; written = refl; leads = h }

pub reads_to : (s : State) (bytes : List ℕ) (P Q : State → Type 0) → Reads s bytes P → ((u : State) → P u → Q u) → Reads s bytes Q
reads_to s bytes P Q r f = record { characters = r.characters; spelt = r.spelt; written = r.written; leads = leads_to s r.characters P Q r.leads f }

pub reads_on : (s : State) (xs ys : List ℕ) (P Q : State → Type 0) → Reads s xs P → ((u : State) → P u → Reads u ys Q) → Reads s (xs ++ ys) Q
reads_on s xs ys P Q r f =
    let k = reaches s r.characters P r.leads in
    let g = f k.0 k.1 in
    record {
      characters = r.characters ++ g.characters;
      spelt = encodes-append r.characters g.characters ∙ ap (λ l. l ++ encode_utf8_all g.characters) r.spelt ∙ ap (λ l. xs ++ l) g.spelt;
      written = list_all-append is_written r.characters g.characters ∙ and_from _ _ r.written g.written;
      leads = leads_on s r.characters g.characters P Q r.leads (λ u h. let e = f u h in subst (λ cs. Leads u cs Q) (encodes_same e.characters g.characters (e.spelt ∙ sym g.spelt)) e.leads);
    }

-- characters of ASCII are their own bytes
abbrev pub is_plain : ℕ → Bool
is_plain c = nat_lt c 128 && is_written c

plain_spelt : (cs : List ℕ) → list_all is_plain cs ≡ true → encode_utf8_all cs ≡ cs
plain_spelt [] h = refl
plain_spelt (c ∷ cs) h =
    let k = and_parts (is_plain c) (list_all is_plain cs) h in
    ap (λ l. l ++ encode_utf8_all cs) (encode_ascii c (ltb-true c 128 (and_parts (nat_lt c 128) (is_written c) k.0).0))
    ∙ ap (λ l. c ∷ l) (plain_spelt cs k.1)

plain_written : (cs : List ℕ) → list_all is_plain cs ≡ true → list_all is_written cs ≡ true
plain_written [] h = refl
plain_written (c ∷ cs) h =
    let k = and_parts (is_plain c) (list_all is_plain cs) h in
    and_from (is_written c) (list_all is_written cs) (and_parts (nat_lt c 128) (is_written c) k.0).1 (plain_written cs k.1)

pub plainly : (s : State) (cs : List ℕ) (P : State → Type 0) → list_all is_plain cs ≡ true → Leads s cs P → Reads s cs P
plainly s cs P h l = record { characters = cs; spelt = plain_spelt cs h; written = plain_written cs h; leads = l }
