-- The machine's steps at a character, by what the code tests of it.
use Rattle.std.proofs.Common.{◌≡◌, ℕ, List, [], ◌++◌, refl}
use Rattle.std.specs.Prelude.{Bool, true, false}
use Rattle.atl_base.specs.declared.place.Place.{Place}
use Rattle.doc_text.specs.Raw.{Name, called, Start}
use Rattle.doc_text.specs.Symbols.{Kind, Less, And, Quote, Apostrophe, Colon, Dash, Letter, Joint, Bad, utf8, is_name, is_value, is_quote, is_colon, is_and}
use Rattle.doc_text.specs.Markup.{value_bytes}
use Rattle.doc_text.specs.State.{Open, Bearer, Naming, Coloned, Valued, Valuing, Citation, InValue, Nameless, Goes, Stops}
use Rattle.doc_text.specs.Steps.{step, named, in_value, further}
use Rattle.doc_text.proofs.Runs.{false-true, true-false}

pub name_colon : (b : Bearer) (p : Place) (n : List ℕ) (k : Kind) (q : Place) → is_colon k ≡ true → step true (Naming b p n) k q ≡ Goes (Coloned b p n)
name_colon b p n Colon q h = refl
name_colon b p n k q h = absurd (false-true h)

pub name_goes : (b : Bearer) (p : Place) (n : List ℕ) (k : Kind) (q : Place) → is_name k ≡ true → step true (Naming b p n) k q ≡ Goes (Naming b p (n ++ utf8 k))
name_goes b p n (Letter c) q h = refl
name_goes b p n (Joint c) q h = refl
name_goes b p n Dash q h = refl
name_goes b p n k q h = absurd (false-true h)

pub name_over : (b : Bearer) (p : Place) (n : List ℕ) (k : Kind) (q : Place) → is_colon k ≡ false → is_name k ≡ false → step true (Naming b p n) k q ≡ named true b (called p [] n) k
name_over b p n Colon q h i = absurd (true-false h)
name_over b p n (Letter c) q h i = absurd (true-false i)
name_over b p n (Joint c) q h i = absurd (true-false i)
name_over b p n Dash q h i = absurd (true-false i)
name_over b p n k q h i = refl

pub value_step : (d : Bool) (fs : List Open) (t : Start) (n : Name) (v : List ℕ) (k : Kind) (p : Place) → is_value d k ≡ true → in_value d fs t n v k p ≡ Goes (Valuing d fs t n (v ++ value_bytes k))
value_step d fs t n v And p h = absurd (false-true h)
value_step true fs t n v Quote p h = absurd (false-true h)
value_step false fs t n v Quote p h = refl
value_step true fs t n v Apostrophe p h = refl
value_step false fs t n v Apostrophe p h = absurd (false-true h)
value_step d fs t n v Less p h = absurd (false-true h)
value_step d fs t n v Bad p h = absurd (false-true h)
value_step true fs t n v k p h = refl
value_step false fs t n v k p h = refl

pub value_closed : (d : Bool) (fs : List Open) (t : Start) (n : Name) (v : List ℕ) (k : Kind) (p : Place) → is_quote d k ≡ true → in_value d fs t n v k p ≡ Goes (Valued fs (further t n v))
value_closed true fs t n v Quote p h = refl
value_closed false fs t n v Apostrophe p h = refl
value_closed true fs t n v k p h = absurd (false-true h)
value_closed false fs t n v k p h = absurd (false-true h)

pub value_cites : (d : Bool) (fs : List Open) (t : Start) (n : Name) (v : List ℕ) (k : Kind) (p : Place) → is_and k ≡ true → in_value d fs t n v k p ≡ Goes (Citation (InValue d fs t n v) p Nameless)
value_cites true fs t n v And p h = refl
value_cites false fs t n v And p h = refl
value_cites d fs t n v k p h = absurd (false-true h)

pub value_stops : (d : Bool) (fs : List Open) (t : Start) (n : Name) (v : List ℕ) (k : Kind) (p : Place) → is_value d k ≡ false → is_quote d k ≡ false → is_and k ≡ false → in_value d fs t n v k p ≡ Stops
value_stops d fs t n v And p h i j = absurd (true-false j)
value_stops true fs t n v Quote p h i j = absurd (true-false i)
value_stops false fs t n v Quote p h i j = absurd (true-false h)
value_stops true fs t n v Apostrophe p h i j = absurd (true-false h)
value_stops false fs t n v Apostrophe p h i j = absurd (true-false i)
value_stops true fs t n v Less p h i j = refl
value_stops false fs t n v Less p h i j = refl
value_stops true fs t n v Bad p h i j = refl
value_stops false fs t n v Bad p h i j = refl
value_stops d fs t n v k p h i j = absurd (true-false h)
