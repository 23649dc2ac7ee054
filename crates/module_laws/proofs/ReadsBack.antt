-- A well-formed module is read back from its canonical text, and what is read from a text is well-formed.
use Rattle.std.proofs.Common.{◌≡◌, ℕ, List, Ok, Err, true, false, refl, sym, ap, subst, ◌∙◌}
use Rattle.std.specs.Prelude.{Result, length}
use Rattle.atl_base.specs.declared.place.Place.{Place}
use Rattle.atl_tree.specs.declared.token.Token.{Token}
use Rattle.atl_tree.specs.declared.token.Tokens.{Tokens}
use Rattle.atl_tree.specs.declared.token.LexRefusal.{LexRefusal}
use Rattle.atl_tree.specs.declared.module.Module.{Module}
use Rattle.atl_tree.specs.Front.{front_of}
use Rattle.atl_tree.specs.Tokens.{tokens_of}
use Rattle.ocl_parse.specs.declared.refusal.ParseRefusal.{ParseRefusal}
use Rattle.module_grammar.specs.Marks.{marks}
use Rattle.module_grammar.specs.Grammar.{WrittenModule, ModuleFits, IsModule, module_tree}
use Rattle.module_states.specs.Machine.{End, Read, Expected, Deep, read}
use Rattle.module_print.specs.Writing.{module_written}
use Rattle.module_laws.specs.Places.{placed_module}
use Rattle.module_parse.specs.Reading.{told, parsed, module_of_text}
use Rattle.module_laws.specs.Held.{AreHeld, IsWellFormed}
use Rattle.module_laws.specs.ReadBack.{AreSame, HasItsMarks, IsReadBack, IsReadAgain, GivesWellFormed}
use Rattle.module_laws.specs.Laws.{Tells}
use Rattle.module_laws.proofs.Accepts.{accepts}
use Rattle.module_laws.proofs.Main.{exact, loosened}
use Rattle.module_laws.proofs.SaysModules.{module_says}
use Rattle.module_laws.proofs.HeldTokens.{held_tokens}
use Rattle.module_laws.proofs.ShallowModules.{module_shallow}
use Rattle.module_laws.proofs.WrittenModules.{FineModule, module_good}
use Rattle.module_laws.proofs.Refills.{keep_module}
use Rattle.module_laws.proofs.PrintedTokens.{canonical_characters, printed_tokens}

module_or : Module → Result Module ParseRefusal → Module
module_or d (Ok m) = m
module_or d (Err e) = d

told_so : (ts : List Token) (end : Place) (v : End) (m : Module) → told ts end v ≡ Ok m → v ≡ Read m
unfolding module_or
told_so ts end (Read k) m h = ap (λ r. Read (module_or m r)) h
told_so ts end (Expected rest) m h = absurd cc
told_so ts end (Deep p) m h = absurd cc

-- the text's tokens, and what is read from their marks
abbrev IsFrom : List ℕ → Module → Type 0
IsFrom text m = (l : Tokens) × (tokens_of text ≡ Ok l) × (read true (marks false l.list) ≡ Read m)

from_tokens : (text : List ℕ) (m : Module) → module_of_text text ≡ Ok m → IsFrom text m
from_tokens text m h = on (tokens_of text) refl h
  where
    on : (r : Result Tokens LexRefusal) → tokens_of text ≡ r → parsed (front_of text) r ≡ Ok m → IsFrom text m
    on (Ok l) q k = (l, q, told_so l.list l.end (read true (marks false l.list)) m k)
    on (Err e) q k = absurd cc

-- what is read from a text is canonically written within the limit of depth
stays_shallow : (text : List ℕ) (m : Module) → module_of_text text ≡ Ok m → ModuleFits true (module_written m)
stays_shallow text m h =
    let x = from_tokens text m h in
    let w : IsModule true (marks false x.0.list) m = subst (Tells (marks false x.0.list)) x.2 (exact (marks false x.0.list)).tells in
    subst (λ k. ModuleFits true (module_written k)) w.3 (module_shallow w.0 w.1)

-- what is read from a text is well-formed
pub gives_well_formed : (text : List ℕ) → GivesWellFormed text
gives_well_formed text m h =
    let x = from_tokens text m h in
    let ts = marks false x.0.list in
    let told : IsModule true ts m = subst (Tells ts) x.2 (exact ts).tells in
    let w = loosened ts m told in
    (w.0, w.1, subst AreHeld (sym w.2) (held_tokens text x.0 x.1), w.3)

fine_canonical : (m : Module) → IsWellFormed m → FineModule (module_written m)
fine_canonical m w = subst (λ k. FineModule (module_written k)) w.3 (module_good w.0 w.1 w.2)

pub has_its_marks : (m : Module) → HasItsMarks m
has_its_marks m w = let fine = fine_canonical m w in (canonical_characters m fine.0, λ cs e. printed_tokens m cs e fine.0)

-- what has the places of tokens in the canonical form
same_tree : (m : Module) (w : IsWellFormed m) (y : WrittenModule) → placed_module (module_written m) ≡ module_written m → placed_module y ≡ placed_module (module_written m) → AreSame m (module_tree y)
same_tree m w y here away = (
  w.0,
  y,
  w.3,
  refl,
  sym (module_says w.0 w.1).1 ∙ ap (λ k. module_tree (module_written k)) w.3 ∙ ap module_tree (sym here ∙ sym away),
)

pub read_back : (m : Module) → IsReadBack m
read_back m w fits cs e =
    let fine = fine_canonical m w in
    let tokens = printed_tokens m cs e fine.0 in
    let ts = marks false tokens.0.list in
    let y = keep_module (module_written m) ts tokens.2 in
    let is_read = accepts true ts (module_tree y.y) (y.y, y.kept true fits, y.same, refl) in
    (module_tree y.y, ap (parsed (front_of cs)) tokens.1 ∙ ap (told tokens.0.list tokens.0.end) is_read, same_tree m w y.y fine.1 y.away)

pub read_again : (text : List ℕ) → IsReadAgain text
read_again text m h cs e = read_back m (gives_well_formed text m h) (stays_shallow text m h) cs e
