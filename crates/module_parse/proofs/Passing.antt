-- From what the tokens give, one after another, to what the text gives.
use Rattle.std.proofs.Common.{◌≡◌, ℕ, ◌≤◌, List, Bool, true, false, length, drop, sym, ap, ◌∙◌, subst}
use Rattle.std.specs.Prelude.{Result, Ok, Err, MatchResult}
use Rattle.std.proofs.lemmas.List.{drop_all}
use Rattle.atl_base.specs.declared.place.Place.{Place}
use Rattle.atl_tree.specs.declared.module.Module.{Module}
use Rattle.atl_tree.specs.declared.token.LexRefusal.{LexRefusal}
use Rattle.atl_tree.specs.declared.token.LexRefusal.TheVariants as L
use Rattle.atl_tree.specs.declared.token.Token.{Token}
use Rattle.atl_tree.specs.declared.token.Tokens.{Tokens}
use Rattle.ocl_parse.specs.declared.refusal.ParseRefusal.{ParseRefusal}
use Rattle.ocl_parse.specs.declared.refusal.ParseRefusal.TheVariants as R
use Rattle.atl_tree.specs.Tokens.{Fails as FailsToCut}
use Rattle.module_grammar.specs.Marks.{marks}
use Rattle.module_states.specs.Machine.{State, End, finish, read, run}
use Rattle.module_parse.specs.Reading.{first_refusal, module_in, parsed, told, Fails, Gives}

-- behind the last token only the end is left
all_read : (ts : List Token) (i : ℕ) (led : Bool) (s : State) → length ts ≤ i → run true s (marks led (drop i ts)) ≡ finish true s
all_read ts i led s h = ap (λ us. run true s (marks led us)) (drop_all i ts h)

pub ends : (ts : List Token) (end : Place) (i : ℕ) (led : Bool) (s : State) (r : Result Module ParseRefusal)
    → length ts ≤ i → run true s (marks led (drop i ts)) ≡ read true (marks false ts)
    → MatchResult r (λ m. (us : List Token) → Gives m (told us end (finish true s))) (λ e. (us : List Token) → Fails e (told us end (finish true s)))
    → MatchResult r (λ m. Gives m (module_in ts end)) (λ e. Fails e (module_in ts end))
ends ts end i led s (Ok m) h k f = subst (λ (u : End). Gives m (told ts end u)) (sym (all_read ts i led s h) ∙ k) (f ts)
ends ts end i led s (Err e) h k f = subst (λ (u : End). Fails e (told ts end u)) (sym (all_read ts i led s h) ∙ k) (f ts)

pub fails_before : (ts : List Token) (end : Place) (u : End) (e : ParseRefusal) → u ≡ read true (marks false ts) → Fails e (told ts end u) → Fails e (module_in ts end)
fails_before ts end u e k f = subst (λ (v : End). Fails e (told ts end v)) k f

pub parsed_by : (front : List Token) (x : Result Tokens LexRefusal) (ts : Tokens) (us : List Token) (r : Result Module ParseRefusal) → x ≡ Ok ts → us ≡ ts.list
    → MatchResult r (λ m. Gives m (module_in us ts.end)) (λ e. Fails e (module_in us ts.end))
    → MatchResult r (λ m. Gives m (parsed front x)) (λ e. Fails e (parsed front x))
parsed_by front x ts us r h k f =
    subst (λ (y : Result Tokens LexRefusal). MatchResult r (λ m. Gives m (parsed front y)) (λ e. Fails e (parsed front y))) (sym h)
    (subst (λ (vs : List Token). MatchResult r (λ m. Gives m (module_in vs ts.end)) (λ e. Fails e (module_in vs ts.end))) k f)

only_memory : (e : ParseRefusal) (r : Result Module ParseRefusal) → Fails e (Err R.Memory) → Fails e r
only_memory R.Memory r h = tt
only_memory (R.Lex e) r h = absurd cc
only_memory (R.OtherUnit p) r h = absurd cc
only_memory (R.Expected p) r h = absurd cc
only_memory (R.TooDeep p) r h = absurd cc

-- the first refusal of a text of which a token is refused
pub refused_by : (front : List Token) (e : LexRefusal) (r : Result Tokens LexRefusal) (f : ParseRefusal)
    → FailsToCut e r → Fails f (Err (first_refusal front e)) → Fails f (parsed front r)
refused_by front (L.BadByte p) r f h k = subst (λ s. Fails f (parsed front s)) (sym h) k
refused_by front (L.OpenText p) r f h k = subst (λ s. Fails f (parsed front s)) (sym h) k
refused_by front (L.WideNumber p) r f h k = subst (λ s. Fails f (parsed front s)) (sym h) k
refused_by front (L.RealNumber p) r f h k = subst (λ s. Fails f (parsed front s)) (sym h) k
refused_by front L.Memory r f h k = only_memory f (parsed front r) k
