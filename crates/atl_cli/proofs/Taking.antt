-- What clap makes of words, where a command has one argument that takes them all.
use Rattle.std.proofs.Common.{◌≡◌, ◌≢◌, ◌∙◌, ◌⊎◌, inl, inr, ℕ, ◌≤◌, ◌+◌, ◌==◌, ◌||◌, Bool, true, false, nat_lt, refl, sym, ap, subst, arith, List, [], ◌∷◌, ◌++◌, length, Option, Some, None, codes, append_assoc, append-nil}
use Rattle.std.specs.Prelude.{slice_get, is_some, encode_utf8_all}
use Rattle.std.specs.Char.{encode_utf8}
use Rattle.std.specs.List.{fold, list_any, AllByRecursion}
use Rattle.std.proofs.lemmas.List.{take_all}
use Rattle.std.specs.Option.{option_map}
use Rattle.std.specs.Str.{IsUtf8, bytes_eq, chars}
use Rattle.std.proofs.lemmas.Str.{IsUtf8-past_char, encodes-chars}
use Rattle.std.proofs.lemmas.Slice.Eq.{bytes_eq-Decides}
use Rattle.std.proofs.lemmas.Bool.Decides.{nat_tests}
use Rattle.atl_base.specs.XmlText.{IsXmlText, IsFirstOffence}
use Rattle.atl_base.proofs.XmlTexts.{IsUtf8-from_text}
use Rattle.clap.specs.Lexer.{long_of, name_and_value, short_of, usize_max}
use Rattle.clap.specs.Kinds.{IsAmong, Kinds, or_else, values_kinds}
use Rattle.clap.specs.Matches.{found_of}
use Rattle.clap.specs.Faults.{fault_of, walk_fault, turn_fault, entered_fault, settle_fault, defaults_fault, check_fault, flags_fault, is_simple_and_free}
use Rattle.clap.specs.Simple.{App, HasMatchesOf, Shape, built, entered, matches_of, is_simple}
use Rattle.clap.specs.Walk.{Text, Walk, Row, idle, positional, nothing_held, walked, finished, settled, all_of, rows_of}
use Rattle.clap.specs.declared.builder.value_parser.ValueParser.TheVariants as vp
use Rattle.clap.specs.declared.error.kind.ErrorKind.{ErrorKind}
use Rattle.clap.specs.declared.error.kind.ErrorKind.TheVariants as kind
use Rattle.clap.specs.declared.parser.matches.ArgMatches.{ArgMatches}
use Rattle.atl_cli.specs.OperandCommand.{operand_app, listed, IsWord}
use Rattle.atl_cli.specs.Operands.{operands_from, operands, is_empty_word, is_option_word}

pub simple : is_simple operand_app ≡ true
simple = refl

pub simple_and_free : is_simple_and_free operand_app ≡ true
simple_and_free = refl

abbrev shape : Shape
shape = (built operand_app).top

-- between two words: what has been taken, and whether `--` has been
abbrev state : List Text → Bool → Walk
state [] free = record { held = nothing_held; waiting = idle; position = 1; is_trailing = free; stopped = None }
state (v ∷ vs) free = record { held = record { rows = []; pending = Some (codes "operands", v ∷ vs); skip = 0 }; waiting = positional; position = 1; is_trailing = free; stopped = None }

abbrev step : Walk → Text → Walk
step = walked shape.rules []

abbrev turn : Walk → Text → Kinds
turn = turn_fault shape []

dashes_step : (vs : List Text) → step (state vs false) (codes "--") ≡ state vs true
unfolding walked
dashes_step [] = refl
dashes_step (v ∷ vs) = refl

dashes_turn : (vs : List Text) → turn (state vs false) (codes "--") ≡ []
dashes_turn [] = refl
dashes_turn (v ∷ vs) = refl

free_step : (vs : List Text) (w : Text) → step (state vs true) w ≡ state (vs ++ (w ∷ [])) true
unfolding walked
free_step [] w = refl
free_step (v ∷ vs) w = refl

free_turn : (vs : List Text) (w : Text) → turn (state vs true) w ≡ []
free_turn [] w = refl
free_turn (v ∷ vs) w = refl

plain_step : (vs : List Text) (w : Text) → bytes_eq w (codes "--") ≡ false → long_of w ≡ None → short_of w ≡ None → step (state vs false) w ≡ state (vs ++ (w ∷ [])) false
unfolding walked
plain_step [] w e l s = rw (e, l, s) refl
plain_step (v ∷ vs) w e l s = rw (e, l, s) refl

plain_turn : (vs : List Text) (w : Text) → bytes_eq w (codes "--") ≡ false → long_of w ≡ None → short_of w ≡ None → turn (state vs false) w ≡ []
plain_turn [] w e l s = rw (e, l, s) refl
plain_turn (v ∷ vs) w e l s = rw (e, l, s) refl

abbrev Fails : Kinds → Type 0
Fails kinds = (k : ErrorKind) × (ks : Kinds) × (kinds ≡ k ∷ ks)

long_turn : (vs : List Text) (w : Text) (p : Text × Option Text) → bytes_eq w (codes "--") ≡ false → long_of w ≡ Some p → Fails (turn (state vs false) w)
long_turn [] w p e l = (kind.UnknownArgument, [], rw (e, l) refl)
long_turn (v ∷ vs) w p e l = (kind.UnknownArgument, [], rw (e, l) refl)

some_char : (w : Text) → w ≢ [] → IsUtf8 w → (y : ℕ) × (slice_get (chars w) 0 ≡ Some y)
some_char w some u = go (chars w) (encodes-chars w u)
  where
    go : (cs : List ℕ) → encode_utf8_all cs ≡ w → (y : ℕ) × (slice_get cs 0 ≡ Some y)
    go [] e = absurd (some (sym e))
    go (y ∷ ys) e = (y, refl)

short_turn : (vs : List Text) (w : Text) (x : ℕ) (xs : Text) → bytes_eq w (codes "--") ≡ false → long_of w ≡ None → short_of w ≡ Some (x ∷ xs) → IsUtf8 (x ∷ xs) → Fails (turn (state vs false) w)
unfolding flags_fault
short_turn [] w x xs e l s u = let y = some_char (x ∷ xs) (λ f. cc) u in (kind.UnknownArgument, [], rw (e, l, s, y.1) refl)
short_turn (v ∷ vs) w x xs e l s u = let y = some_char (x ∷ xs) (λ f. cc) u in (kind.UnknownArgument, [], rw (e, l, s, y.1) refl)

-- ---- what a word is, where no `--` has stood

abbrev refuses : Text → Bool
refuses w = is_empty_word w || is_option_word w

abbrev Sorted : Text → Type 0
Sorted w = ((refuses w ≡ false) × (long_of w ≡ None) × (short_of w ≡ None))
    ⊎ ((refuses w ≡ true) × (p : Text × Option Text) × (long_of w ≡ Some p))
    ⊎ ((refuses w ≡ true) × (long_of w ≡ None) × (x : ℕ) × (xs : Text) × (short_of w ≡ Some (x ∷ xs)) × IsUtf8 (x ∷ xs))

one : (c : ℕ) (b : Bool) → (c == 45) ≡ b → Sorted (c ∷ [])
one c true e = inl (refl, rw e refl, rw e refl)
one c false e = inl (refl, rw e refl, rw e refl)

is_hyphen : (c : ℕ) → (c == 45) ≡ true → c ≡ 45
is_hyphen c e = grind (arith, nat_tests)

behind_hyphen : (c d : ℕ) (w : Text) → (c == 45) ≡ true → IsUtf8 (c ∷ d ∷ w) → IsUtf8 (d ∷ w)
unfolding encode_utf8
behind_hyphen c d w e u = IsUtf8-past_char (c ∷ d ∷ w) (d ∷ w) 45 u (ap (λ x. x ∷ d ∷ w) (is_hyphen c e))

several : (c d : ℕ) (w : Text) (b k : Bool) → (c == 45) ≡ b → (d == 45) ≡ k → bytes_eq (c ∷ d ∷ w) (codes "--") ≡ false → IsUtf8 (c ∷ d ∷ w) → Sorted (c ∷ d ∷ w)
several c d w false k e f apart u = inl (e, rw e refl, rw e refl)
several c d w true false e f apart u = inr (inr (e, rw (e, f) refl, d, w, rw (e, f) refl, behind_hyphen c d w e u))
several c d [] true true e f apart u =
    let same : c ∷ d ∷ [] ≡ codes "--" = ap (λ x. x ∷ d ∷ []) (is_hyphen c e) ∙ ap (λ x. 45 ∷ x ∷ []) (is_hyphen d f) in
    let yes = (bytes_eq-Decides (c ∷ d ∷ []) (codes "--")).1 same in
    let both : true ≡ false = sym yes ∙ apart in
    cc
several c d (x ∷ w) true true e f apart u = inr (inl (e, name_and_value (x ∷ w), rw (e, f) refl))

sorted : (w : Text) → w ≢ [] → IsUtf8 w → bytes_eq w (codes "--") ≡ false → Sorted w
sorted [] some u apart = absurd (some refl)
sorted (c ∷ []) some u apart = one c (c == 45) refl
sorted (c ∷ d ∷ w) some u apart = several c d w (c == 45) (d == 45) refl refl apart u

-- ---- all words

-- taken to the end as the operands, or refused at a word
abbrev Taken : List Text → List Text → Bool → Type 0
Taken words vs free =
    ((rest : List Text) × (f : Bool) × (operands_from free words ≡ Some rest) × (fold step (state vs free) words ≡ state (vs ++ rest) f)
    × (walk_fault shape [] (state vs free) words ≡ []) × (length rest ≤ length words) × AllByRecursion IsXmlText rest)
    ⊎ ((operands_from free words ≡ None) × Fails (walk_fault shape [] (state vs free) words))

walk_more : (w : Text) (words : List Text) (a b : Walk) (ks : Kinds) → step a w ≡ b → turn a w ≡ [] → walk_fault shape [] b words ≡ ks → walk_fault shape [] a (w ∷ words) ≡ ks
unfolding walk_fault
walk_more w words a b ks s t k = ap (λ x. or_else x (walk_fault shape [] (step a w) words)) t ∙ ap (λ x. walk_fault shape [] x words) s ∙ k

walk_fails : (w : Text) (words : List Text) (a : Walk) → Fails (turn a w) → Fails (walk_fault shape [] a (w ∷ words))
unfolding walk_fault
walk_fails w words a (k, ks, e) = (k, ks, ap (λ x. or_else x (walk_fault shape [] (step a w) words)) e)

more : (w : Text) (words vs : List Text) (free : Bool) → IsXmlText w → operands_from free (w ∷ words) ≡ option_map (λ rest. w ∷ rest) (operands_from free words) → step (state vs free) w ≡ state (vs ++ (w ∷ [])) free →
    turn (state vs free) w ≡ [] → Taken words (vs ++ (w ∷ [])) free → Taken (w ∷ words) vs free
more w words vs free text o s t (inl (rest, f, e, g, k, le, all)) = inl (
  w ∷ rest,
  f,
  o ∙ ap (option_map (λ rest. w ∷ rest)) e,
  ap (λ x. fold step x words) s ∙ g ∙ ap (λ l. state l f) (append_assoc vs (w ∷ []) rest),
  walk_more w words (state vs free) (state (vs ++ (w ∷ [])) free) [] s t k,
  omega arith,
  (text, all),
)
more w words vs free text o s t (inr (e, (k, ks, q))) =
    inr (o ∙ ap (option_map (λ rest. w ∷ rest)) e, (k, ks, walk_more w words (state vs free) (state (vs ++ (w ∷ [])) free) (k ∷ ks) s t q))

dashes : (w : Text) (words vs : List Text) → bytes_eq w (codes "--") ≡ true → Taken words vs true → Taken (w ∷ words) vs false
dashes w words vs e taken = subst (λ x. Taken (x ∷ words) vs false) (sym ((bytes_eq-Decides w (codes "--")).0 e)) (go taken)
  where
    go : Taken words vs true → Taken (codes "--" ∷ words) vs false
    go (inl (rest, f, e, g, k, le, all)) = inl (
      rest,
      f,
      e,
      ap (λ x. fold step x words) (dashes_step vs) ∙ g,
      walk_more (codes "--") words (state vs false) (state vs true) [] (dashes_step vs) (dashes_turn vs) k,
      omega arith,
      all,
    )
    go (inr (e, (k, ks, q))) = inr (e, (k, ks, walk_more (codes "--") words (state vs false) (state vs true) (k ∷ ks) (dashes_step vs) (dashes_turn vs) q))

free_operands : (w : Text) (words : List Text) → w ≢ [] → operands_from true (w ∷ words) ≡ option_map (λ rest. w ∷ rest) (operands_from true words)
free_operands [] words some = absurd (some refl)
free_operands (c ∷ w) words some = refl

bound : (w : Text) (words vs : List Text) → IsWord w → bytes_eq w (codes "--") ≡ false → Sorted w → Taken words (vs ++ (w ∷ [])) false → Taken (w ∷ words) vs false
bound w words vs fit apart (inl (h, l, s)) taken = more w words vs false fit.1 (rw (apart, h) refl) (plain_step vs w apart l s) (plain_turn vs w apart l s) taken
bound w words vs fit apart (inr (inl (h, p, l))) taken = inr (rw (apart, h) refl, walk_fails w words (state vs false) (long_turn vs w p apart l))
bound w words vs fit apart (inr (inr (h, l, x, xs, s, u))) taken = inr (rw (apart, h) refl, walk_fails w words (state vs false) (short_turn vs w x xs apart l s u))

taken : (words vs : List Text) (free : Bool) → AllByRecursion IsWord words → Taken words vs free
unfolding walk_fault
taken [] vs free fit = inl ([], free, refl, ap (λ l. state l free) (sym (append-nil vs)), refl, omega arith, tt)
taken (w ∷ words) vs true fit =
    more w words vs true fit.0.1 (free_operands w words fit.0.0) (free_step vs w) (free_turn vs w) (taken words (vs ++ (w ∷ [])) true fit.1)
taken (w ∷ words) vs false fit =
    either (bytes_eq w (codes "--")) refl (taken words vs true fit.1) (taken words (vs ++ (w ∷ [])) false fit.1)
  where
    either : (b : Bool) → bytes_eq w (codes "--") ≡ b → Taken words vs true → Taken words (vs ++ (w ∷ [])) false → Taken (w ∷ words) vs false
    either true e t p = dashes w words vs e t
    either false e t p = bound w words vs fit.0 e (sorted w fit.0.0 (IsUtf8-from_text w fit.0.1) e) p

-- ---- the end of a walk

abbrev after_walk : Walk → Kinds
after_walk w = or_else (entered_fault (built operand_app) w.stopped) (or_else (settle_fault shape.rules shape.args_override_self w.held)
    (or_else (defaults_fault (settled shape.rules w.held).rows shape.rules) (check_fault shape (finished shape.rules w.held) (is_some (entered (built operand_app) w.stopped)))))

fault_is : (words : List Text) → fault_of operand_app words ≡ or_else (walk_fault shape [] (state [] false) words) (after_walk (fold step (state [] false) words))
fault_is words = refl

matches_are : (words : List Text) → matches_of operand_app words ≡ finished shape.rules (fold step (state [] false) words).held
matches_are words = refl

any_text : (vs : List Text) → values_kinds false vp.String vs ≡ []
any_text [] = refl
any_text (v ∷ vs) = any_text vs

fine : (vs : List Text) (f : Bool) → length vs ≤ usize_max → after_walk (state vs f) ≡ []
unfolding defaults_fault
fine [] f le = refl
fine (v ∷ vs) f le =
    let some : (length (v ∷ vs) == 0) ≡ false = grind (arith, nat_tests) in
    let few : nat_lt (length (v ∷ vs)) 1 ≡ false = grind (arith, nat_tests) in
    let many : nat_lt usize_max (length (v ∷ vs)) ≡ false = grind (arith, nat_tests) in
    rw (some, few, many, any_text vs) refl

row : (vs : List Text) (f : Bool) → listed (all_of (codes "operands") (finished shape.rules (state vs f).held)) ≡ vs
row [] f = refl
row (v ∷ vs) f = refl

pub matched : (words : List Text) → AllByRecursion IsWord words → fault_of operand_app words ≡ [] →
    (operands words ≡ Some (listed (all_of (codes "operands") (matches_of operand_app words)))) × AllByRecursion IsXmlText (listed (all_of (codes "operands") (matches_of operand_app words)))
matched words fit none = go (taken words [] false fit)
  where
    go : Taken words [] false → (operands words ≡ Some (listed (all_of (codes "operands") (matches_of operand_app words)))) × AllByRecursion IsXmlText (listed (all_of (codes "operands") (matches_of operand_app words)))
    go (inl (rest, f, e, g, k, le, all)) =
        let same : listed (all_of (codes "operands") (matches_of operand_app words)) ≡ rest = ap (λ (x : Walk). listed (all_of (codes "operands") (finished shape.rules x.held))) g ∙ row rest f in
        (e ∙ ap (λ l. Some l) (sym same), subst (λ l. AllByRecursion IsXmlText l) (sym same) all)
    go (inr (e, (k, ks, q))) =
        let some : fault_of operand_app words ≡ or_else (k ∷ ks) (after_walk (fold step (state [] false) words)) = ap (λ x. or_else x (after_walk (fold step (state [] false) words))) q in
        let both : k ∷ ks ≡ [] = sym some ∙ none in
        cc

pub refused : (words : List Text) → AllByRecursion IsWord words → length words ≤ usize_max → (k : ErrorKind) (ks : Kinds) → fault_of operand_app words ≡ k ∷ ks → operands words ≡ None
refused words fit short k ks some = go (taken words [] false fit)
  where
    go : Taken words [] false → operands words ≡ None
    go (inl (rest, f, e, g, q, le, all)) =
        let none : fault_of operand_app words ≡ [] = ap (λ x. or_else x (after_walk (fold step (state [] false) words))) q ∙ ap after_walk g ∙ fine rest f (omega arith) in
        let both : k ∷ ks ≡ [] = sym some ∙ none in
        cc
    go (inr (e, bad)) = e

-- ---- a parse

pub parsed : (app : App) (words : List Text) (m : ArgMatches) → app ≡ operand_app → AllByRecursion IsWord words → (is_simple_and_free app ≡ true → fault_of app words ≡ []) → HasMatchesOf app words m →
    (operands words ≡ Some (listed (all_of (codes "operands") (rows_of (found_of m))))) × AllByRecursion IsXmlText (listed (all_of (codes "operands") (rows_of (found_of m))))
parsed app words m is fit none has =
    let fine : fault_of operand_app words ≡ [] = subst (λ a. fault_of a words ≡ []) is (none (ap is_simple_and_free is ∙ simple_and_free)) in
    let rows : rows_of (found_of m) ≡ matches_of operand_app words = (has (ap is_simple is ∙ simple)).0 ∙ ap (λ a. matches_of a words) is in
    let P : List Row → Type 0 = λ r. (operands words ≡ Some (listed (all_of (codes "operands") r))) × AllByRecursion IsXmlText (listed (all_of (codes "operands") r)) in
    subst P (sym rows) (matched words fit fine)

pub unparsed : (app : App) (words : List Text) (k : ErrorKind) → app ≡ operand_app → AllByRecursion IsWord words → length words ≤ usize_max →
    (is_simple_and_free app ≡ true → (k ≡ kind.OutOfMemory) ⊎ IsAmong k (fault_of app words)) → (k ≡ kind.OutOfMemory → ⊥) → operands words ≡ None
unparsed app words k is fit short failed other =
    go (fault_of operand_app words) refl (subst (λ a. (k ≡ kind.OutOfMemory) ⊎ IsAmong k (fault_of a words)) is (failed (ap is_simple_and_free is ∙ simple_and_free)))
  where
    go : (ks : Kinds) → fault_of operand_app words ≡ ks → (k ≡ kind.OutOfMemory) ⊎ IsAmong k ks → operands words ≡ None
    go ks e (inl memory) = absurd (other memory)
    go [] e (inr among) = absurd among
    go (x ∷ xs) e (inr among) = refused words fit short x xs e

-- ---- words before

pub empty_refused : (words : List Text) (free : Bool) → list_any is_empty_word words ≡ true → operands_from free words ≡ None
empty_refused [] free h = cc
empty_refused ([] ∷ words) true h = refl
empty_refused ([] ∷ words) false h = refl
empty_refused ((c ∷ w) ∷ words) true h = ap (option_map (λ rest. (c ∷ w) ∷ rest)) (empty_refused words true h)
empty_refused ((c ∷ w) ∷ words) false h =
    either (bytes_eq (c ∷ w) (codes "--")) (is_option_word (c ∷ w)) refl refl (empty_refused words true h) (empty_refused words false h)
  where
    either : (b o : Bool) → bytes_eq (c ∷ w) (codes "--") ≡ b → is_option_word (c ∷ w) ≡ o → operands_from true words ≡ None → operands_from false words ≡ None →
        operands_from false ((c ∷ w) ∷ words) ≡ None
    either true o e f t p = rw e t
    either false true e f t p = rw (e, f) refl
    either false false e f t p = rw (e, f, p) refl

pub words_fit : (words : List Text) → list_any is_empty_word words ≡ false → AllByRecursion IsXmlText words → AllByRecursion IsWord words
words_fit [] h all = tt
words_fit ([] ∷ words) h all = cc
words_fit ((c ∷ w) ∷ words) h all = (((λ e. cc), all.0), words_fit words h all.1)

pub no_offence : (bytes : List ℕ) (n : ℕ) → IsXmlText bytes → IsFirstOffence bytes n → ⊥
no_offence bytes n text p =
    let k : ℕ = n + length bytes + 1 in
    p.longest k (omega arith) (subst IsXmlText (sym (take_all k bytes (omega arith))) text)
