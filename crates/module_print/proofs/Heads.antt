-- With which symbols an expression begins: those of its leftmost part.
use Rattle.std.proofs.Common.{◌≡◌, List, [], ◌∷◌, ◌++◌, refl, sym, ap, ◌∙◌, append_assoc}
use Rattle.std.specs.Prelude.{ℕ, Bool, true, false, if◌then◌else◌}
use Rattle.atl_base.specs.declared.place.Place.{Place}
use Rattle.atl_tree.specs.declared.name.Name.{Name}
use Rattle.atl_tree.specs.declared.expr.Expr.{Expr}
use Rattle.atl_tree.specs.declared.expr.BinaryOp.{BinaryOp}
use Rattle.atl_tree.specs.declared.expr.UnaryOp.{UnaryOp}
use Rattle.atl_tree.specs.declared.expr.UnaryOp.TheVariants as U
use Rattle.atl_tree.specs.declared.expr.BinaryOp.TheVariants as O
use Rattle.ocl_parse.specs.declared.sign.Ender.TheVariants as E
use Rattle.ocl_parse.specs.declared.sign.Sign.TheVariants as S
use Rattle.ocl_parse.specs.Symbols.{Lexeme}
use Rattle.ocl_parse.specs.Grammar.{Written, Number, Words, Lone, Literal, Variable, OfClass, OfBasic, Elements, If, Round, Let, Unary, Binary, Read, Call, Loop, Iterate, spelt, listed, fixed, named, unary_sign, dot_or_arrow, kind_spelt, Arguments, Kind}
use Rattle.module_print.specs.Writing.{here, truth, what_written, expr_written}
use Rattle.module_print.proofs.Writings.{expr_is}
use Rattle.module_grammar.specs.Grammar.{begins_if}
use Rattle.module_print.specs.Pending.{begins_open, begun, bare}

pub opens_as : (w : Written) (ys : List Lexeme) → begins_open (spelt w ++ ys) ≡ begins_open (spelt w)
opens_as (Number p n) ys = refl
opens_as (Words p s) ys = refl
opens_as (Lone p c) ys = refl
opens_as (Literal p n) ys = refl
opens_as (Variable n) ys = refl
opens_as (OfClass m p c) ys = refl
opens_as (OfBasic p k) ys = refl
opens_as (Elements p k q es r) ys = refl
opens_as (If p c q a r e s) ys = refl
opens_as (Round p x q) ys = refl
opens_as (Let p n q k r e s x) ys = refl
opens_as (Unary p o x) ys = refl
opens_as (Binary a p o x) ys =
    let x : List Lexeme = (fixed p (S.Operator o) ∷ spelt x) in
    ap begins_open (append_assoc (spelt a) x ys) ∙ opens_as a (x ++ ys) ∙ sym (opens_as a x)
opens_as (Read a p n) ys =
    let x : List Lexeme = (fixed p S.Dot ∷ named n ∷ []) in
    ap begins_open (append_assoc (spelt a) x ys) ∙ opens_as a (x ++ ys) ∙ sym (opens_as a x)
opens_as (Call a arrow p n q es r) ys =
    let x : List Lexeme = (fixed p (dot_or_arrow arrow) ∷ named n ∷ fixed q S.Open ∷ (listed es ++ (fixed r (S.End E.Close) ∷ []))) in
    ap begins_open (append_assoc (spelt a) x ys) ∙ opens_as a (x ++ ys) ∙ sym (opens_as a x)
opens_as (Loop a p n q x r e s) ys =
    let x : List Lexeme = (fixed p S.Arrow ∷ named n ∷ fixed q S.Open ∷ named x ∷ fixed r (S.End E.Bar) ∷ (spelt e ++ (fixed s (S.End E.Close) ∷ []))) in
    ap begins_open (append_assoc (spelt a) x ys) ∙ opens_as a (x ++ ys) ∙ sym (opens_as a x)
opens_as (Iterate a p n q x r y s k t i u e v) ys =
    let x : List Lexeme = (fixed p S.Arrow ∷ named n ∷ fixed q S.Open ∷ named x ∷ fixed r S.Semicolon ∷ named y ∷ fixed s S.Colon ∷ (kind_spelt k ++ (fixed t (S.Operator O.Eq) ∷ (spelt i ++ (fixed u (S.End E.Bar) ∷ (spelt e ++ (fixed v (S.End E.Close) ∷ []))))))) in
    ap begins_open (append_assoc (spelt a) x ys) ∙ opens_as a (x ++ ys) ∙ sym (opens_as a x)

if_opens : (p : Place) (zs : List Lexeme) → begins_if (fixed p S.If ∷ zs) ≡ begins_open zs
if_opens p [] = refl
if_opens p (z ∷ zs) = refl

first_no : (p : Place) (zs ys : List Lexeme) → begins_if (fixed p S.Open ∷ (zs ++ ys)) ≡ begins_if (fixed p S.Open ∷ zs)
first_no p [] [] = refl
first_no p [] (y ∷ ys) = refl
first_no p (z ∷ zs) ys = refl

sign_no : (p : Place) (o : UnaryOp) (zs ys : List Lexeme) → begins_if (fixed p (unary_sign o) ∷ (zs ++ ys)) ≡ begins_if (fixed p (unary_sign o) ∷ zs)
sign_no p U.Not [] [] = refl
sign_no p U.Not [] (y ∷ ys) = refl
sign_no p U.Not (z ∷ zs) ys = refl
sign_no p U.Neg [] [] = refl
sign_no p U.Neg [] (y ∷ ys) = refl
sign_no p U.Neg (z ∷ zs) ys = refl

pub round_begins : (p q : Place) (w : Written) → begins_if (spelt (Round p w q)) ≡ false
round_begins p q w = open_no p (spelt w ++ (fixed q (S.End E.Close) ∷ []))
  where
    open_no : (p : Place) (zs : List Lexeme) → begins_if (fixed p S.Open ∷ zs) ≡ false
    open_no p [] = refl
    open_no p (z ∷ zs) = refl

pub unary_begins : (p : Place) (o : UnaryOp) (zs : List Lexeme) → begins_if (fixed p (unary_sign o) ∷ zs) ≡ false
unary_begins p U.Not [] = refl
unary_begins p U.Not (z ∷ zs) = refl
unary_begins p U.Neg [] = refl
unary_begins p U.Neg (z ∷ zs) = refl

pub unary_opens : (p : Place) (o : UnaryOp) (zs : List Lexeme) → begins_open (fixed p (unary_sign o) ∷ zs) ≡ false
unary_opens p U.Not zs = refl
unary_opens p U.Neg zs = refl

pub begins_as : (w : Written) (ys : List Lexeme) → begins_if (spelt w ++ ys) ≡ begins_if (spelt w)
begins_as (Number p n) [] = refl
begins_as (Number p n) (y ∷ ys) = refl
begins_as (Words p s) [] = refl
begins_as (Words p s) (y ∷ ys) = refl
begins_as (Lone p c) [] = refl
begins_as (Lone p c) (y ∷ ys) = refl
begins_as (Literal p n) ys = refl
begins_as (Variable n) [] = refl
begins_as (Variable n) (y ∷ ys) = refl
begins_as (OfClass m p c) ys = refl
begins_as (OfBasic p k) [] = refl
begins_as (OfBasic p k) (y ∷ ys) = refl
begins_as (Elements p k q es r) ys = refl
begins_as (If p c q a r e s) ys =
    let x : List Lexeme = fixed q (S.End E.Then) ∷ (spelt a ++ (fixed r (S.End E.Else) ∷ (spelt e ++ (fixed s (S.End E.Endif) ∷ [])))) in
    if_opens p ((spelt c ++ x) ++ ys) ∙ ap begins_open (append_assoc (spelt c) x ys) ∙ opens_as c (x ++ ys) ∙ sym (opens_as c x) ∙ sym (if_opens p (spelt c ++ x))
begins_as (Round p x q) ys = first_no p (spelt x ++ (fixed q (S.End E.Close) ∷ [])) ys
begins_as (Let p n q k r e s x) ys = refl
begins_as (Unary p o x) ys = sign_no p o (spelt x) ys
begins_as (Binary a p o x) ys =
    let x : List Lexeme = (fixed p (S.Operator o) ∷ spelt x) in
    ap begins_if (append_assoc (spelt a) x ys) ∙ begins_as a (x ++ ys) ∙ sym (begins_as a x)
begins_as (Read a p n) ys =
    let x : List Lexeme = (fixed p S.Dot ∷ named n ∷ []) in
    ap begins_if (append_assoc (spelt a) x ys) ∙ begins_as a (x ++ ys) ∙ sym (begins_as a x)
begins_as (Call a arrow p n q es r) ys =
    let x : List Lexeme = (fixed p (dot_or_arrow arrow) ∷ named n ∷ fixed q S.Open ∷ (listed es ++ (fixed r (S.End E.Close) ∷ []))) in
    ap begins_if (append_assoc (spelt a) x ys) ∙ begins_as a (x ++ ys) ∙ sym (begins_as a x)
begins_as (Loop a p n q x r e s) ys =
    let x : List Lexeme = (fixed p S.Arrow ∷ named n ∷ fixed q S.Open ∷ named x ∷ fixed r (S.End E.Bar) ∷ (spelt e ++ (fixed s (S.End E.Close) ∷ []))) in
    ap begins_if (append_assoc (spelt a) x ys) ∙ begins_as a (x ++ ys) ∙ sym (begins_as a x)
begins_as (Iterate a p n q x r y s k t i u e v) ys =
    let x : List Lexeme = (fixed p S.Arrow ∷ named n ∷ fixed q S.Open ∷ named x ∷ fixed r S.Semicolon ∷ named y ∷ fixed s S.Colon ∷ (kind_spelt k ++ (fixed t (S.Operator O.Eq) ∷ (spelt i ++ (fixed u (S.End E.Bar) ∷ (spelt e ++ (fixed v (S.End E.Close) ∷ []))))))) in
    ap begins_if (append_assoc (spelt a) x ys) ∙ begins_as a (x ++ ys) ∙ sym (begins_as a x)

-- an `if` begins the statement form where its condition begins with a parenthesis
pub choice_begins : (p q r s : Place) (c a e : Written) → begins_if (spelt (If p c q a r e s)) ≡ begins_open (spelt c)
choice_begins p q r s c a e =
    let x : List Lexeme = fixed q (S.End E.Then) ∷ (spelt a ++ (fixed r (S.End E.Else) ∷ (spelt e ++ (fixed s (S.End E.Endif) ∷ [])))) in
    if_opens p (spelt c ++ x) ∙ opens_as c x

pub opens-Binary : (a x : Written) (p : Place) (o : BinaryOp) → begins_open (spelt (Binary a p o x)) ≡ begins_open (spelt a)
opens-Binary a x p o = opens_as a (fixed p (S.Operator o) ∷ spelt x)

pub begins-Binary : (a x : Written) (p : Place) (o : BinaryOp) → begins_if (spelt (Binary a p o x)) ≡ begins_if (spelt a)
begins-Binary a x p o = begins_as a (fixed p (S.Operator o) ∷ spelt x)

pub opens-Read : (a : Written) (p : Place) (n : Name) → begins_open (spelt (Read a p n)) ≡ begins_open (spelt a)
opens-Read a p n = opens_as a (fixed p S.Dot ∷ named n ∷ [])

pub begins-Read : (a : Written) (p : Place) (n : Name) → begins_if (spelt (Read a p n)) ≡ begins_if (spelt a)
begins-Read a p n = begins_as a (fixed p S.Dot ∷ named n ∷ [])

pub opens-Call : (a : Written) (arrow : Bool) (p : Place) (n : Name) (q : Place) (es : Arguments) (r : Place) → begins_open (spelt (Call a arrow p n q es r)) ≡ begins_open (spelt a)
opens-Call a arrow p n q es r = opens_as a (fixed p (dot_or_arrow arrow) ∷ named n ∷ fixed q S.Open ∷ (listed es ++ (fixed r (S.End E.Close) ∷ [])))

pub begins-Call : (a : Written) (arrow : Bool) (p : Place) (n : Name) (q : Place) (es : Arguments) (r : Place) → begins_if (spelt (Call a arrow p n q es r)) ≡ begins_if (spelt a)
begins-Call a arrow p n q es r = begins_as a (fixed p (dot_or_arrow arrow) ∷ named n ∷ fixed q S.Open ∷ (listed es ++ (fixed r (S.End E.Close) ∷ [])))

pub opens-Loop : (a : Written) (p : Place) (n : Name) (q : Place) (x : Name) (r : Place) (e : Written) (s : Place) → begins_open (spelt (Loop a p n q x r e s)) ≡ begins_open (spelt a)
opens-Loop a p n q x r e s = opens_as a (fixed p S.Arrow ∷ named n ∷ fixed q S.Open ∷ named x ∷ fixed r (S.End E.Bar) ∷ (spelt e ++ (fixed s (S.End E.Close) ∷ [])))

pub begins-Loop : (a : Written) (p : Place) (n : Name) (q : Place) (x : Name) (r : Place) (e : Written) (s : Place) → begins_if (spelt (Loop a p n q x r e s)) ≡ begins_if (spelt a)
begins-Loop a p n q x r e s = begins_as a (fixed p S.Arrow ∷ named n ∷ fixed q S.Open ∷ named x ∷ fixed r (S.End E.Bar) ∷ (spelt e ++ (fixed s (S.End E.Close) ∷ [])))

pub opens-Iterate : (a : Written) (p : Place) (n : Name) (q : Place) (x : Name) (r : Place) (y : Name) (s : Place) (k : Kind) (t : Place) (i : Written) (u : Place) (e : Written) (v : Place) → begins_open (spelt (Iterate a p n q x r y s k t i u e v)) ≡ begins_open (spelt a)
opens-Iterate a p n q x r y s k t i u e v = opens_as a (fixed p S.Arrow ∷ named n ∷ fixed q S.Open ∷ named x ∷ fixed r S.Semicolon ∷ named y ∷ fixed s S.Colon ∷ (kind_spelt k ++ (fixed t (S.Operator O.Eq) ∷ (spelt i ++ (fixed u (S.End E.Bar) ∷ (spelt e ++ (fixed v (S.End E.Close) ∷ [])))))))

pub begins-Iterate : (a : Written) (p : Place) (n : Name) (q : Place) (x : Name) (r : Place) (y : Name) (s : Place) (k : Kind) (t : Place) (i : Written) (u : Place) (e : Written) (v : Place) → begins_if (spelt (Iterate a p n q x r y s k t i u e v)) ≡ begins_if (spelt a)
begins-Iterate a p n q x r y s k t i u e v = begins_as a (fixed p S.Arrow ∷ named n ∷ fixed q S.Open ∷ named x ∷ fixed r S.Semicolon ∷ named y ∷ fixed s S.Colon ∷ (kind_spelt k ++ (fixed t (S.Operator O.Eq) ∷ (spelt i ++ (fixed u (S.End E.Bar) ∷ (spelt e ++ (fixed v (S.End E.Close) ∷ [])))))))

pub truth_opens : (t : Bool) → begins_open (spelt (truth t)) ≡ false
truth_opens true = refl
truth_opens false = refl

pub truth_begins : (t : Bool) → begins_if (spelt (truth t)) ≡ false
truth_begins true = refl
truth_begins false = refl

-- an expression that stands in no parentheses, and one that stands in some
pub bare_of : (e : Expr) (l : ℕ) (b : Bool) → b ≡ false → begun false (what_written e.what l) ≡ (if b then Round here (what_written e.what 0) here else bare false (what_written e.what 0)) → expr_written e l ≡ what_written e.what 0
bare_of e l b q h = ap (λ f. f l) (expr_is e) ∙ h ∙ ap (λ t. if t then Round here (what_written e.what 0) here else bare false (what_written e.what 0)) q

pub enclosed_of : (e : Expr) (l : ℕ) (b : Bool) → b ≡ true → begun false (what_written e.what l) ≡ (if b then Round here (what_written e.what 0) here else bare false (what_written e.what 0)) → expr_written e l ≡ Round here (what_written e.what 0) here
enclosed_of e l b q h = ap (λ f. f l) (expr_is e) ∙ h ∙ ap (λ t. if t then Round here (what_written e.what 0) here else bare false (what_written e.what 0)) q
