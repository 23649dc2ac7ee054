-- What parts that are put on the stack add to what is pending.
use Rattle.std.proofs.Common.{◌≡◌, ℕ, ◌+◌, ◌<◌, ◌≤◌, List, [], ◌∷◌, ◌++◌, length, Result, Ok, Err, OnOk, refl, sym, ap, ◌∙◌, append_assoc, arith}
use Rattle.std.specs.Prelude.{map, false, decimal, codes}
use Rattle.std.specs.List.{flat_map}
use Rattle.std.proofs.lemmas.List.{append-nil, length-append}
use Rattle.atl_tree.specs.declared.expr.Expr.{Expr}
use Rattle.atl_tree.specs.declared.kind.CollWord.{CollWord}
use Rattle.atl_tree.specs.declared.expr.BinaryOp.TheVariants as O
use Rattle.ocl_parse.specs.declared.sign.Ender.TheVariants as E
use Rattle.ocl_parse.specs.declared.sign.Sign.TheVariants as S
use Rattle.ocl_parse.specs.Symbols.{Lexeme}
use Rattle.ocl_parse.specs.Trees.{name}
use Rattle.ocl_parse.specs.Grammar.{Written, Let, Round, Iterate, Kind, Coll, spelt, kind_spelt, listed, fixed, Arguments, One, More}
use Rattle.module_print.proofs.Layers.{iterate_is_plain}
use Rattle.module_print.specs.Writing.{here, more, expr_written}
use Rattle.module_print.specs.declared.print.part.Part.{Part}
use Rattle.module_print.specs.declared.print.part.Part.TheVariants as P
use Rattle.module_grammar.specs.Marks.{Mark, shared}
use Rattle.module_print.specs.Printed.{symbol_text, mark_text, sign_text, keyword_text, name_text, words_text, coll_text}
use Rattle.module_print.specs.Pending.{kind_text, expr_text, elements_text, others_text, stat_text, work, spaced, spelling, put, pending, single, extra, singles, extras, Opens}

pub OnOk-map : {T E A B : Type 0} (r : Result T E) → (A → B) → OnOk r A → OnOk r B
OnOk-map (Ok x) f h = f h
OnOk-map (Err x) f h = h

pub OnOk-then : {T E A B : Type 0} (r : Result T E) → OnOk r A → (A → B) → OnOk r B
OnOk-then (Ok x) h f = f h
OnOk-then (Err x) h f = h

pub spelling-append : (xs ys : List Lexeme) → spelling (xs ++ ys) ≡ spelling xs ++ spelling ys
spelling-append [] ys = refl
spelling-append (x ∷ xs) ys =
    ap (λ l. symbol_text x.symbol ++ (32 ∷ l)) (spelling-append xs ys) ∙ sym (append_assoc (symbol_text x.symbol) (32 ∷ spelling xs) (spelling ys))

pub spaced-append : (xs ys : List Mark) → spaced (xs ++ ys) ≡ spaced xs ++ spaced ys
spaced-append [] ys = refl
spaced-append (x ∷ xs) ys =
    ap (λ l. mark_text x.content ++ (32 ∷ l)) (spaced-append xs ys) ∙ sym (append_assoc (mark_text x.content) (32 ∷ spaced xs) (spaced ys))

-- the marks of an expression or a type are its symbols
pub spaced-shared : (xs : List Lexeme) → spaced (map shared xs) ≡ spelling xs
spaced-shared [] = refl
spaced-shared (x ∷ xs) = ap (λ l. symbol_text x.symbol ++ (32 ∷ l)) (spaced-shared xs)

-- parts before what follows
abbrev pub puts : List Part → List ℕ → List ℕ
puts [] rest = rest
puts (p ∷ ps) rest = put p (puts ps rest)

pending-puts : (ps qs : List Part) → pending (ps ++ qs) ≡ puts ps (pending qs)
pending-puts [] qs = refl
pending-puts (p ∷ ps) qs = ap (put p) (pending-puts ps qs)

singles-append : (ps qs : List Part) → singles (ps ++ qs) ≡ singles ps + singles qs
singles-append [] qs = omega arith
singles-append (p ∷ ps) qs = omega (arith, singles-append ps qs)

extras-append : (ps qs : List Part) → extras (ps ++ qs) ≡ extras ps + extras qs
extras-append [] qs = omega arith
extras-append (p ∷ ps) qs = omega (arith, extras-append ps qs)

pub opens : (more : ℕ) (parts old new : List Part) (added : List ℕ) → new ≡ parts ++ old → ((rest : List ℕ) → puts parts rest ≡ added ++ rest) → extras parts < singles parts + more → Opens more old new added
opens more parts old new added e t h = record {
  text = ap pending e ∙ pending-puts parts old ∙ t (pending old);
  less = omega (arith, ap singles e, ap extras e, singles-append parts old, extras-append parts old, h);
}

others_more : (bs : Arguments) (es : List Expr) → spelling (listed (more bs (map (λ f. f 0) (map expr_written es)))) ≡ spelling (listed bs) ++ others_text es
others_more bs [] = sym (append-nil (spelling (listed bs)))
others_more bs (e ∷ es) =
    others_more (More bs here (expr_written e 0)) es ∙ ap (λ l. l ++ others_text es) (spelling-append (listed bs) (fixed here (S.End E.Comma) ∷ spelt (expr_written e 0)))
    ∙ append_assoc (spelling (listed bs)) (44 ∷ (32 ∷ expr_text false 0 e)) (others_text es)

-- the first element, and those behind it
pub others_listed : (e : Expr) (es : List Expr) → spelling (listed (more (One (expr_written e 0)) (map (λ f. f 0) (map expr_written es)))) ≡ expr_text false 0 e ++ others_text es
others_listed e es = others_more (One (expr_written e 0)) es

-- ---- the work that is left

put_longer : (p : Part) (rest : List ℕ) → single p + length rest ≤ length (put p rest)
put_longer (P.Fixed x) rest = omega (arith, length-append (sign_text x) (32 ∷ rest))
put_longer (P.Keyword k) rest = omega (arith, length-append (keyword_text k) (32 ∷ rest))
put_longer (P.Number n) rest = omega (arith, length-append (decimal n) (32 ∷ rest))
put_longer (P.Words x) rest = omega (arith, length-append (words_text x.now) (32 ∷ rest))
put_longer (P.Name x) rest = omega (arith, length-append (name_text x.now) (32 ∷ rest))
put_longer P.Iterate rest = omega arith
put_longer (P.Kind k) rest = omega (arith, length-append (kind_text k.now) rest)
put_longer (P.Expression e l first) rest = omega (arith, length-append (expr_text first l e.now) rest)
put_longer (P.Elements es) rest = omega (arith, length-append (elements_text es.now) rest)
put_longer (P.Others es) rest = omega (arith, length-append (others_text es.now) rest)
put_longer (P.Statements ss) rest = omega (arith, length-append (flat_map stat_text ss.now) rest)

singles_within : (ps : List Part) → singles ps ≤ length (pending ps)
singles_within [] = omega arith
singles_within (p ∷ ps) = omega (arith, put_longer p (pending ps), singles_within ps)

-- a token is printed
pub token_printed : (out new word rest : List ℕ) → new ≡ out ++ (word ++ (32 ∷ [])) → new ++ rest ≡ out ++ (word ++ (32 ∷ rest))
token_printed out new word rest e =
    ap (λ l. l ++ rest) e ∙ append_assoc out (word ++ (32 ∷ [])) rest ∙ ap (λ l. out ++ l) (append_assoc word (32 ∷ []) rest)

pub token_less : (p : Part) (ps : List Part) → single p ≡ 1 → extra p ≡ 0 → work ps < work (p ∷ ps)
token_less p ps h k = omega (arith, put_longer p (pending ps), singles_within ps, h, k)

-- a part is taken apart
pub opened_text : (p : Part) (old new : List Part) (added out : List ℕ) → ((rest : List ℕ) → put p rest ≡ added ++ rest) → Opens (extra p) old new added → out ++ pending new ≡ out ++ put p (pending old)
opened_text p old new added out h o = ap (λ l. out ++ l) (o.text ∙ sym (h (pending old)))

pub opened_less : (p : Part) (old new : List Part) (added : List ℕ) → ((rest : List ℕ) → put p rest ≡ added ++ rest) → single p ≡ 0 → Opens (extra p) old new added → work new < work (p ∷ old)
opened_less p old new added h s o =
    let same : length (pending new) ≡ length (put p (pending old)) = ap length (o.text ∙ sym (h (pending old))) in
    let less : singles old + extras new < singles new + (extra p + extras old) = o.less in
    omega (arith, same, less, s, singles_within new, singles_within old, put_longer p (pending old))

-- the first statement is taken apart before the others
pub first_opens : (old mid new : List Part) (head tail : List ℕ) → pending mid ≡ tail ++ pending old → singles mid ≡ 0 + singles old → extras mid ≡ 1 + extras old → Opens 0 mid new head → Opens 1 old new (head ++ tail)
first_opens old mid new head tail t s x o = record {
  text = o.text ∙ ap (λ l. head ++ l) t ∙ sym (append_assoc head tail (pending old));
  less = let less : singles mid + extras new < singles new + (0 + extras mid) = o.less in omega (arith, s, x, less);
}

-- symbols before what follows
abbrev pub says : List Lexeme → List ℕ → List ℕ
says [] rest = rest
says (t ∷ ts) rest = symbol_text t.symbol ++ (32 ∷ says ts rest)

pub spelling_says : (ts : List Lexeme) (rest : List ℕ) → says ts rest ≡ spelling ts ++ rest
spelling_says [] rest = refl
spelling_says (t ∷ ts) rest = ap (λ l. symbol_text t.symbol ++ (32 ∷ l)) (spelling_says ts rest) ∙ sym (append_assoc (symbol_text t.symbol) (32 ∷ spelling ts) rest)

says-append : (xs ys : List Lexeme) (rest : List ℕ) → says (xs ++ ys) rest ≡ says xs (says ys rest)
says-append [] ys rest = refl
says-append (x ∷ xs) ys rest = ap (λ l. symbol_text x.symbol ++ (32 ∷ l)) (says-append xs ys rest)

-- the text of compound nodes, before what follows
pub kind_coll_says : (w : CollWord) (k : Kind) (rest : List ℕ) → coll_text w ++ (32 ∷ (40 ∷ (32 ∷ (spelling (kind_spelt k) ++ (41 ∷ (32 ∷ rest)))))) ≡ spelling (kind_spelt (Coll here w here k here)) ++ rest
kind_coll_says w k rest = simp (spelling-append, append_assoc)

pub let_says : (n : List ℕ) (k : Kind) (e b : Written) (rest : List ℕ) → codes "let" ++ (32 ∷ (name_text n ++ (32 ∷ (58 ∷ (32 ∷ (spelling (kind_spelt k) ++ (61 ∷ (32 ∷ (spelling (spelt e) ++ (codes "in" ++ (32 ∷ (spelling (spelt b) ++ rest))))))))))))
    ≡ spelling (spelt (Let here (name here n) here k here e here b)) ++ rest
let_says n k e b rest =
    sym (ap (λ l. codes "let" ++ (32 ∷ (name_text n ++ (32 ∷ (58 ∷ (32 ∷ l))))))
    (says-append (kind_spelt k) (fixed here (S.Operator O.Eq) ∷ (spelt e ++ (fixed here (S.End E.In) ∷ spelt b))) rest ∙ spelling_says (kind_spelt k) (says (fixed here (S.Operator O.Eq) ∷ (spelt e ++ (fixed here (S.End E.In) ∷ spelt b))) rest)
    ∙ ap (λ l. spelling (kind_spelt k) ++ (61 ∷ (32 ∷ l))) (says-append (spelt e) (fixed here (S.End E.In) ∷ spelt b) rest ∙ spelling_says (spelt e) (says (fixed here (S.End E.In) ∷ spelt b) rest)
    ∙ ap (λ l. spelling (spelt e) ++ (codes "in" ++ (32 ∷ l))) (spelling_says (spelt b) rest))))
    ∙ spelling_says (spelt (Let here (name here n) here k here e here b)) rest

pub iterate_says : (a : Written) (x y : List ℕ) (k : Kind) (i e : Written) (rest : List ℕ)
    → spelling (spelt a) ++ (codes "->" ++ (32 ∷ (codes "iterate" ++ (32 ∷ (40 ∷ (32 ∷ (name_text x ++ (32 ∷ (59 ∷ (32 ∷ (name_text y ++ (32 ∷ (58 ∷ (32 ∷ (spelling (kind_spelt k) ++ (61 ∷ (32 ∷ (spelling (spelt i)
    ++ (124 ∷ (32 ∷ (spelling (spelt e) ++ (41 ∷ (32 ∷ rest)))))))))))))))))))))))
    ≡ spelling (spelt (Iterate a here (name here (codes "iterate")) here (name here x) here (name here y) here k here i here e here)) ++ rest
iterate_says a x y k i e rest = simp (iterate_is_plain, spelling-append, append_assoc)

pub round_says : (w : Written) (rest : List ℕ) → 40 ∷ (32 ∷ (spelling (spelt w) ++ (41 ∷ (32 ∷ rest)))) ≡ spelling (spelt (Round here w here)) ++ rest
round_says w rest = simp spelling-append (simp append_assoc)

-- what is written after what was written
pub joined : (out mid new a b : List ℕ) → mid ≡ out ++ a → new ≡ mid ++ b → new ≡ out ++ (a ++ b)
joined out mid new a b h k = k ∙ ap (λ l. l ++ b) h ∙ append_assoc out a b
