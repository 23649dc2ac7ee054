-- Symbols that are those of an expression, places aside, are those of the same expression with their places in it.
use Rattle.std.proofs.Common.{◌≡◌, ℕ, suc, List, [], ◌∷◌, ◌++◌, refl, sym, ap, ◌∙◌}
use Rattle.std.specs.Prelude.{Bool, map}
use Rattle.atl_base.specs.declared.place.Place.{Place}
use Rattle.atl_tree.specs.declared.expr.BinaryOp.TheVariants as O
use Rattle.ocl_parse.specs.declared.sign.Ender.TheVariants as E
use Rattle.ocl_parse.specs.declared.sign.Sign.TheVariants as S
use Rattle.ocl_parse.specs.declared.symbol.Symbol.{Symbol}
use Rattle.ocl_parse.specs.declared.symbol.Symbol.TheVariants as T
use Rattle.ocl_parse.specs.Symbols.{Lexeme, lexeme}
use Rattle.ocl_parse.specs.Trees.{name, level}
use Rattle.ocl_parse.specs.Grammar.{Written, Number, Words, Lone, Literal, Variable, OfClass, OfBasic, Elements, If, Round, Let, Unary, Binary, Read, Call, Loop, Iterate, Arguments, None, One, More, Kind, Basic, Class, Coll, spelt, listed, kind_spelt, fixed, named, unary_sign, dot_or_arrow, AreSome, Fits, FitAll}
use Rattle.module_grammar.specs.Grammar.{IsContext}
use Rattle.module_print.specs.Writing.{here}
use Rattle.module_laws.specs.Places.{placed_kind, placed, all_placed}
use Rattle.module_laws.proofs.Cutting.{head_same, tail_same, both}

abbrev pub symbols : List Lexeme → List Symbol
symbols ls = map (λ t. t.symbol) ls

-- with what the first of some symbols is, or the parts of them
first_then : (R : Type 0) (s : Symbol) (rs : List Symbol) (ls : List Lexeme) → symbols ls ≡ s ∷ rs → ((p : Place) (rest : List Lexeme) → ls ≡ lexeme p s ∷ rest → symbols rest ≡ rs → R) → R
first_then R s rs [] h on = absurd cc
first_then R s rs (t ∷ ls) h on = on t.place ls (ap (λ it. lexeme t.place it ∷ ls) (head_same s h)) (tail_same h)

abbrev Parts : List Lexeme → List Lexeme → List Lexeme → Type 0
Parts xs ys ls = (a : List Lexeme) × (b : List Lexeme) × (ls ≡ a ++ b) × (symbols a ≡ symbols xs) × (symbols b ≡ symbols ys)

part : (xs ys ls : List Lexeme) → symbols ls ≡ symbols (xs ++ ys) → Parts xs ys ls
part [] ys ls h = ([], ls, refl, refl, h)
part (x ∷ xs) ys [] h = absurd cc
part (x ∷ xs) ys (l ∷ ls) h =
    let r = part xs ys ls (tail_same h) in
    (l ∷ r.0, r.1, ap (λ it. l ∷ it) r.2, ap (λ s. s ∷ symbols r.0) (head_same x.symbol h) ∙ ap (λ it. x.symbol ∷ it) r.3, r.4)

part_then : (R : Type 0) (xs ys ls : List Lexeme) → symbols ls ≡ symbols (xs ++ ys) → ((a b : List Lexeme) → ls ≡ a ++ b → symbols a ≡ symbols xs → symbols b ≡ symbols ys → R) → R
part_then R xs ys ls h on = let r = part xs ys ls h in on r.0 r.1 r.2 r.3 r.4

none : (ls : List Lexeme) → symbols ls ≡ [] → ls ≡ []
none [] h = refl
none (l ∷ ls) h = absurd cc

pub record OfKind (v : Kind) (ls : List Lexeme) : Type 0 where
  pub y : Kind
  pub same : kind_spelt y ≡ ls
  pub away : placed_kind y ≡ placed_kind v
  pub context : IsContext v → IsContext y

pub record Refilled (v : Written) (ls : List Lexeme) : Type 0 where
  pub y : Written
  pub same : spelt y ≡ ls
  pub away : placed y ≡ placed v
  pub fits : (b : Bool) (l d : ℕ) → Fits b l d v → Fits b l d y

pub record AllRefilled (v : Arguments) (ls : List Lexeme) : Type 0 where
  pub y : Arguments
  pub same : listed y ≡ ls
  pub away : all_placed y ≡ all_placed v
  pub fits : (b : Bool) (d : ℕ) → FitAll b d v → FitAll b d y
  pub some : AreSome v → AreSome y

pub refill_kind : (v : Kind) (ls : List Lexeme) → symbols ls ≡ symbols (kind_spelt v) → OfKind v ls
refill_kind (Basic p w) ls h =
    first_then (OfKind (Basic p w) ls) (T.Fixed (S.Basic w)) [] ls h (λ at0 rest0 e0 h0.
    record {
      y = Basic at0 w;
      same = sym (e0 ∙ ap (λ it. lexeme at0 (T.Fixed (S.Basic w)) ∷ it) (none rest0 h0));
      away = refl;
      context = λ f. tt;
    })
refill_kind (Class m p c) ls h =
    first_then (OfKind (Class m p c) ls) (T.Name m.text) (symbols (fixed p S.Bang ∷ (named c ∷ []))) ls h (λ at0 rest0 e0 h0.
    first_then (OfKind (Class m p c) ls) (T.Fixed S.Bang) (symbols (named c ∷ [])) rest0 h0 (λ at1 rest1 e1 h1.
    first_then (OfKind (Class m p c) ls) (T.Name c.text) [] rest1 h1 (λ at2 rest2 e2 h2.
    record {
      y = Class (name at0 m.text) at1 (name at2 c.text);
      same = sym (e0 ∙ ap (λ it. lexeme at0 (T.Name m.text) ∷ it) (e1 ∙ ap (λ it. lexeme at1 (T.Fixed S.Bang) ∷ it) (e2 ∙ ap (λ it. lexeme at2 (T.Name c.text) ∷ it) (none rest2 h2))));
      away = refl;
      context = λ f. tt;
    })))
refill_kind (Coll p w q k r) ls h =
    first_then (OfKind (Coll p w q k r) ls) (T.Fixed (S.Coll w)) (symbols (fixed q S.Open ∷ (kind_spelt k ++ (fixed r (S.End E.Close) ∷ [])))) ls h (λ at0 rest0 e0 h0.
    first_then (OfKind (Coll p w q k r) ls) (T.Fixed S.Open) (symbols (kind_spelt k ++ (fixed r (S.End E.Close) ∷ []))) rest0 h0 (λ at1 rest1 e1 h1.
    part_then (OfKind (Coll p w q k r) ls) (kind_spelt k) (fixed r (S.End E.Close) ∷ []) rest1 h1 (λ front2 rest2 e2 f2 h2.
    let x2 = refill_kind k front2 f2 in
    first_then (OfKind (Coll p w q k r) ls) (T.Fixed (S.End E.Close)) [] rest2 h2 (λ at3 rest3 e3 h3.
    record {
      y = Coll at0 w at1 x2.y at3;
      same = sym (e0 ∙ ap (λ it. lexeme at0 (T.Fixed (S.Coll w)) ∷ it) (e1 ∙ ap (λ it. lexeme at1 (T.Fixed S.Open) ∷ it) (e2 ∙ both (sym x2.same) (e3 ∙ ap (λ it. lexeme at3 (T.Fixed (S.End E.Close)) ∷ it) (none rest3 h3)))));
      away = ap (λ it. Coll here w here it here) x2.away;
      context = λ f. absurd f;
    }))))

mutual
  pub refill : (v : Written) (ls : List Lexeme) → symbols ls ≡ symbols (spelt v) → Refilled v ls
  refill (Number p n) ls h =
      first_then (Refilled (Number p n) ls) (T.Number n) [] ls h (λ at0 rest0 e0 h0.
      record {
        y = Number at0 n;
        same = sym (e0 ∙ ap (λ it. lexeme at0 (T.Number n) ∷ it) (none rest0 h0));
        away = refl;
        fits = λ b l d f. f;
      })
  refill (Words p s) ls h =
      first_then (Refilled (Words p s) ls) (T.Words s) [] ls h (λ at0 rest0 e0 h0.
      record {
        y = Words at0 s;
        same = sym (e0 ∙ ap (λ it. lexeme at0 (T.Words s) ∷ it) (none rest0 h0));
        away = refl;
        fits = λ b l d f. f;
      })
  refill (Lone p c) ls h =
      first_then (Refilled (Lone p c) ls) (T.Fixed (S.Constant c)) [] ls h (λ at0 rest0 e0 h0.
      record {
        y = Lone at0 c;
        same = sym (e0 ∙ ap (λ it. lexeme at0 (T.Fixed (S.Constant c)) ∷ it) (none rest0 h0));
        away = refl;
        fits = λ b l d f. f;
      })
  refill (Literal p n) ls h =
      first_then (Refilled (Literal p n) ls) (T.Fixed S.Hash) (symbols (named n ∷ [])) ls h (λ at0 rest0 e0 h0.
      first_then (Refilled (Literal p n) ls) (T.Name n.text) [] rest0 h0 (λ at1 rest1 e1 h1.
      record {
        y = Literal at0 (name at1 n.text);
        same = sym (e0 ∙ ap (λ it. lexeme at0 (T.Fixed S.Hash) ∷ it) (e1 ∙ ap (λ it. lexeme at1 (T.Name n.text) ∷ it) (none rest1 h1)));
        away = refl;
        fits = λ b l d f. f;
      }))
  refill (Variable n) ls h =
      first_then (Refilled (Variable n) ls) (T.Name n.text) [] ls h (λ at0 rest0 e0 h0.
      record {
        y = Variable (name at0 n.text);
        same = sym (e0 ∙ ap (λ it. lexeme at0 (T.Name n.text) ∷ it) (none rest0 h0));
        away = refl;
        fits = λ b l d f. f;
      })
  refill (OfClass m p c) ls h =
      first_then (Refilled (OfClass m p c) ls) (T.Name m.text) (symbols (fixed p S.Bang ∷ (named c ∷ []))) ls h (λ at0 rest0 e0 h0.
      first_then (Refilled (OfClass m p c) ls) (T.Fixed S.Bang) (symbols (named c ∷ [])) rest0 h0 (λ at1 rest1 e1 h1.
      first_then (Refilled (OfClass m p c) ls) (T.Name c.text) [] rest1 h1 (λ at2 rest2 e2 h2.
      record {
        y = OfClass (name at0 m.text) at1 (name at2 c.text);
        same = sym (e0 ∙ ap (λ it. lexeme at0 (T.Name m.text) ∷ it) (e1 ∙ ap (λ it. lexeme at1 (T.Fixed S.Bang) ∷ it) (e2 ∙ ap (λ it. lexeme at2 (T.Name c.text) ∷ it) (none rest2 h2))));
        away = refl;
        fits = λ b l d f. f;
      })))
  refill (OfBasic p w) ls h =
      first_then (Refilled (OfBasic p w) ls) (T.Fixed (S.Basic w)) [] ls h (λ at0 rest0 e0 h0.
      record {
        y = OfBasic at0 w;
        same = sym (e0 ∙ ap (λ it. lexeme at0 (T.Fixed (S.Basic w)) ∷ it) (none rest0 h0));
        away = refl;
        fits = λ b l d f. f;
      })
  refill (Elements p w q es r) ls h =
      first_then (Refilled (Elements p w q es r) ls) (T.Fixed (S.Coll w)) (symbols (fixed q S.OpenBrace ∷ (listed es ++ (fixed r (S.End E.CloseBrace) ∷ [])))) ls h (λ at0 rest0 e0 h0.
      first_then (Refilled (Elements p w q es r) ls) (T.Fixed S.OpenBrace) (symbols (listed es ++ (fixed r (S.End E.CloseBrace) ∷ []))) rest0 h0 (λ at1 rest1 e1 h1.
      part_then (Refilled (Elements p w q es r) ls) (listed es) (fixed r (S.End E.CloseBrace) ∷ []) rest1 h1 (λ front2 rest2 e2 f2 h2.
      let x2 = refill_all es front2 f2 in
      first_then (Refilled (Elements p w q es r) ls) (T.Fixed (S.End E.CloseBrace)) [] rest2 h2 (λ at3 rest3 e3 h3.
      record {
        y = Elements at0 w at1 x2.y at3;
        same = sym (e0 ∙ ap (λ it. lexeme at0 (T.Fixed (S.Coll w)) ∷ it) (e1 ∙ ap (λ it. lexeme at1 (T.Fixed S.OpenBrace) ∷ it) (e2 ∙ both (sym x2.same) (e3 ∙ ap (λ it. lexeme at3 (T.Fixed (S.End E.CloseBrace)) ∷ it) (none rest3 h3)))));
        away = ap (λ it. Elements here w here it here) x2.away;
        fits = λ b l d f. (f.0, x2.fits b (suc d) f.1);
      }))))
  refill (If p c q a r e s) ls h =
      first_then (Refilled (If p c q a r e s) ls) (T.Fixed S.If) (symbols (spelt c ++ (fixed q (S.End E.Then) ∷ (spelt a ++ (fixed r (S.End E.Else) ∷ (spelt e ++ (fixed s (S.End E.Endif) ∷ []))))))) ls h (λ at0 rest0 e0 h0.
      part_then (Refilled (If p c q a r e s) ls) (spelt c) (fixed q (S.End E.Then) ∷ (spelt a ++ (fixed r (S.End E.Else) ∷ (spelt e ++ (fixed s (S.End E.Endif) ∷ []))))) rest0 h0 (λ front1 rest1 e1 f1 h1.
      let x1 = refill c front1 f1 in
      first_then (Refilled (If p c q a r e s) ls) (T.Fixed (S.End E.Then)) (symbols (spelt a ++ (fixed r (S.End E.Else) ∷ (spelt e ++ (fixed s (S.End E.Endif) ∷ []))))) rest1 h1 (λ at2 rest2 e2 h2.
      part_then (Refilled (If p c q a r e s) ls) (spelt a) (fixed r (S.End E.Else) ∷ (spelt e ++ (fixed s (S.End E.Endif) ∷ []))) rest2 h2 (λ front3 rest3 e3 f3 h3.
      let x3 = refill a front3 f3 in
      first_then (Refilled (If p c q a r e s) ls) (T.Fixed (S.End E.Else)) (symbols (spelt e ++ (fixed s (S.End E.Endif) ∷ []))) rest3 h3 (λ at4 rest4 e4 h4.
      part_then (Refilled (If p c q a r e s) ls) (spelt e) (fixed s (S.End E.Endif) ∷ []) rest4 h4 (λ front5 rest5 e5 f5 h5.
      let x5 = refill e front5 f5 in
      first_then (Refilled (If p c q a r e s) ls) (T.Fixed (S.End E.Endif)) [] rest5 h5 (λ at6 rest6 e6 h6.
      record {
        y = If at0 x1.y at2 x3.y at4 x5.y at6;
        same = sym (e0 ∙ ap (λ it. lexeme at0 (T.Fixed S.If) ∷ it) (e1 ∙ both (sym x1.same) (e2 ∙ ap (λ it. lexeme at2 (T.Fixed (S.End E.Then)) ∷ it) (e3 ∙ both (sym x3.same) (e4 ∙ ap (λ it. lexeme at4 (T.Fixed (S.End E.Else)) ∷ it) (e5 ∙ both (sym x5.same) (e6 ∙ ap (λ it. lexeme at6 (T.Fixed (S.End E.Endif)) ∷ it) (none rest6 h6))))))));
        away = ap (λ it. If here it here (placed x3.y) here (placed x5.y) here) x1.away ∙ ap (λ it. If here (placed c) here it here (placed x5.y) here) x3.away ∙ ap (λ it. If here (placed c) here (placed a) here it here) x5.away;
        fits = λ b l d f. (f.0, x1.fits b 0 (suc d) f.1, x3.fits b 0 (suc d) f.2, x5.fits b 0 (suc d) f.3);
      })))))))
  refill (Round p w q) ls h =
      first_then (Refilled (Round p w q) ls) (T.Fixed S.Open) (symbols (spelt w ++ (fixed q (S.End E.Close) ∷ []))) ls h (λ at0 rest0 e0 h0.
      part_then (Refilled (Round p w q) ls) (spelt w) (fixed q (S.End E.Close) ∷ []) rest0 h0 (λ front1 rest1 e1 f1 h1.
      let x1 = refill w front1 f1 in
      first_then (Refilled (Round p w q) ls) (T.Fixed (S.End E.Close)) [] rest1 h1 (λ at2 rest2 e2 h2.
      record {
        y = Round at0 x1.y at2;
        same = sym (e0 ∙ ap (λ it. lexeme at0 (T.Fixed S.Open) ∷ it) (e1 ∙ both (sym x1.same) (e2 ∙ ap (λ it. lexeme at2 (T.Fixed (S.End E.Close)) ∷ it) (none rest2 h2))));
        away = ap (λ it. Round here it here) x1.away;
        fits = λ b l d f. (f.0, x1.fits b 0 (suc d) f.1);
      })))
  refill (Let p n q k r e s w) ls h =
      first_then (Refilled (Let p n q k r e s w) ls) (T.Fixed S.Let) (symbols (named n ∷ (fixed q S.Colon ∷ (kind_spelt k ++ (fixed r (S.Operator O.Eq) ∷ (spelt e ++ (fixed s (S.End E.In) ∷ (spelt w)))))))) ls h (λ at0 rest0 e0 h0.
      first_then (Refilled (Let p n q k r e s w) ls) (T.Name n.text) (symbols (fixed q S.Colon ∷ (kind_spelt k ++ (fixed r (S.Operator O.Eq) ∷ (spelt e ++ (fixed s (S.End E.In) ∷ (spelt w))))))) rest0 h0 (λ at1 rest1 e1 h1.
      first_then (Refilled (Let p n q k r e s w) ls) (T.Fixed S.Colon) (symbols (kind_spelt k ++ (fixed r (S.Operator O.Eq) ∷ (spelt e ++ (fixed s (S.End E.In) ∷ (spelt w)))))) rest1 h1 (λ at2 rest2 e2 h2.
      part_then (Refilled (Let p n q k r e s w) ls) (kind_spelt k) (fixed r (S.Operator O.Eq) ∷ (spelt e ++ (fixed s (S.End E.In) ∷ (spelt w)))) rest2 h2 (λ front3 rest3 e3 f3 h3.
      let x3 = refill_kind k front3 f3 in
      first_then (Refilled (Let p n q k r e s w) ls) (T.Fixed (S.Operator O.Eq)) (symbols (spelt e ++ (fixed s (S.End E.In) ∷ (spelt w)))) rest3 h3 (λ at4 rest4 e4 h4.
      part_then (Refilled (Let p n q k r e s w) ls) (spelt e) (fixed s (S.End E.In) ∷ (spelt w)) rest4 h4 (λ front5 rest5 e5 f5 h5.
      let x5 = refill e front5 f5 in
      first_then (Refilled (Let p n q k r e s w) ls) (T.Fixed (S.End E.In)) (symbols (spelt w)) rest5 h5 (λ at6 rest6 e6 h6.
      let x7 = refill w rest6 h6 in
      record {
        y = Let at0 (name at1 n.text) at2 x3.y at4 x5.y at6 x7.y;
        same = sym (e0 ∙ ap (λ it. lexeme at0 (T.Fixed S.Let) ∷ it) (e1 ∙ ap (λ it. lexeme at1 (T.Name n.text) ∷ it) (e2 ∙ ap (λ it. lexeme at2 (T.Fixed S.Colon) ∷ it) (e3 ∙ both (sym x3.same) (e4 ∙ ap (λ it. lexeme at4 (T.Fixed (S.Operator O.Eq)) ∷ it) (e5 ∙ both (sym x5.same) (e6 ∙ ap (λ it. lexeme at6 (T.Fixed (S.End E.In)) ∷ it) (sym x7.same))))))));
        away = ap (λ it. Let here (name here n.text) here it here (placed x5.y) here (placed x7.y)) x3.away ∙ ap (λ it. Let here (name here n.text) here (placed_kind k) here it here (placed x7.y)) x5.away ∙ ap (λ it. Let here (name here n.text) here (placed_kind k) here (placed e) here it) x7.away;
        fits = λ b l d f. (f.0, f.1, x5.fits b 0 (suc d) f.2, x7.fits b 0 (suc d) f.3);
      })))))))
  refill (Unary p o w) ls h =
      first_then (Refilled (Unary p o w) ls) (T.Fixed (unary_sign o)) (symbols (spelt w)) ls h (λ at0 rest0 e0 h0.
      let x1 = refill w rest0 h0 in
      record {
        y = Unary at0 o x1.y;
        same = sym (e0 ∙ ap (λ it. lexeme at0 (T.Fixed (unary_sign o)) ∷ it) (sym x1.same));
        away = ap (λ it. Unary here o it) x1.away;
        fits = λ b l d f. (f.0, f.1, x1.fits b 5 (suc d) f.2);
      })
  refill (Binary a p o w) ls h =
      part_then (Refilled (Binary a p o w) ls) (spelt a) (fixed p (S.Operator o) ∷ (spelt w)) ls h (λ front0 rest0 e0 f0 h0.
      let x0 = refill a front0 f0 in
      first_then (Refilled (Binary a p o w) ls) (T.Fixed (S.Operator o)) (symbols (spelt w)) rest0 h0 (λ at1 rest1 e1 h1.
      let x2 = refill w rest1 h1 in
      record {
        y = Binary x0.y at1 o x2.y;
        same = sym (e0 ∙ both (sym x0.same) (e1 ∙ ap (λ it. lexeme at1 (T.Fixed (S.Operator o)) ∷ it) (sym x2.same)));
        away = ap (λ it. Binary it here o (placed x2.y)) x0.away ∙ ap (λ it. Binary (placed a) here o it) x2.away;
        fits = λ b l d f. (f.0, x0.fits b (level o) d f.1, x2.fits b (suc (level o)) d f.2);
      }))
  refill (Read a p n) ls h =
      part_then (Refilled (Read a p n) ls) (spelt a) (fixed p S.Dot ∷ (named n ∷ [])) ls h (λ front0 rest0 e0 f0 h0.
      let x0 = refill a front0 f0 in
      first_then (Refilled (Read a p n) ls) (T.Fixed S.Dot) (symbols (named n ∷ [])) rest0 h0 (λ at1 rest1 e1 h1.
      first_then (Refilled (Read a p n) ls) (T.Name n.text) [] rest1 h1 (λ at2 rest2 e2 h2.
      record {
        y = Read x0.y at1 (name at2 n.text);
        same = sym (e0 ∙ both (sym x0.same) (e1 ∙ ap (λ it. lexeme at1 (T.Fixed S.Dot) ∷ it) (e2 ∙ ap (λ it. lexeme at2 (T.Name n.text) ∷ it) (none rest2 h2))));
        away = ap (λ it. Read it here (name here n.text)) x0.away;
        fits = λ b l d f. x0.fits b 6 d f;
      })))
  refill (Call a arrow p n q es r) ls h =
      part_then (Refilled (Call a arrow p n q es r) ls) (spelt a) (fixed p (dot_or_arrow arrow) ∷ (named n ∷ (fixed q S.Open ∷ (listed es ++ (fixed r (S.End E.Close) ∷ []))))) ls h (λ front0 rest0 e0 f0 h0.
      let x0 = refill a front0 f0 in
      first_then (Refilled (Call a arrow p n q es r) ls) (T.Fixed (dot_or_arrow arrow)) (symbols (named n ∷ (fixed q S.Open ∷ (listed es ++ (fixed r (S.End E.Close) ∷ []))))) rest0 h0 (λ at1 rest1 e1 h1.
      first_then (Refilled (Call a arrow p n q es r) ls) (T.Name n.text) (symbols (fixed q S.Open ∷ (listed es ++ (fixed r (S.End E.Close) ∷ [])))) rest1 h1 (λ at2 rest2 e2 h2.
      first_then (Refilled (Call a arrow p n q es r) ls) (T.Fixed S.Open) (symbols (listed es ++ (fixed r (S.End E.Close) ∷ []))) rest2 h2 (λ at3 rest3 e3 h3.
      part_then (Refilled (Call a arrow p n q es r) ls) (listed es) (fixed r (S.End E.Close) ∷ []) rest3 h3 (λ front4 rest4 e4 f4 h4.
      let x4 = refill_all es front4 f4 in
      first_then (Refilled (Call a arrow p n q es r) ls) (T.Fixed (S.End E.Close)) [] rest4 h4 (λ at5 rest5 e5 h5.
      record {
        y = Call x0.y arrow at1 (name at2 n.text) at3 x4.y at5;
        same = sym (e0 ∙ both (sym x0.same) (e1 ∙ ap (λ it. lexeme at1 (T.Fixed (dot_or_arrow arrow)) ∷ it) (e2 ∙ ap (λ it. lexeme at2 (T.Name n.text) ∷ it) (e3 ∙ ap (λ it. lexeme at3 (T.Fixed S.Open) ∷ it) (e4 ∙ both (sym x4.same) (e5 ∙ ap (λ it. lexeme at5 (T.Fixed (S.End E.Close)) ∷ it) (none rest5 h5)))))));
        away = ap (λ it. Call it arrow here (name here n.text) here (all_placed x4.y) here) x0.away ∙ ap (λ it. Call (placed a) arrow here (name here n.text) here it here) x4.away;
        fits = λ b l d f. (x0.fits b 6 d f.0, x4.fits b (suc d) f.1);
      }))))))
  refill (Loop a p n q x r e s) ls h =
      part_then (Refilled (Loop a p n q x r e s) ls) (spelt a) (fixed p S.Arrow ∷ (named n ∷ (fixed q S.Open ∷ (named x ∷ (fixed r (S.End E.Bar) ∷ (spelt e ++ (fixed s (S.End E.Close) ∷ []))))))) ls h (λ front0 rest0 e0 f0 h0.
      let x0 = refill a front0 f0 in
      first_then (Refilled (Loop a p n q x r e s) ls) (T.Fixed S.Arrow) (symbols (named n ∷ (fixed q S.Open ∷ (named x ∷ (fixed r (S.End E.Bar) ∷ (spelt e ++ (fixed s (S.End E.Close) ∷ []))))))) rest0 h0 (λ at1 rest1 e1 h1.
      first_then (Refilled (Loop a p n q x r e s) ls) (T.Name n.text) (symbols (fixed q S.Open ∷ (named x ∷ (fixed r (S.End E.Bar) ∷ (spelt e ++ (fixed s (S.End E.Close) ∷ [])))))) rest1 h1 (λ at2 rest2 e2 h2.
      first_then (Refilled (Loop a p n q x r e s) ls) (T.Fixed S.Open) (symbols (named x ∷ (fixed r (S.End E.Bar) ∷ (spelt e ++ (fixed s (S.End E.Close) ∷ []))))) rest2 h2 (λ at3 rest3 e3 h3.
      first_then (Refilled (Loop a p n q x r e s) ls) (T.Name x.text) (symbols (fixed r (S.End E.Bar) ∷ (spelt e ++ (fixed s (S.End E.Close) ∷ [])))) rest3 h3 (λ at4 rest4 e4 h4.
      first_then (Refilled (Loop a p n q x r e s) ls) (T.Fixed (S.End E.Bar)) (symbols (spelt e ++ (fixed s (S.End E.Close) ∷ []))) rest4 h4 (λ at5 rest5 e5 h5.
      part_then (Refilled (Loop a p n q x r e s) ls) (spelt e) (fixed s (S.End E.Close) ∷ []) rest5 h5 (λ front6 rest6 e6 f6 h6.
      let x6 = refill e front6 f6 in
      first_then (Refilled (Loop a p n q x r e s) ls) (T.Fixed (S.End E.Close)) [] rest6 h6 (λ at7 rest7 e7 h7.
      record {
        y = Loop x0.y at1 (name at2 n.text) at3 (name at4 x.text) at5 x6.y at7;
        same = sym (e0 ∙ both (sym x0.same) (e1 ∙ ap (λ it. lexeme at1 (T.Fixed S.Arrow) ∷ it) (e2 ∙ ap (λ it. lexeme at2 (T.Name n.text) ∷ it) (e3 ∙ ap (λ it. lexeme at3 (T.Fixed S.Open) ∷ it) (e4 ∙ ap (λ it. lexeme at4 (T.Name x.text) ∷ it) (e5 ∙ ap (λ it. lexeme at5 (T.Fixed (S.End E.Bar)) ∷ it) (e6 ∙ both (sym x6.same) (e7 ∙ ap (λ it. lexeme at7 (T.Fixed (S.End E.Close)) ∷ it) (none rest7 h7)))))))));
        away = ap (λ it. Loop it here (name here n.text) here (name here x.text) here (placed x6.y) here) x0.away ∙ ap (λ it. Loop (placed a) here (name here n.text) here (name here x.text) here it here) x6.away;
        fits = λ b l d f. (f.0, x0.fits b 6 d f.1, x6.fits b 0 (suc d) f.2);
      }))))))))
  refill (Iterate a p n q x r y s k t i u e v) ls h =
      part_then (Refilled (Iterate a p n q x r y s k t i u e v) ls) (spelt a) (fixed p S.Arrow ∷ (named n ∷ (fixed q S.Open ∷ (named x ∷ (fixed r S.Semicolon ∷ (named y ∷ (fixed s S.Colon ∷ (kind_spelt k ++ (fixed t (S.Operator O.Eq) ∷ (spelt i ++ (fixed u (S.End E.Bar) ∷ (spelt e ++ (fixed v (S.End E.Close) ∷ []))))))))))))) ls h (λ front0 rest0 e0 f0 h0.
      let x0 = refill a front0 f0 in
      first_then (Refilled (Iterate a p n q x r y s k t i u e v) ls) (T.Fixed S.Arrow) (symbols (named n ∷ (fixed q S.Open ∷ (named x ∷ (fixed r S.Semicolon ∷ (named y ∷ (fixed s S.Colon ∷ (kind_spelt k ++ (fixed t (S.Operator O.Eq) ∷ (spelt i ++ (fixed u (S.End E.Bar) ∷ (spelt e ++ (fixed v (S.End E.Close) ∷ []))))))))))))) rest0 h0 (λ at1 rest1 e1 h1.
      first_then (Refilled (Iterate a p n q x r y s k t i u e v) ls) (T.Name n.text) (symbols (fixed q S.Open ∷ (named x ∷ (fixed r S.Semicolon ∷ (named y ∷ (fixed s S.Colon ∷ (kind_spelt k ++ (fixed t (S.Operator O.Eq) ∷ (spelt i ++ (fixed u (S.End E.Bar) ∷ (spelt e ++ (fixed v (S.End E.Close) ∷ [])))))))))))) rest1 h1 (λ at2 rest2 e2 h2.
      first_then (Refilled (Iterate a p n q x r y s k t i u e v) ls) (T.Fixed S.Open) (symbols (named x ∷ (fixed r S.Semicolon ∷ (named y ∷ (fixed s S.Colon ∷ (kind_spelt k ++ (fixed t (S.Operator O.Eq) ∷ (spelt i ++ (fixed u (S.End E.Bar) ∷ (spelt e ++ (fixed v (S.End E.Close) ∷ []))))))))))) rest2 h2 (λ at3 rest3 e3 h3.
      first_then (Refilled (Iterate a p n q x r y s k t i u e v) ls) (T.Name x.text) (symbols (fixed r S.Semicolon ∷ (named y ∷ (fixed s S.Colon ∷ (kind_spelt k ++ (fixed t (S.Operator O.Eq) ∷ (spelt i ++ (fixed u (S.End E.Bar) ∷ (spelt e ++ (fixed v (S.End E.Close) ∷ [])))))))))) rest3 h3 (λ at4 rest4 e4 h4.
      first_then (Refilled (Iterate a p n q x r y s k t i u e v) ls) (T.Fixed S.Semicolon) (symbols (named y ∷ (fixed s S.Colon ∷ (kind_spelt k ++ (fixed t (S.Operator O.Eq) ∷ (spelt i ++ (fixed u (S.End E.Bar) ∷ (spelt e ++ (fixed v (S.End E.Close) ∷ []))))))))) rest4 h4 (λ at5 rest5 e5 h5.
      first_then (Refilled (Iterate a p n q x r y s k t i u e v) ls) (T.Name y.text) (symbols (fixed s S.Colon ∷ (kind_spelt k ++ (fixed t (S.Operator O.Eq) ∷ (spelt i ++ (fixed u (S.End E.Bar) ∷ (spelt e ++ (fixed v (S.End E.Close) ∷ [])))))))) rest5 h5 (λ at6 rest6 e6 h6.
      first_then (Refilled (Iterate a p n q x r y s k t i u e v) ls) (T.Fixed S.Colon) (symbols (kind_spelt k ++ (fixed t (S.Operator O.Eq) ∷ (spelt i ++ (fixed u (S.End E.Bar) ∷ (spelt e ++ (fixed v (S.End E.Close) ∷ []))))))) rest6 h6 (λ at7 rest7 e7 h7.
      part_then (Refilled (Iterate a p n q x r y s k t i u e v) ls) (kind_spelt k) (fixed t (S.Operator O.Eq) ∷ (spelt i ++ (fixed u (S.End E.Bar) ∷ (spelt e ++ (fixed v (S.End E.Close) ∷ []))))) rest7 h7 (λ front8 rest8 e8 f8 h8.
      let x8 = refill_kind k front8 f8 in
      first_then (Refilled (Iterate a p n q x r y s k t i u e v) ls) (T.Fixed (S.Operator O.Eq)) (symbols (spelt i ++ (fixed u (S.End E.Bar) ∷ (spelt e ++ (fixed v (S.End E.Close) ∷ []))))) rest8 h8 (λ at9 rest9 e9 h9.
      part_then (Refilled (Iterate a p n q x r y s k t i u e v) ls) (spelt i) (fixed u (S.End E.Bar) ∷ (spelt e ++ (fixed v (S.End E.Close) ∷ []))) rest9 h9 (λ front10 rest10 e10 f10 h10.
      let x10 = refill i front10 f10 in
      first_then (Refilled (Iterate a p n q x r y s k t i u e v) ls) (T.Fixed (S.End E.Bar)) (symbols (spelt e ++ (fixed v (S.End E.Close) ∷ []))) rest10 h10 (λ at11 rest11 e11 h11.
      part_then (Refilled (Iterate a p n q x r y s k t i u e v) ls) (spelt e) (fixed v (S.End E.Close) ∷ []) rest11 h11 (λ front12 rest12 e12 f12 h12.
      let x12 = refill e front12 f12 in
      first_then (Refilled (Iterate a p n q x r y s k t i u e v) ls) (T.Fixed (S.End E.Close)) [] rest12 h12 (λ at13 rest13 e13 h13.
      record {
        y = Iterate x0.y at1 (name at2 n.text) at3 (name at4 x.text) at5 (name at6 y.text) at7 x8.y at9 x10.y at11 x12.y at13;
        same = sym (e0 ∙ both (sym x0.same) (e1 ∙ ap (λ it. lexeme at1 (T.Fixed S.Arrow) ∷ it) (e2 ∙ ap (λ it. lexeme at2 (T.Name n.text) ∷ it) (e3 ∙ ap (λ it. lexeme at3 (T.Fixed S.Open) ∷ it) (e4 ∙ ap (λ it. lexeme at4 (T.Name x.text) ∷ it) (e5 ∙ ap (λ it. lexeme at5 (T.Fixed S.Semicolon) ∷ it) (e6 ∙ ap (λ it. lexeme at6 (T.Name y.text) ∷ it) (e7 ∙ ap (λ it. lexeme at7 (T.Fixed S.Colon) ∷ it) (e8 ∙ both (sym x8.same) (e9 ∙ ap (λ it. lexeme at9 (T.Fixed (S.Operator O.Eq)) ∷ it) (e10 ∙ both (sym x10.same) (e11 ∙ ap (λ it. lexeme at11 (T.Fixed (S.End E.Bar)) ∷ it) (e12 ∙ both (sym x12.same) (e13 ∙ ap (λ it. lexeme at13 (T.Fixed (S.End E.Close)) ∷ it) (none rest13 h13)))))))))))))));
        away = ap (λ it. Iterate it here (name here n.text) here (name here x.text) here (name here y.text) here (placed_kind x8.y) here (placed x10.y) here (placed x12.y) here) x0.away ∙ ap (λ it. Iterate (placed a) here (name here n.text) here (name here x.text) here (name here y.text) here it here (placed x10.y) here (placed x12.y) here) x8.away ∙ ap (λ it. Iterate (placed a) here (name here n.text) here (name here x.text) here (name here y.text) here (placed_kind k) here it here (placed x12.y) here) x10.away ∙ ap (λ it. Iterate (placed a) here (name here n.text) here (name here x.text) here (name here y.text) here (placed_kind k) here (placed i) here it here) x12.away;
        fits = λ b l d f. (f.0, x0.fits b 6 d f.1, x10.fits b 0 (suc d) f.2, x12.fits b 0 (suc d) f.3);
      }))))))))))))))

  refill_all : (v : Arguments) (ls : List Lexeme) → symbols ls ≡ symbols (listed v) → AllRefilled v ls
  refill_all None ls h =
      record {
        y = None;
        same = sym (none ls h);
        away = refl;
        fits = λ b d f. tt;
        some = λ f. absurd f;
      }
  refill_all (One e) ls h =
      let x0 = refill e ls h in
      record {
        y = One x0.y;
        same = sym (sym x0.same);
        away = ap (λ it. One it) x0.away;
        fits = λ b d f. x0.fits b 0 d f;
        some = λ f. tt;
      }
  refill_all (More es p e) ls h =
      part_then (AllRefilled (More es p e) ls) (listed es) (fixed p (S.End E.Comma) ∷ (spelt e)) ls h (λ front0 rest0 e0 f0 h0.
      let x0 = refill_all es front0 f0 in
      first_then (AllRefilled (More es p e) ls) (T.Fixed (S.End E.Comma)) (symbols (spelt e)) rest0 h0 (λ at1 rest1 e1 h1.
      let x2 = refill e rest1 h1 in
      record {
        y = More x0.y at1 x2.y;
        same = sym (e0 ∙ both (sym x0.same) (e1 ∙ ap (λ it. lexeme at1 (T.Fixed (S.End E.Comma)) ∷ it) (sym x2.same)));
        away = ap (λ it. More it here (placed x2.y)) x0.away ∙ ap (λ it. More (all_placed es) here it) x2.away;
        fits = λ b d f. (x0.some f.0, x0.fits b d f.1, x2.fits b 0 d f.2);
        some = λ f. tt;
      }))
