use Rattle.std.proofs.Common.{sym, ap, ◌∙◌, ◌++◌, ◌∷◌, arith}
use Rattle.std.specs.Prelude.{reverse}
use Rattle.ocl_parse.specs.Grammar.{Basic, kind_spelt}
use Rattle.module_print.specs.Pending.{pending, spelling, kind_text}
use Rattle.module_print.specs.Printed.{coll_text}
use Rattle.module_print.specs.Writing.{here, kind_written}
use Rattle.module_print.proofs.Opened.{OnOk-then, kind_coll_says, spelling_says}
use Rattle.module_print.proofs.Layers.{kind-Basic, kind-Class, kind-Coll}
use Rattle.module_print.proofs.print.expression.open_kind.Goals as goal

pub returns-in-Basic : goal.returns-in-Basic
returns-in-Basic c = OnOk-then c.push_all.result c.push_all.ensures (λ e. let rest = pending (reverse c.args.stack.now.items) in record {
  text = ap pending e ∙ spelling_says (kind_spelt (Basic here c.in-Basic.word)) rest ∙ ap (λ k. spelling (kind_spelt k) ++ rest) (sym (kind-Basic c.args.kind.now c.in-Basic.word c.in-Basic.is));
  less = rw e (omega arith);
})

pub returns-in-Class : goal.returns-in-Class
returns-in-Class c = rw (kind-Class c.args.kind.now c.in-Class.class c.in-Class.is) c.open_class.ensures

pub returns-in-Coll : goal.returns-in-Coll
returns-in-Coll c = OnOk-then c.push_all-in-Coll.result c.push_all-in-Coll.ensures (λ e. let rest = pending (reverse c.args.stack.now.items) in record {
  text = ap pending e ∙ ap (λ k. coll_text c.in-Coll.word ++ (32 ∷ (40 ∷ (32 ∷ (kind_text k ++ (41 ∷ (32 ∷ rest))))))) c.get.ensures
      ∙ kind_coll_says c.in-Coll.word (kind_written c.in-Coll.inner) rest ∙ ap (λ k. spelling (kind_spelt k) ++ rest) (sym (kind-Coll c.args.kind.now c.in-Coll.word c.in-Coll.inner c.in-Coll.is));
  less = rw e (omega arith);
})
