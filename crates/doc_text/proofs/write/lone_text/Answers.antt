use Rattle.doc_text.proofs.WrittenElements.{lone_words, lone_element}
use Rattle.doc_text.proofs.write.lone_text.Goals as goal

pub returns-in-Words : goal.returns-in-Words
returns-in-Words c ds = lone_words ds c.args.children.now c.index-children-0.result c.in-Words.text c.if-children-ne1.false c.index-children-0.is c.in-Words.is

pub returns-in-Sub : goal.returns-in-Sub
returns-in-Sub c ds = lone_element ds c.args.children.now c.index-children-0.result c.in-Sub.field-0 c.if-children-ne1.false c.index-children-0.is c.in-Sub.is
