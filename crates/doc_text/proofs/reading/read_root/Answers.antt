use Rattle.std.proofs.Common.{List, subst, sym}
use Rattle.doc_text.specs.Symbols.{AreSound, Symbol}
use Rattle.doc_text.proofs.Sounds.{symbols_sound}
use Rattle.doc_text.proofs.reading.read_root.Goals as goal

pub run-requires : goal.run-requires
run-requires c =
    let P : List Symbol → Type 0 = λ ss. AreSound ss in
    subst P (sym c.new.ensures.symbols) (symbols_sound c.args.bytes.now)
