use Rattle.std.specs.Prelude.{bytes_eq}
use Rattle.xmi_text.specs.Scopes.{declared_of}
use Rattle.xmi_text.proofs.Scopes.{levels}
use Rattle.xmi_text.proofs.scope.declared.Goals as goal

pub returns : goal.returns
returns c =
    let s = c.args.scope.now in
    let h = levels (λ d. bytes_eq d.prefix c.args.prefix.now) (declared_of s.first) (declared_of s.second) (declared_of s.third) (declared_of s.fourth) (declared_of s.fifth) (declared_of s.sixth) in
    cc h
