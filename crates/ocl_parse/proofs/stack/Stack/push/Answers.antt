use Rattle.std.proofs.Common.{[], ◌∷◌, ap, length, arith, length-append}
use Rattle.std.specs.Prelude.{reverse}
use Rattle.std.proofs.lemmas.List.{length-reverse}
use Rattle.ocl_parse.proofs.Deep.{deep-within}
use Rattle.ocl_parse.proofs.stack.Stack.push.Goals as goal

pub prove-unreachable-requires : goal.prove-unreachable-requires
prove-unreachable-requires c =
    let frames = c.self.inside.frames in
    omega (arith, c.if-prove.true, c.len.ensures, ap length c.in_ok-push.ensures.ok, length-append frames (c.args.frame ∷ []), c.self.invariant, deep-within (reverse frames), length-reverse frames)
