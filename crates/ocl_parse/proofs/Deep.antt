-- How deep an expression stands, against the number of what is open.
use Rattle.std.proofs.Common.{ℕ, suc, ◌≤◌, List, [], ◌∷◌, length, arith}
use Rattle.ocl_parse.specs.declared.frame.Frame.{Frame}
use Rattle.ocl_parse.specs.declared.frame.Frame.TheVariants.{Left}
use Rattle.ocl_parse.specs.Depth.{deepened, deep}

one_more : (f : Frame) (d n : ℕ) → d ≤ n → deepened f d ≤ suc n
one_more (Left a p o) d n h = omega (arith, h)
one_more f d n h = omega (arith, h)

pub deep-within : (fs : List Frame) → deep fs ≤ length fs
deep-within [] = omega arith
deep-within (f ∷ fs) = one_more f (deep fs) (length fs) (deep-within fs)
