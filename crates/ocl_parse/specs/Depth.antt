-- How deep an expression stands: one deeper in each construct round it, but for the operators that it is an operand of.
use Rattle.std.specs.Prelude.{ℕ, suc, List, [], ◌∷◌, Bool, true, if◌then◌else◌, nat_le}
use Rattle.ocl_parse.specs.declared.frame.Frame.{Frame}
use Rattle.ocl_parse.specs.declared.frame.Frame.TheVariants.{Left}

abbrev pub deepened : Frame → ℕ → ℕ
deepened (Left a p o) d = d
deepened f d = suc d

abbrev pub deep : List Frame → ℕ
deep [] = 0
deep (f ∷ fs) = deepened f (deep fs)

-- a condition counts where b says so
abbrev pub passes : Bool → Bool → Bool
passes b t = if b then t else true

-- an expression may stand so deep
abbrev pub is_shallow : Bool → ℕ → Bool
is_shallow b d = passes b (nat_le d 200)
