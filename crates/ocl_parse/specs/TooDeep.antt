-- How many symbols stand, in reading order, before the first expression that stands more than 200 deep.
use Rattle.std.specs.Prelude.{ℕ, suc, ◌+◌, length, true, Option, None, Some, if◌then◌else◌}
use Rattle.ocl_parse.specs.Depth.{is_shallow}
use Rattle.ocl_parse.specs.Grammar.{kind_spelt, spelt}
use Rattle.ocl_parse.specs.Grammar as G

-- an expression that begins here, d deep
abbrev pub here : ℕ → Option ℕ
here d = if is_shallow true d then None else Some 0

abbrev pub or_else : Option ℕ → Option ℕ → Option ℕ
or_else (Some k) o = Some k
or_else None o = o

-- in what stands behind so many symbols
abbrev pub behind : ℕ → Option ℕ → Option ℕ
behind n (Some k) = Some (n + k)
behind n None = None

abbrev pub size : G.Written → ℕ
size w = length (spelt w)

abbrev mutual
  -- of an expression that stands d deep
  pub deep_after : ℕ → G.Written → Option ℕ
  deep_after d (G.Number p n) = here d
  deep_after d (G.Words p s) = here d
  deep_after d (G.Lone p c) = here d
  deep_after d (G.Literal p n) = here d
  deep_after d (G.Variable n) = here d
  deep_after d (G.OfClass m p c) = here d
  deep_after d (G.OfBasic p w) = here d
  deep_after d (G.Elements p w q es r) = or_else (here d) (behind 2 (deep_among (suc d) es))
  deep_after d (G.If p c q a r e s) =
      or_else (here d) (or_else (behind 1 (deep_after (suc d) c)) (or_else (behind (2 + size c) (deep_after (suc d) a)) (behind (3 + size c + size a) (deep_after (suc d) e))))
  deep_after d (G.Round p w q) = or_else (here d) (behind 1 (deep_after (suc d) w))
  deep_after d (G.Let p n q k r e s w) =
      or_else (here d) (or_else (behind (4 + length (kind_spelt k)) (deep_after (suc d) e)) (behind (5 + length (kind_spelt k) + size e) (deep_after (suc d) w)))
  deep_after d (G.Unary p o w) = or_else (here d) (behind 1 (deep_after (suc d) w))
  deep_after d (G.Binary a p o w) = or_else (deep_after d a) (behind (1 + size a) (deep_after d w))
  deep_after d (G.Read a p n) = deep_after d a
  deep_after d (G.Call a arrow p n q es r) = or_else (deep_after d a) (behind (3 + size a) (deep_among (suc d) es))
  deep_after d (G.Loop a p n q x r e s) = or_else (deep_after d a) (behind (5 + size a) (deep_after (suc d) e))
  deep_after d (G.Iterate a p n q x r y s k t i u e v) =
      or_else (deep_after d a) (or_else (behind (8 + size a + length (kind_spelt k)) (deep_after (suc d) i)) (behind (9 + size a + length (kind_spelt k) + size i) (deep_after (suc d) e)))

  -- of arguments that stand d deep
  pub deep_among : ℕ → G.Arguments → Option ℕ
  deep_among d G.None = None
  deep_among d (G.One e) = deep_after d e
  deep_among d (G.More es p e) = or_else (deep_among d es) (behind (1 + length (G.listed es)) (deep_after d e))
