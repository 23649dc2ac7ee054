-- Files and a sink in memory whose calls fail as planned. A call that fails changes no content.
use Rattle.std.specs.Prelude.{◌≡◌, ℕ, Bool, ◌||◌, nat_lt, List, length, if◌then◌else◌, is_none, IsOk, Result, Ok, Err, Vec, refl}
use Rattle.std.specs.Coded.{Coded, code_by, coded×, coded_list, coded_ℕ}
use Rattle.std.specs.declared.alloc.Global.{Global}
use Rattle.atl_outside.specs.declared.files.FileFault.{FileFault}
use Rattle.atl_outside.specs.declared.files.FileFault.TheVariants.{Failed, TooBig, Memory}
use Rattle.atl_outside.specs.Held.{Held, content_of, bytes_at, held_code}
use Rattle.atl_outside.specs.Plan.{Plan, fails_next}

pub record MemoryFiles : Type 0 where
  pub held : Held
  pub plan : Plan

pub record MemorySink : Type 0 where
  pub taken : List ℕ
  pub plan : Plan

-- a read fails where that is planned, and where the path is not held
abbrev pub read_fails : MemoryFiles → List ℕ → Bool
read_fails files path = fails_next files.plan || is_none (content_of files.held path)

-- what a read answers, where memory lasts
abbrev pub read_answer : MemoryFiles → List ℕ → ℕ → Result (List ℕ) FileFault
read_answer files path limit = if read_fails files path then Err Failed else (if nat_lt limit (length (bytes_at files.held path)) then Err TooBig else Ok (bytes_at files.held path))

-- the result is that answer, where Memory may stand for an Ok
abbrev pub GivesOrMemory : Result (Vec ℕ Global) FileFault → Result (List ℕ) FileFault → Type 0
GivesOrMemory (Ok bytes) answer = answer ≡ Ok bytes.items
GivesOrMemory (Err Failed) answer = answer ≡ Err Failed
GivesOrMemory (Err TooBig) answer = answer ≡ Err TooBig
GivesOrMemory (Err Memory) answer = IsOk answer

abbrev pub plan_code : Coded Plan
plan_code = code_by (List ℕ × (ℕ × ℕ)) (coded× (coded_list coded_ℕ) (coded× coded_ℕ coded_ℕ)) (λ p. (p.fails, (p.calls, p.faults))) (λ p. record { fails = p.0; calls = p.1.0; faults = p.1.1 }) (λ _. refl)

abbrev pub files_code : Coded MemoryFiles
files_code = code_by (Held × Plan) (coded× held_code plan_code) (λ f. (f.held, f.plan)) (λ p. record { held = p.0; plan = p.1 }) (λ _. refl)
