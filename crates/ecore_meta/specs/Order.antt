-- Orders of the classes in which each stands after its supertypes, and the walk that finds one: along a path that climbs
-- from class to supertype, a class being done once all its supertypes are.
use Rattle.std.specs.Prelude.{◌≡◌, ℕ, ◌+◌, ◌-◌, ◌*◌, ◌<◌, ◌≤◌, Bool, true, false, cond, List, length, take, slice_index, slice_index_or, Contains, sum_by}
use Rattle.atl_base.specs.declared.numbers.ClassId.{ClassId}
use Rattle.ecore_meta.specs.declared.parts.Class.{Class}
use Rattle.ecore_meta.specs.Inheritance.{supers_of}

-- the class of a number
abbrev pub class_no : ℕ → ClassId
class_no n = record { 0 = n }

-- c names s as a supertype
abbrev pub HasSuper : List Class → ℕ → ℕ → Type 0
HasSuper classes c s = Contains (supers_of classes (class_no c)) (class_no s)

-- supertypes are classes
abbrev pub AreWithin : List Class → Type 0
AreWithin classes = (c s : ClassId) → Contains (supers_of classes c) s → s.0 < length classes

-- a path that climbs from class to supertype
pub record IsClimb (classes : List Class) (path : List ℕ) : Type 0 where
  pub within : (k : ℕ) → k < length path → slice_index path k < length classes
  pub rises : (k : ℕ) → k + 1 < length path → HasSuper classes (slice_index path k) (slice_index path (k + 1))

-- whether a class is done
abbrev pub is_done : List Bool → ℕ → Bool
is_done done c = slice_index_or done c false

-- The classes that are done are in the order, and each class there stands after its supertypes.
pub record IsOrder (classes : List Class) (done : List Bool) (order : List ℕ) : Type 0 where
  pub within : (k : ℕ) → k < length order → slice_index order k < length classes
  pub complete : (c : ℕ) → is_done done c ≡ true → Contains order c
  pub first : (k s : ℕ) → k < length order → HasSuper classes (slice_index order k) s → Contains (take k order) s

-- each class stands in the order, after its supertypes
pub record IsSupersFirst (classes : List Class) (order : List ℕ) : Type 0 where
  pub within : (k : ℕ) → k < length order → slice_index order k < length classes
  pub complete : (c : ℕ) → c < length classes → Contains order c
  pub first : (k s : ℕ) → k < length order → HasSuper classes (slice_index order k) s → Contains (take k order) s

-- A walk on its way: none on the path is done, and of each class the supertypes before its next one are.
pub record IsWalk (classes : List Class) (done : List Bool) (next path order : List ℕ) : Type 0 where
  pub dones : length done ≡ length classes
  pub nexts : length next ≡ length classes
  pub climb : IsClimb classes path
  pub pending : (k : ℕ) → k < length path → is_done done (slice_index path k) ≡ false
  pub passed : (c k : ℕ) (d : ClassId) → c < length classes → k < slice_index next c → is_done done (slice_index_or (supers_of classes (class_no c)) k d).0 ≡ true
  pub next_within : (c : ℕ) → c < length classes → slice_index next c ≤ length (supers_of classes (class_no c))
  pub ordered : IsOrder classes done order

-- What is left to do: a class that is not done is yet to be entered and to be left.
abbrev pub work_left : List Class → List Bool → List ℕ → ℕ
work_left classes done path = 2 * sum_by (λ b. cond b 0 1) done + (length classes - length path)

-- what a step keeps: what is done stays done, and the path has its first class until that is done
pub record GoesOn (done new_done : List Bool) (path new_path : List ℕ) : Type 0 where
  pub kept : (c : ℕ) → is_done done c ≡ true → is_done new_done c ≡ true
  pub begun : 0 < length new_path → slice_index new_path 0 ≡ slice_index path 0
  pub ended : length new_path ≡ 0 → is_done new_done (slice_index path 0) ≡ true
