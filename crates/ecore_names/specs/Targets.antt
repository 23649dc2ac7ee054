-- What the code's look-ups stand for.
use Rattle.std.specs.Prelude.{ℕ, List}
use Rattle.xmi_text.specs.declared.references.Path.{Path as CodePath}
use Rattle.ecore_names.specs.declared.target.Stand.{Stand as CodeStand}
use Rattle.ecore_names.specs.declared.target.Target.{Target as CodeTarget}
use Rattle.ecore_names.specs.declared.target.Target.TheVariants.{Class, Enum, Data}
use Rattle.ecore_names.specs.declared.own.FeaturePath.{FeaturePath}
use Rattle.ecore_names.specs.declared.own.Own.{Own as CodeOwn}
use Rattle.ecore_names.specs.declared.own.Own.TheVariants.{Kept as CodeKept, Skips as CodeSkips}
use Rattle.ecore_outline.specs.Entries.{entry_of}
use Rattle.xmi_text.specs.Fragments.{Path, path}
use Rattle.ecore_names.specs.References.{Own, Kept, Skips, Stand, Target, OfClass, OfEnum, OfData}

abbrev pub path_of : CodePath → Path
path_of p = path p.holder.now p.name.now

abbrev pub stand_of : CodeStand → Stand
stand_of s = record { packages = s.packages; holder = s.holder.now; classes = s.classes; enums = s.enums }

abbrev pub target_of : CodeTarget → Target
target_of (Class c) = OfClass c
target_of (Enum e) = OfEnum e
target_of (Data d) = OfData d.now

abbrev pub feature_path : FeaturePath → Path × List ℕ
feature_path p = (path_of p.path, p.feature.now)

abbrev pub own_of : CodeOwn → Own
own_of (CodeKept f e) = Kept f (entry_of e)
own_of CodeSkips = Skips
