-- How a run ends, from what its steps have shown.
use Rattle.std.proofs.Common.{◌≡◌, ◌≢◌, ◌≤◌, ◌<◌, ℕ, List, [], length, Option, Some, None, Result, Ok, Err, true, false, IfOk, IfSome, ap, sym, subst, ◌∙◌, refl, arith}
use Rattle.std.specs.Prelude.{IsErr, map}
use Rattle.std.specs.declared.alloc.AllocError.{AllocError}
use Rattle.atl_outside.specs.declared.files.FileFault.{FileFault}
use Rattle.atl_outside.specs.declared.files.FileFault.TheVariants.{Failed, TooBig, Memory}
use Rattle.atl_outside.specs.Held.{Held, bytes_at, SameElsewhere}
use Rattle.atl_outside.specs.Rose.{Rose}
use Rattle.atl_cli.specs.declared.one_rule.OneRule.{OneRule}
use Rattle.atl_cli.specs.declared.source.SourceElement.{SourceElement}
use Rattle.atl_cli.specs.declared.status.Status.{Status}
use Rattle.atl_cli.specs.declared.status.Status.TheVariants as status
use Rattle.atl_cli.specs.declared.status.Size.TheVariants as size
use Rattle.atl_cli.specs.declared.status.Form.TheVariants as form
use Rattle.atl_cli.specs.Flat.{flat, item, text_of}
use Rattle.atl_cli.specs.Transform.{HasSpace, ArePaths, HasModule, HasPaths, HasElements, Judges, OtherModule, OtherNames, OtherSource, ManyObjects, Copies, Ended, IsWritten, object_limit}
use Rattle.atl_cli.specs.Outcome.{Ends, Writes, file_limit}
use Rattle.atl_cli.specs.OneRule.{IsModule, is_name, is_reserved}
use Rattle.atl_cli.specs.Plain.{is_plain_name}
use Rattle.atl_cli.specs.Source.{IsSource}
use Rattle.atl_cli.specs.Words.{IsRequest}
use Rattle.atl_cli.specs.declared.words.Pair.{Pair}
use Rattle.atl_cli.specs.declared.words.Request.{Request}
use Rattle.std.proofs.lemmas.Bool.{and_parts}

pub IfSome-map : {A : Type 0} {P Q : A → Type 0} (o : Option A) → ((x : A) → P x → Q x) → IfSome o P → IfSome o Q
IfSome-map (Some x) f p = f x p
IfSome-map None f p = p

pub IfSome-both : {A : Type 0} {P Q R : A → Type 0} (o : Option A) → ((x : A) → P x → Q x → R x) → IfSome o P → IfSome o Q → IfSome o R
IfSome-both (Some x) f p q = f x p q
IfSome-both None f p q = p

pub IfOk-map : {T E : Type 0} {P Q : T → Type 0} (r : Result T E) → ((x : T) → P x → Q x) → IfOk r P → IfOk r Q
IfOk-map (Ok x) f p = f x p
IfOk-map (Err e) f p = p

-- what a read's fault makes of the call
pub after_fault : (P : Status → Type 0) (fault : FileFault) (path : List ℕ) (r : Result Status AllocError) →
    (fault ≡ Failed → IfOk r (λ s. s ≡ status.ReadFault path)) → (fault ≡ TooBig → IfOk r (λ s. s ≡ status.TooLarge size.File)) → (fault ≡ Memory → IsErr r) →
    (fault ≡ Failed → P (status.ReadFault path)) → (fault ≡ TooBig → P (status.TooLarge size.File)) → IfOk r P
after_fault P Failed path r a b m p q = IfOk-map r (λ s e. subst P (sym e) (p refl)) (a refl)
after_fault P TooBig path r a b m p q = IfOk-map r (λ s e. subst P (sym e) (q refl)) (b refl)
after_fault P Memory path (Ok s) a b m p q = let h = m refl in cc
after_fault P Memory path (Err e) a b m p q = tt

pub held_elements : (words : List (List ℕ)) (held : Held) (m : OneRule) (target source bytes : List ℕ) (es : List SourceElement) → HasPaths words held m target source → bytes ≡ bytes_at held source →
    length bytes ≤ file_limit → IsSource m.source_metamodel bytes es → HasElements words held m target es
held_elements words held m target source bytes es paths e short elements =
    record { at = source; paths = paths; short = subst (λ b. length b ≤ file_limit) e short; elements = subst (λ b. IsSource m.source_metamodel b es) e elements }

-- a count that rose since later rose since earlier
pub Rose-earlier : (low mid high : ℕ) → low ≤ mid → Rose mid high → Rose low high
Rose-earlier low mid high a b = omega arith

-- the write ends the run
pub written_ends : (words : List (List ℕ)) (path text : List ℕ) (before after : Option Held) (low mid high : ℕ) (s : Status) → path ≢ [] → low ≤ mid →
    IfSome before (λ held. Judges words held (Writes path text)) → IsWritten path text before after mid high s → Ended words before after low high s
written_ends words path text before after low mid high status.Ok some le j w = (path, text, j, w)
written_ends words path text before after low mid high status.Memory some le j w = absurd w
written_ends words path text before after low mid high (status.ReadFault at) some le j w = absurd w
written_ends words path text before after low mid high (status.WriteFault at) some le j w = (
  Rose-earlier low mid high le w.0,
  (λ e. some (sym w.1 ∙ e)),
  subst (λ p. SameElsewhere p before after) (sym w.1) w.2,
  IfSome-map before (λ held g. (text, subst (λ p. Judges words held (Writes p text)) (sym w.1) g)) j,
)
written_ends words path text before after low mid high (status.Usage why) some le j w = absurd w
written_ends words path text before after low mid high (status.Syntax what at) some le j w = absurd w
written_ends words path text before after low mid high (status.Meta at kind value place) some le j w = absurd w
written_ends words path text before after low mid high (status.Model at kind value place) some le j w = absurd w
written_ends words path text before after low mid high (status.TooLarge what) some le j w = absurd w
written_ends words path text before after low mid high (status.NotYet what) some le j w = absurd w

-- the run that began later began with these counts
pub Ended-earlier : (words : List (List ℕ)) (before middle after : Option Held) (low mid high : ℕ) (s : Status) → middle ≡ before → low ≤ mid → Ended words middle after mid high s → Ended words before after low high s
Ended-earlier words before middle after low mid high s same le e = more s (subst (λ o. Ended words o after mid high s) same e)
  where
    more : (s : Status) → Ended words before after mid high s → Ended words before after low high s
    more status.Ok e = e
    more status.Memory e = e
    more (status.ReadFault path) e = (Rose-earlier low mid high le e.0, e.1, e.2)
    more (status.WriteFault path) e = (Rose-earlier low mid high le e.0, e.1, e.2, e.3)
    more (status.Usage why) e = e
    more (status.Syntax what at) e = e
    more (status.Meta path kind value at) e = e
    more (status.Model path kind value at) e = e
    more (status.TooLarge what) e = e
    more (status.NotYet what) e = e

-- what was read of a source, and what the reader answered of it
abbrev pub NoElements : OneRule → List ℕ → Type 0
NoElements m bytes = (es : List SourceElement) → IsSource m.source_metamodel bytes es → ⊥

abbrev pub KeepsElements : OneRule → List ℕ → List (Option (List ℕ)) → ℕ → Type 0
KeepsElements m bytes values count = (es : List SourceElement) × IsSource m.source_metamodel bytes es × (map (item m) values ≡ flat m es) × (count ≡ length es)

pub other_source : (words : List (List ℕ)) (before : Option Held) (m : OneRule) (target source bytes : List ℕ) → IfSome before (λ held. HasPaths words held m target source) → IfSome before (λ held. bytes ≡ bytes_at held source) →
    length bytes ≤ file_limit → NoElements m bytes → IfSome before (λ held. Judges words held (Ends (status.NotYet form.Model)))
other_source words before m target source bytes paths is short none =
    IfSome-both before (λ held p e. OtherSource m target source p (subst (λ b. length b ≤ file_limit) e short) (subst (NoElements m) e none)) paths is

pub many_objects : (words : List (List ℕ)) (before : Option Held) (m : OneRule) (target source bytes : List ℕ) (values : List (Option (List ℕ))) (count : ℕ) → IfSome before (λ held. HasPaths words held m target source) →
    IfSome before (λ held. bytes ≡ bytes_at held source) → length bytes ≤ file_limit → KeepsElements m bytes values count → object_limit < count → IfSome before (λ held. Judges words held (Ends (status.TooLarge size.Objects)))
many_objects words before m target source bytes values count paths is short kept more =
    let several : object_limit < length kept.0 = omega (arith, more, kept.3) in
    IfSome-both before (λ held p e. ManyObjects m target kept.0 (held_elements words held m target source bytes kept.0 p e short kept.1) several) paths is

pub copied : (words : List (List ℕ)) (before : Option Held) (m : OneRule) (target source bytes : List ℕ) (values : List (Option (List ℕ))) (count : ℕ) (text : List ℕ) → IfSome before (λ held. HasPaths words held m target source) →
    IfSome before (λ held. bytes ≡ bytes_at held source) → length bytes ≤ file_limit → KeepsElements m bytes values count → count ≤ object_limit → text ≡ text_of m (map (item m) values) → IfSome before (λ held. Judges words held (Writes target text))
copied words before m target source bytes values count text paths is short kept most t =
    let few : length kept.0 ≤ object_limit = omega (arith, most, kept.3) in
    IfSome-both before (λ held p e. subst (λ x. Judges words held (Writes target x)) (sym (t ∙ ap (text_of m) kept.2)) (Copies m target kept.0 (held_elements words held m target source bytes kept.0 p e short kept.1) few)) paths is

pub IfSome-always : {A : Type 0} {P : A → Type 0} (o : Option A) → ((x : A) → P x) → IfSome o P
IfSome-always (Some x) f = f x
IfSome-always None f = tt

-- the source's metamodel of a module of the form names a namespace other than XMI's
pub space_of : (bytes : List ℕ) (m : OneRule) → IsModule bytes m → HasSpace m
space_of bytes m is =
    let names = is.rule.names.names in
    let p = and_parts (is_name m.module) _ names in
    let q = and_parts (is_name m.target) _ p.1 in
    let r = and_parts (is_name m.target_metamodel) _ q.1 in
    let s = and_parts (is_name m.source) _ r.1 in
    let t = and_parts (is_name m.source_metamodel) _ s.1 in
    record {
      name = (and_parts (is_plain_name m.source_metamodel) _ t.0).0;
      other = λ e. let both : true ≡ false = sym (ap is_reserved e) ∙ is.rule.names.source_space in cc;
    }

abbrev pub NoModule : List ℕ → Type 0
NoModule bytes = (m : OneRule) → IsModule bytes m → ⊥

abbrev pub NoPaths : OneRule → List Pair → Type 0
NoPaths m pairs = (target source : List ℕ) → ArePaths m pairs target source → ⊥

pub other_module : (words : List (List ℕ)) (before : Option Held) (r : Request) (bytes : List ℕ) → IsRequest words r → IfSome before (λ held. bytes ≡ bytes_at held r.module) → length bytes ≤ file_limit → NoModule bytes →
    IfSome before (λ held. Judges words held (Ends (status.NotYet form.Module)))
other_module words before r bytes asked is short none =
    IfSome-map before (λ held e. OtherModule r asked (subst (λ b. length b ≤ file_limit) e short) (subst NoModule e none)) is

pub has_module : (words : List (List ℕ)) (before : Option Held) (r : Request) (m : OneRule) (bytes : List ℕ) → IsRequest words r → IfSome before (λ held. bytes ≡ bytes_at held r.module) → length bytes ≤ file_limit → IsModule bytes m →
    IfSome before (λ held. HasModule words held r m)
has_module words before r m bytes asked is short rule =
    IfSome-map before (λ held e. record { request = asked; short = subst (λ b. length b ≤ file_limit) e short; is = subst (λ b. IsModule b m) e rule }) is

pub other_names : (words : List (List ℕ)) (before : Option Held) (r : Request) (m : OneRule) → IfSome before (λ held. HasModule words held r m) → NoPaths m r.pairs → IfSome before (λ held. Judges words held (Ends (status.NotYet form.Words)))
other_names words before r m has none = IfSome-map before (λ held h. OtherNames r m h none) has

pub has_paths : (words : List (List ℕ)) (before : Option Held) (r : Request) (m : OneRule) (target source : List ℕ) → IfSome before (λ held. HasModule words held r m) → ArePaths m r.pairs target source → IfSome before (λ held. HasPaths words held m target source)
has_paths words before r m target source has paths = IfSome-map before (λ held h. record { of = r; opened = h; paths = paths }) has
