-- What is written, with its places left aside: each is the same. Two trees are the same up to places where they are those
-- of something written that is the same with its places left aside.
use Rattle.ocl_parse.specs.Grammar.{Written, Number, Words, Lone, Literal, Variable, OfClass, OfBasic, Elements, If, Round, Let, Unary, Binary, Read, Call, Loop, Iterate, Arguments, None, One, More, Kind, Basic, Class, Coll}
use Rattle.module_print.specs.Writing.{here, name_here}
use Rattle.module_grammar.specs.Grammar.{Models, OneModel, MoreModels, Params, OneParam, MoreParams, Bracketed, NoParams, SomeParams, Context, NoContext, InContext, Signature, Attribute, Operation, WrittenHelper, Define, Words as ModifierWords, NoWords, MoreWords, Parent, NoParent, Extends, Sources, OneSource, MoreSources, Guard, NoGuard, SomeGuard, Locals, NoLocals, MoreLocals, Using, NoUsing, SomeUsing, Binds, OneBind, MoreBinds, BindList, NoList, EmptyList, SomeBinds, Targets, OneTarget, MoreTargets, To, NoTo, SomeTo, WrittenStat, Eval, Assign, If as Branch, IfElse, For, Stats, NoStats, MoreStats, Block, NoBlock, SomeBlock, Start, NoStart, Entry, End, WrittenRule, Matched, Called, WrittenItem, Help, Make, Items, NoItems, MoreItems, WrittenModule, Composed}

abbrev pub placed_kind : Kind → Kind
placed_kind (Basic p w) = Basic here w
placed_kind (Class m p c) = Class (name_here m) here (name_here c)
placed_kind (Coll p w q k r) = Coll here w here (placed_kind k) here

abbrev mutual
  pub placed : Written → Written
  placed (Number p n) = Number here n
  placed (Words p s) = Words here s
  placed (Lone p c) = Lone here c
  placed (Literal p n) = Literal here (name_here n)
  placed (Variable n) = Variable (name_here n)
  placed (OfClass m p c) = OfClass (name_here m) here (name_here c)
  placed (OfBasic p w) = OfBasic here w
  placed (Elements p w q es r) = Elements here w here (all_placed es) here
  placed (If p c q a r e s) = If here (placed c) here (placed a) here (placed e) here
  placed (Round p w q) = Round here (placed w) here
  placed (Let p n q k r e s w) = Let here (name_here n) here (placed_kind k) here (placed e) here (placed w)
  placed (Unary p o w) = Unary here o (placed w)
  placed (Binary a p o w) = Binary (placed a) here o (placed w)
  placed (Read a p n) = Read (placed a) here (name_here n)
  placed (Call a arrow p n q es r) = Call (placed a) arrow here (name_here n) here (all_placed es) here
  placed (Loop a p n q x r e s) = Loop (placed a) here (name_here n) here (name_here x) here (placed e) here
  placed (Iterate a p n q x r y s k t i u e v) =
      Iterate (placed a) here (name_here n) here (name_here x) here (name_here y) here (placed_kind k) here (placed i) here (placed e) here

  pub all_placed : Arguments → Arguments
  all_placed None = None
  all_placed (One e) = One (placed e)
  all_placed (More es p e) = More (all_placed es) here (placed e)

abbrev pub placed_models : Models → Models
placed_models (OneModel m p n) = OneModel (name_here m) here (name_here n)
placed_models (MoreModels ms c m p n) = MoreModels (placed_models ms) here (name_here m) here (name_here n)

abbrev pub placed_params : Params → Params
placed_params (OneParam n p k) = OneParam (name_here n) here (placed_kind k)
placed_params (MoreParams ps c n p k) = MoreParams (placed_params ps) here (name_here n) here (placed_kind k)

abbrev pub placed_bracketed : Bracketed → Bracketed
placed_bracketed (NoParams p q) = NoParams here here
placed_bracketed (SomeParams p ps q) = SomeParams here (placed_params ps) here

abbrev pub placed_context : Context → Context
placed_context NoContext = NoContext
placed_context (InContext p k) = InContext here (placed_kind k)

abbrev pub placed_signature : Signature → Signature
placed_signature Attribute = Attribute
placed_signature (Operation ps) = Operation (placed_bracketed ps)

abbrev pub placed_helper : WrittenHelper → WrittenHelper
placed_helper (Define p c q r n s t k u e v) = Define here (placed_context c) here here (name_here n) (placed_signature s) here (placed_kind k) here (placed e) here

abbrev pub placed_words : ModifierWords → ModifierWords
placed_words NoWords = NoWords
placed_words (MoreWords ws p w) = MoreWords (placed_words ws) here w

abbrev pub placed_parent : Parent → Parent
placed_parent NoParent = NoParent
placed_parent (Extends p n) = Extends here (name_here n)

abbrev pub placed_sources : Sources → Sources
placed_sources (OneSource n p m q c) = OneSource (name_here n) here (name_here m) here (name_here c)
placed_sources (MoreSources ss r n p m q c) = MoreSources (placed_sources ss) here (name_here n) here (name_here m) here (name_here c)

abbrev pub placed_guard : Guard → Guard
placed_guard NoGuard = NoGuard
placed_guard (SomeGuard p e q) = SomeGuard here (placed e) here

abbrev pub placed_locals : Locals → Locals
placed_locals NoLocals = NoLocals
placed_locals (MoreLocals ls n p k q e r) = MoreLocals (placed_locals ls) (name_here n) here (placed_kind k) here (placed e) here

abbrev pub placed_using : Using → Using
placed_using NoUsing = NoUsing
placed_using (SomeUsing p q ls r) = SomeUsing here here (placed_locals ls) here

abbrev pub placed_binds : Binds → Binds
placed_binds (OneBind n p e) = OneBind (name_here n) here (placed e)
placed_binds (MoreBinds bs c n p e) = MoreBinds (placed_binds bs) here (name_here n) here (placed e)

abbrev pub placed_list : BindList → BindList
placed_list NoList = NoList
placed_list (EmptyList p q) = EmptyList here here
placed_list (SomeBinds p bs q) = SomeBinds here (placed_binds bs) here

abbrev pub placed_targets : Targets → Targets
placed_targets (OneTarget n p m q c bs) = OneTarget (name_here n) here (name_here m) here (name_here c) (placed_list bs)
placed_targets (MoreTargets ts r n p m q c bs) = MoreTargets (placed_targets ts) here (name_here n) here (name_here m) here (name_here c) (placed_list bs)

abbrev pub placed_to : To → To
placed_to NoTo = NoTo
placed_to (SomeTo p ts) = SomeTo here (placed_targets ts)

abbrev mutual
  pub placed_stat : WrittenStat → WrittenStat
  placed_stat (Eval e p) = Eval (placed e) here
  placed_stat (Assign e p n q v r) = Assign (placed e) here (name_here n) here (placed v) here
  placed_stat (Branch p q e r s ss t) = Branch here here (placed e) here here (placed_stats ss) here
  placed_stat (IfElse p q e r s ss t u v zs w) = IfElse here here (placed e) here here (placed_stats ss) here here here (placed_stats zs) here
  placed_stat (For p q n r e s t ss u) = For here here (name_here n) here (placed e) here here (placed_stats ss) here

  pub placed_stats : Stats → Stats
  placed_stats NoStats = NoStats
  placed_stats (MoreStats ss s) = MoreStats (placed_stats ss) (placed_stat s)

abbrev pub placed_block : Block → Block
placed_block NoBlock = NoBlock
placed_block (SomeBlock p q ss r) = SomeBlock here here (placed_stats ss) here

abbrev pub placed_start : Start → Start
placed_start NoStart = NoStart
placed_start (Entry p) = Entry here
placed_start (End p) = End here

abbrev pub placed_rule : WrittenRule → WrittenRule
placed_rule (Matched ws p n x q r ss g u t y s) =
    Matched (placed_words ws) here (name_here n) (placed_parent x) here here (placed_sources ss) (placed_guard g) (placed_using u) (placed_to t) (placed_block y) here
placed_rule (Called x p n ps q u t y s) = Called (placed_start x) here (name_here n) (placed_bracketed ps) here (placed_using u) (placed_to t) (placed_block y) here

abbrev pub placed_item : WrittenItem → WrittenItem
placed_item (Help h) = Help (placed_helper h)
placed_item (Make r) = Make (placed_rule r)

abbrev pub placed_items : Items → Items
placed_items NoItems = NoItems
placed_items (MoreItems is i) = MoreItems (placed_items is) (placed_item i)

abbrev pub placed_module : WrittenModule → WrittenModule
placed_module (Composed p n q r ts s ss t is) = Composed here (name_here n) here here (placed_models ts) here (placed_models ss) here (placed_items is)
