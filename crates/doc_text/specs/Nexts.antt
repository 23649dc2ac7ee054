-- Where the code stands in reading, as the states of the machine, and what it moves to, as the machine's steps.
use Rattle.std.specs.Prelude.{drop, codes}
use Rattle.doc_text.specs.Raw.{Tree, Node}
use Rattle.doc_text.specs.RawTrees.{trees_of, open_of, stack_of}
use Rattle.doc_text.specs.Form.{answer}
use Rattle.doc_text.specs.State.{After, Answer, Answering, Around, Asked, BangDash, Banged, Bearer, Before, Beginning, Begun, Breaks, Citation, Citing, Closing, Coloned, DeclEnd, Declaring, Encoding, Ending, Epilog, Equalling, Equating, First, Goes, InProlog, InText, InValue, Inside, Localing, Naming, Numbered, Numbering, OfAttribute, OfEnd, OfStart, Opening, Quoting, RemarkDash, RemarkEnd, Remarking, Shutting, Spaced, State, Stated, Step, Stops, TargetEnd, Targeting, Telling, Valued, Valuing, Within, Wording}
use Rattle.doc_text.specs.Steps.{word_of}
use Rattle.doc_text.specs.declared.reading.«open».Open.{Open as SomeOpen}
use Rattle.doc_text.specs.declared.reading.next.Around.{Around as SomeAround}
use Rattle.doc_text.specs.declared.reading.next.Around.TheVariants as A
use Rattle.doc_text.specs.declared.reading.next.Bearer.{Bearer as SomeBearer}
use Rattle.doc_text.specs.declared.reading.next.Bearer.TheVariants as B
use Rattle.doc_text.specs.declared.reading.next.Citing.{Citing as SomeCiting}
use Rattle.doc_text.specs.declared.reading.next.Citing.TheVariants as R
use Rattle.doc_text.specs.declared.reading.next.Content.{Content}
use Rattle.doc_text.specs.declared.reading.next.Content.TheVariants as C
use Rattle.doc_text.specs.declared.reading.next.Markup.{Markup}
use Rattle.doc_text.specs.declared.reading.next.Markup.TheVariants as M
use Rattle.doc_text.specs.declared.reading.next.Declaration.{Declaration}
use Rattle.doc_text.specs.declared.reading.next.Declaration.TheVariants as D
use Rattle.doc_text.specs.declared.reading.next.Naming.{Naming as SomeNaming}
use Rattle.doc_text.specs.declared.reading.next.Naming.TheVariants as N
use Rattle.doc_text.specs.declared.reading.next.Tag.{Tag}
use Rattle.doc_text.specs.declared.reading.next.Tag.TheVariants as T
use Rattle.doc_text.specs.declared.reading.next.Next.{Next}
use Rattle.doc_text.specs.declared.reading.next.Next.TheVariants as X
use Rattle.doc_text.specs.declared.reading.next.Move.{Move}
use Rattle.doc_text.specs.declared.reading.next.Move.TheVariants as V

abbrev pub root_of : SomeOpen → Tree
root_of f = Node f.tag (trees_of f.children)

abbrev pub around_of : SomeAround → Around
around_of A.First = First
around_of A.Before = Before
around_of (A.Within f fs) = Within (open_of f) (stack_of fs)
around_of (A.After f) = After (root_of f)

abbrev pub bearer_of : SomeBearer → Bearer
bearer_of (B.OfStart fs p) = OfStart (stack_of fs) p
bearer_of (B.OfAttribute fs t) = OfAttribute (stack_of fs) t
bearer_of (B.OfEnd f fs) = OfEnd (open_of f) (stack_of fs)

abbrev pub citing_of : SomeCiting → Citing
citing_of (R.InText f fs) = InText (open_of f) (stack_of fs)
citing_of (R.InValue v) = InValue v.double (stack_of v.outer) v.tag v.name v.value

abbrev pub content_of : Content → State
content_of C.Beginning = Beginning
content_of C.InProlog = InProlog
content_of (C.Inside n f fs) = Inside n (open_of f) (stack_of fs)
content_of (C.Epilog f) = Epilog (root_of f)

abbrev pub markup_of : Markup → State
markup_of (M.Begun a p) = Begun (around_of a) p
markup_of (M.Banged a p) = Banged (around_of a) p
markup_of (M.BangDash a p) = BangDash (around_of a) p
markup_of (M.Remarking a) = Remarking (around_of a)
markup_of (M.RemarkDash a) = RemarkDash (around_of a)
markup_of (M.RemarkEnd a) = RemarkEnd (around_of a)
markup_of (M.Asked a) = Asked (around_of a)
markup_of (M.Targeting a n) = Targeting (around_of a) n
markup_of (M.TargetEnd a) = TargetEnd (around_of a)
markup_of (M.Telling asked a) = Telling asked (around_of a)

abbrev pub declaration_of : Declaration → State
declaration_of (D.Declaring s) = Declaring s
declaration_of (D.Wording c n) = Wording c (drop n (word_of c))
declaration_of (D.Equating c) = Equating c
declaration_of (D.Quoting c) = Quoting c
declaration_of (D.Numbering d n) = Numbering d (drop n (codes "1."))
declaration_of (D.Numbered d) = Numbered d
declaration_of (D.Encoding d o v) = Encoding d o v
declaration_of (D.Answer d) = Answer d
declaration_of (D.Answering d agreed n) = Answering d (drop n (answer agreed))
declaration_of (D.Stated s) = Stated s
declaration_of D.DeclEnd = DeclEnd

abbrev pub naming_of : SomeNaming → State
naming_of (N.Plain b p n) = Naming (bearer_of b) p n
naming_of (N.Coloned b p n) = Coloned (bearer_of b) p n
naming_of (N.Local b p n m) = Localing (bearer_of b) p n m

abbrev pub tag_of : Tag → State
tag_of (T.Spaced fs t) = Spaced (stack_of fs) t
tag_of (T.Valued fs t) = Valued (stack_of fs) t
tag_of (T.Shutting fs t) = Shutting (stack_of fs) t
tag_of (T.Equalling fs t n) = Equalling (stack_of fs) t n
tag_of (T.Opening fs t n) = Opening (stack_of fs) t n
tag_of (T.Valuing v) = Valuing v.double (stack_of v.outer) v.tag v.name v.value
tag_of (T.Ending f fs) = Ending (open_of f) (stack_of fs)
tag_of (T.Closing f fs) = Closing (open_of f) (stack_of fs)

abbrev pub state_of : Next → State
state_of (X.InContent c) = content_of c
state_of (X.InMarkup m) = markup_of m
state_of (X.InDeclaration d) = declaration_of d
state_of (X.InName n) = naming_of n
state_of (X.InTag t) = tag_of t
state_of (X.InReference c p x) = Citation (citing_of c) p x

abbrev pub step_of : Move → Step
step_of (V.Goes next) = Goes (state_of next)
step_of V.Stops = Stops
step_of (V.Breaks e p) = Breaks e p
