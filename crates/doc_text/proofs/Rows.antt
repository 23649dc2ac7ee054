-- Some texts and what they give, computed.
use Rattle.doc_text.specs.Raw.{start, called, Node, Also, Nil, Words}
use Rattle.std.proofs.Common.{◌≡◌, ℕ, List, [], refl, arith, ◌∷◌, ◌++◌}
use Rattle.std.proofs.lemmas.Str.{encode_ascii}
use Rattle.std.specs.Prelude.{true, false, codes}
use Rattle.doc_text.specs.Faults.{Fault, BadByte, Expected, MismatchedEnd, TwiceAttribute, Entity, Prefix, Trailing, Unsupported}
use Rattle.doc_text.specs.Characters.{placed, end_place, place}
use Rattle.doc_text.specs.Machine.{End, Read, Refused, read}

abbrev given : List ℕ → End
given cs = read true (end_place 1 1 cs) (placed false 1 1 cs)

abbrev at : Fault → ℕ → End
at e column = Refused (e, place 1 column)

doctype : given (codes "<!DOCTYPE a><a/>") ≡ at Unsupported 1
doctype = refl

no_doctype : given (codes "<!DOCX") ≡ at Expected 3
no_doctype = refl

cdata : given (codes "<a><![CDATA[x]]></a>") ≡ at Unsupported 4
cdata = refl

brackets : given (codes "<a>]]>") ≡ at Expected 6
brackets = refl

reference : given (codes "<a>&xy<") ≡ at Expected 7
reference = refl

number : given (codes "<a>&#0;</a>") ≡ at BadByte 4
number = refl

unended_tag : given (codes "<a b='' b='' $") ≡ at Expected 14
unended_tag = refl

mismatch : given (codes "<abc></ab") ≡ at MismatchedEnd 8
mismatch = simp (encode_ascii 97 (omega arith), encode_ascii 98 (omega arith), encode_ascii 99 (omega arith)) refl

trailing : given (codes "<a/> <!DOCTYPE") ≡ at Trailing 6
trailing = refl

comment_cut : given (codes "<a/><!-- ") ≡ at Expected 10
comment_cut = refl

second_colon : given (codes "<a:b:c/>") ≡ at Expected 5
second_colon = refl

undeclared : given (codes "<p:a/>") ≡ at Prefix 2
undeclared = simp (encode_ascii 97 (omega arith), encode_ascii 112 (omega arith)) refl

entity : given (codes "<a>&xy;</a>") ≡ at Entity 4
entity = simp (encode_ascii 97 (omega arith), encode_ascii 120 (omega arith), encode_ascii 121 (omega arith)) refl

twice : given (codes "<a b='' b=''/>") ≡ at TwiceAttribute 9
twice = simp (encode_ascii 97 (omega arith), encode_ascii 98 (omega arith)) refl

twice_declared : given (codes "<a xmlns:p='u' xmlns:p='v'/>") ≡ at TwiceAttribute 16
twice_declared = simp (encode_ascii 97 (omega arith), encode_ascii 120 (omega arith), encode_ascii 109 (omega arith), encode_ascii 108 (omega arith), encode_ascii 110 (omega arith), encode_ascii 115 (omega arith), encode_ascii 112 (omega arith), encode_ascii 117 (omega arith), encode_ascii 118 (omega arith)) refl

twice_by_space : given (codes "<a xmlns:p='u' xmlns:q='u' p:x='' q:x=''/>") ≡ at TwiceAttribute 35
twice_by_space = simp (encode_ascii 97 (omega arith), encode_ascii 120 (omega arith), encode_ascii 109 (omega arith), encode_ascii 108 (omega arith), encode_ascii 110 (omega arith), encode_ascii 115 (omega arith), encode_ascii 112 (omega arith), encode_ascii 113 (omega arith), encode_ascii 117 (omega arith)) refl

-- neighbouring text is one child, and an entity joins it
text : given (codes "<a>b<!---->&lt;</a>") ≡ Read (Node (start (place 1 1) (called (place 1 2) [] (codes "a")) []) (Also Nil (Words (codes "b<"))))
text = simp (encode_ascii 97 (omega arith), encode_ascii 98 (omega arith), encode_ascii 108 (omega arith), encode_ascii 116 (omega arith), encode_ascii 60 (omega arith)) refl

-- a carriage return and its line feed are one blank in a value, and the next line begins behind both
returns : read true (end_place 1 1 (codes "<a b='" ++ (13 ∷ 10 ∷ codes "'/>x"))) (placed false 1 1 (codes "<a b='" ++ (13 ∷ 10 ∷ codes "'/>x"))) ≡ Refused (Trailing, place 2 4)
returns = simp (encode_ascii 97 (omega arith), encode_ascii 98 (omega arith)) refl
