-- A refusal that is answered is the one that reading gives.
use Rattle.std.proofs.Common.{◌≡◌, refl, sym, subst}
use Rattle.atl_base.specs.declared.place.Place.{Place}
use Rattle.doc_text.specs.Faults.{Fault, BadEncoding, BadByte, Expected, MismatchedEnd, TwiceAttribute, Entity, Prefix, TooDeep, Trailing, Unsupported}
use Rattle.doc_text.specs.Machine.{End, Refused}
use Rattle.doc_text.specs.Answers.{refusal_of, IsRefusal}
use Rattle.doc_text.specs.Stopping.{refused}
use Rattle.doc_text.specs.declared.refusal.DocRefusal.{DocRefusal}

itself : (e : Fault) (p : Place) → IsRefusal (Refused (e, p)) (refusal_of e p)
itself BadEncoding p = refl
itself BadByte p = refl
itself Expected p = refl
itself MismatchedEnd p = refl
itself TwiceAttribute p = refl
itself Entity p = refl
itself Prefix p = refl
itself TooDeep p = refl
itself Trailing p = refl
itself Unsupported p = refl

pub is_refusal : (end : End) (f : Fault × Place) (r : DocRefusal) → end ≡ Refused f → r ≡ refused f → IsRefusal end r
is_refusal end f r e q =
    let P : DocRefusal → Type 0 = λ x. IsRefusal (Refused f) x in
    let Q : End → Type 0 = λ x. IsRefusal x r in
    subst Q (sym e) (subst P (sym q) (itself f.0 f.1))
