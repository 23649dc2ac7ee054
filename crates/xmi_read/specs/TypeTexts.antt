-- What a type gives is text that a document may hold.
use Rattle.atl_base.specs.XmlText.{IsXmlText}
use Rattle.xmi_text.specs.Markup.{or_empty}
use Rattle.ecore_rows.specs.Rows.{Typed, ByData}

-- the default that a type gives
abbrev pub HasTextDefault : Typed → Type 0
HasTextDefault (ByData t) = IsXmlText (or_empty t.default)
HasTextDefault t = Unit {0}
