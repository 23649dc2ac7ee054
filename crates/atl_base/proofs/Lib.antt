pub mod XmlTexts
