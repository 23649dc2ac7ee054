-- Elements by their roles.
use Rattle.std.proofs.Common.{◌≡◌}
use Rattle.std.specs.Prelude.{true}
use Rattle.xmi_text.specs.Markup.{Site}
use Rattle.ecore_outline.specs.declared.outline.Role.{Role}
use Rattle.ecore_outline.specs.declared.outline.Role.TheVariants.{Package, Class, Enum, Literal, Attribute, Reference, TypeOf}
use Rattle.ecore_outline.specs.Outline.{Entry, entry, is_package_role, is_class_role, is_enum_role, is_feature_role}
use Rattle.ecore_outline.specs.Enumerations.{is_literal_role}
use Rattle.ecore_rows.specs.Rows.{is_type_role}
use Rattle.ecore_faults.specs.Faults.{is_reference_role}
use Rattle.xmi_text.proofs.Tests.{false-true}

module _ (P : Entry → Type 0) where
  pub packages : ((s : Site) → P (entry Package s)) → (e : Entry) → is_package_role e.role ≡ true → P e
  packages f e h = by e.role h
    where
      by : (r : Role) → is_package_role r ≡ true → P (entry r e.site)
      by Package h = f e.site
      by r h = absurd (false-true h)

  pub classes : ((s : Site) → P (entry Class s)) → (e : Entry) → is_class_role e.role ≡ true → P e
  classes f e h = by e.role h
    where
      by : (r : Role) → is_class_role r ≡ true → P (entry r e.site)
      by Class h = f e.site
      by r h = absurd (false-true h)

  pub enums : ((s : Site) → P (entry Enum s)) → (e : Entry) → is_enum_role e.role ≡ true → P e
  enums f e h = by e.role h
    where
      by : (r : Role) → is_enum_role r ≡ true → P (entry r e.site)
      by Enum h = f e.site
      by r h = absurd (false-true h)

  pub literals : ((s : Site) → P (entry Literal s)) → (e : Entry) → is_literal_role e.role ≡ true → P e
  literals f e h = by e.role h
    where
      by : (r : Role) → is_literal_role r ≡ true → P (entry r e.site)
      by Literal h = f e.site
      by r h = absurd (false-true h)

  pub features : ((s : Site) → P (entry Attribute s)) → ((s : Site) → P (entry Reference s)) → (e : Entry) → is_feature_role e.role ≡ true → P e
  features f g e h = by e.role h
    where
      by : (r : Role) → is_feature_role r ≡ true → P (entry r e.site)
      by Attribute h = f e.site
      by Reference h = g e.site
      by r h = absurd (false-true h)

  pub references : ((s : Site) → P (entry Reference s)) → (e : Entry) → is_reference_role e.role ≡ true → P e
  references f e h = by e.role h
    where
      by : (r : Role) → is_reference_role r ≡ true → P (entry r e.site)
      by Reference h = f e.site
      by r h = absurd (false-true h)

  pub types : ((s : Site) → P (entry TypeOf s)) → (e : Entry) → is_type_role e.role ≡ true → P e
  types f e h = by e.role h
    where
      by : (r : Role) → is_type_role r ≡ true → P (entry r e.site)
      by TypeOf h = f e.site
      by r h = absurd (false-true h)
