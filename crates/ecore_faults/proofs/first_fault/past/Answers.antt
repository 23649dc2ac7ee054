use Rattle.ecore_outline.specs.Outline.{is_class_role, is_enum_role, is_feature_role}
use Rattle.ecore_outline.specs.Entries.{entry_of}
use Rattle.ecore_faults.proofs.Places.{next_count, next_last}
use Rattle.ecore_faults.proofs.first_fault.past.Goals as goal

pub returns : goal.returns
returns c =
    let e = entry_of c.args.entry.now in
    λ file part h. record {
      classes = next_count is_class_role part e c.args.counts.now.classes _ c.is_class.result c.is_class.ensures c.one_more.ensures h.classes;
      enums = next_count is_enum_role part e c.args.counts.now.enums _ c.is_enum.result c.is_enum.ensures c.one_more-2.ensures h.enums;
      features = next_count is_feature_role part e c.args.counts.now.features _ c.is_feature.result c.is_feature.ensures c.one_more-3.ensures h.features;
      last = next_last file part e c.args.counts.now.last _ c.last_past.ensures h.last;
    }
