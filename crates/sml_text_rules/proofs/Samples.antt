-- Samples of what is printed, by computing.
use Rattle.std.proofs.Common.{refl}
use Rattle.sml_objects.specs.Appearance.{stands}
use Rattle.sml_objects.specs.Canonical.{index_of}
use Rattle.sml_objects.specs.Types.{replace_type, replace_types, variables_after, variables_after_all, index_among}
use Rattle.sml_texts.specs.Text.{say, variable, joined, bracketed, show_head, levels, initial_text, initial_among, code_text, meaning, detail_text, fault_text, warning_text}
use Rattle.sml_module_rules.specs.Lines.{lines, structure_lines}
use Rattle.sml_core_rules.specs.Functions.{are_parameters}
use Rattle.sml_text_rules.specs.Samples.{TextSamples, same}
use Rattle.sml_text_rules.specs.Texts.{type_pieces, types_pieces, spell}

pub text-samples : TextSamples
unfolding same stands index_of replace_type replace_types variables_after variables_after_all index_among say variable joined bracketed show_head levels initial_text initial_among code_text meaning detail_text fault_text lines structure_lines are_parameters type_pieces types_pieces spell warning_text
text-samples = record {
  structure = refl;
  datatype = refl;
  shown = refl;
  functor = refl;
  signature = refl;
  path = refl;
  refusal = refl;
  warning = refl;
  unwarned = refl;
}
