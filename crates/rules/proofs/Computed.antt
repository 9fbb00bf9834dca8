-- What a proof unfolds to compute with the definitions: to unfold `computed` is to unfold every definition of a call's answer.
use mathlib.Core.List.{flatten, flat_map}
use Rattle.rules.specs.Words.{any_of, select, front, rest, items, look_up, same_bytes, number, bytes}
use Rattle.rules.specs.Kind
use Rattle.rules.specs.Record.{sub_in, fits_in, name_in, ordinal_span_in, value_in, decode, pieces, records}
use Rattle.rules.specs.Context.{word_from, valid_field_name, declared, context_of, behind, chain_end}
use Rattle.rules.specs.Grammar.{done, opened, part_step, type_step, field_step, field_list_step, enum_step, union_step, context_step, step}
use Rattle.rules.specs.Refusals.{own_fault, record_step, first_fault, endless_chain, records_fault, refusal}
use Rattle.rules.specs.Rule.{rule_row}
use Rattle.rules.specs.Types.{is_invalid_end, is_invalid_map_key, own_type_violations, types_violations}
use Rattle.rules.specs.Annotations.{annotation_violations, combined_violations, duplicate_annotations, annotations_violations}
use Rattle.rules.specs.Conditions.{operand_violations, own_condition_violations, condition_violations}
use Rattle.rules.specs.Bodies.{member_violations, items_violations, field_violations, field_item_violations, field_list_violations, enum_violations, flags_violations, union_violations, newtype_violations, body_violations, violations_of}
use Rattle.rules.specs.Answer.{found_in, full_list, answer}
use Rattle.rules.specs.Buffer.{encode, written, buffer_after}
use Rattle.rules.specs.Printed.{digits, violation_line, counts_line, refusal_line, printed}

unfoldable pub computed : Unit {0}
unfolding flatten flat_map any_of select front rest items look_up same_bytes number bytes Kind.parts_of sub_in fits_in name_in ordinal_span_in value_in decode pieces records word_from valid_field_name declared context_of behind chain_end done opened part_step type_step field_step field_list_step enum_step union_step context_step step own_fault record_step first_fault endless_chain records_fault refusal rule_row is_invalid_end is_invalid_map_key own_type_violations types_violations annotation_violations combined_violations duplicate_annotations annotations_violations operand_violations own_condition_violations condition_violations member_violations items_violations field_violations field_item_violations field_list_violations enum_violations flags_violations union_violations newtype_violations body_violations violations_of found_in full_list answer encode written buffer_after digits violation_line counts_line refusal_line printed
computed = tt
