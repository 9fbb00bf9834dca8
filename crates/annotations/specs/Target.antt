-- What is found at an annotation by its word: at the annotation itself, for a field of a type, and at its arguments.
use Rattle.std.specs.Prelude.{not, List, []}
use Rattle.rules.specs.Record.{Rec}
use Rattle.rules.specs.Rule.{Found, found_if}
use Rattle.rules.specs.Types.{is_varint_valid_type, is_zigzag_valid_type, is_delta_valid_type, is_limit_valid_type}
use Rattle.names.specs.declared.words.Word.{Word}
use Rattle.names.specs.declared.words.Word.TheVariants.{Varint, Zigzag, Delta, Limit, Deprecated, Doc, Reason, Blank}

module _ {N P : Type 0} where
  -- rules 14 to 17
  abbrev pub target_violations : Word → List (Rec N P) → P → List (Found P)
  target_violations Varint ty place = found_if 14 (not (is_varint_valid_type ty)) place
  target_violations Zigzag ty place = found_if 15 (not (is_zigzag_valid_type ty)) place
  target_violations Delta ty place = found_if 16 (not (is_delta_valid_type ty)) place
  target_violations Limit ty place = found_if 17 (not (is_limit_valid_type ty)) place
  target_violations Deprecated ty place = []
  target_violations Doc ty place = []
  target_violations Reason ty place = []
  target_violations Blank ty place = []
