-- What the annotation's word tells is found at the annotation, and then at its arguments.
use Rattle.std.proofs.Common.{sym, ◌∙◌}
use Rattle.annotations.proofs.OneAnnotation.{no_word, word_found, no_arguments}
use Rattle.annotations.proofs.annotation.check_annotation.Goals as goal

pub returns-in_default : goal.returns-in_default
returns-in_default c = no_word _ _ _ _ _ _ _ (sym c.in_default.is ∙ c.word.ensures)

pub returns-in-Limit : goal.returns-in-Limit
returns-in-Limit c =
    word_found _ _ _ _ _ _ c.in-Some.word c.args.violations.now c.check_target.new.violations _ (sym c.in-Some.is ∙ c.word.ensures) c.check_target.ensures
    (rw c.in-Limit.is c.check_limit_value.ensures)

pub returns-in-Deprecated : goal.returns-in-Deprecated
returns-in-Deprecated c =
    word_found _ _ _ _ _ _ c.in-Some.word c.args.violations.now c.check_target.new.violations _ (sym c.in-Some.is ∙ c.word.ensures) c.check_target.ensures
    (rw c.in-Deprecated.is c.check_deprecated_has_reason.ensures)

pub returns-in_default-word : goal.returns-in_default-word
returns-in_default-word c =
    word_found _ _ _ _ _ _ c.in-Some.word c.args.violations.now c.check_target.new.violations _ (sym c.in-Some.is ∙ c.word.ensures) c.check_target.ensures
    (no_arguments _ _ _ _ _ _ c.in-Some.word _ c.in_default-word.not-Limit c.in_default-word.not-Deprecated)
