-- `report::lines::put_violations` meets its contract: a turn puts the line of one violation more.
use Rattle.std.proofs.Common.{◌++◌, ◌*◌, ap, sym, subst, ◌∙◌, arith}
use Rattle.std.proofs.lemmas.List.{take_rest}
use Rattle.rules.specs.Buffer.{violation_size, decode_violation}
use Rattle.rules.specs.Printed.{violation_line}
use Rattle.report.specs.Put.{Adds}
use Rattle.report.specs.Lines.{violation_lines}
use Rattle.report.proofs.LineTexts.{lines_more}
use Rattle.report.proofs.Puts.{adds_then}
use Rattle.report.proofs.lines.put_violations.Goals as goal

pub loop-i-preserved : goal.loop-i-preserved
loop-i-preserved c =
    let list = c.args.list.now in
    let before = violation_lines c.loop-i.i list in
    record {
      adds =
          subst
          (Adds c.args.text.now c.put_violation.new.text)
          (ap (λ v. before ++ violation_line v) (c.violation.ensures ∙ ap decode_violation (take_rest list (violation_size * c.loop-i.i)))
          ∙ sym (lines_more c.loop-i.i list))
          (adds_then c.loop-i.invariant.adds c.put_violation.ensures.adds);
      short = omega (arith, c.loop-i.invariant.short, c.put_violation.ensures.short);
    }
