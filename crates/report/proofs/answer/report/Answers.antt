-- `report::answer::report` meets its contract: the lines stand at the start, and what lies behind them is kept.
use Rattle.std.proofs.Common.{◌≤◌, length, arith, ap, ◌∙◌}
use Rattle.report.specs.Put.{put}
use Rattle.report.specs.Lines.{lines_of}
use Rattle.report.proofs.Puts.{put-place, put_whole, put-within}
use Rattle.report.proofs.answer.report.Goals as goal

pub returns : goal.returns
returns c =
    let lines = lines_of c.args.values c.args.list.now in
    let told = c.put_lines.ensures.adds.state ∙ ap (put lines) c.new-text.ensures.state in
    let room : c.put_lines.new.text.len ≤ length c.args.out.now
    = omega (arith, c.put_lines.ensures.short, ap (λ s. s.1) c.new-text.ensures.state) in
    (put-place lines _ _ _ told, put_whole lines _ _ _ told room, put-within lines _ _ _ told room)
