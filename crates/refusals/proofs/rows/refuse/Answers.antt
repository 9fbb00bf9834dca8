-- The rows are asked in turn, and the first that is met is the answer.
use Rattle.std.proofs.lemmas.Result.{err_from_is_err_and}
use Rattle.rules.proofs.AcceptedSheet.{short-sheet}
use Rattle.names.proofs.Shortened.{same-itself}
use Rattle.refusals.proofs.InTurn.{wrong-length, long-names, row_1, row_2, rows_3_to_8, row_9, ended_found}
use Rattle.refusals.proofs.LeftTables.{left-itself, left-by-row-9}
use Rattle.refusals.proofs.RefusalFilled.{passed_lasting}
use Rattle.refusals.proofs.rows.refuse.Goals as goal

pub returns-then-is_wrong_length : goal.returns-then-is_wrong_length
returns-then-is_wrong_length c =
    let wrong = wrong-length c.args.sheet.now c.args.names.now _ c.new-lengths.ensures _ _ c.is_wrong_length.ensures c.if-is_wrong_length.true in
    record { told = rw c.refused_at.ensures (row_1 _ _ _ wrong); left = left-itself _ _ _; ends = same-itself _ }

pub returns-then-is_long_names : goal.returns-then-is_long_names
returns-then-is_long_names c =
    let right = wrong-length c.args.sheet.now c.args.names.now _ c.new-lengths.ensures _ _ c.is_wrong_length.ensures c.if-is_wrong_length.false in
    let long = long-names c.args.sheet.now c.args.names.now _ c.new-lengths.ensures _ _ c.is_long_names.ensures c.if-is_long_names.true in
    record {
      told = rw c.refused_at-then-is_long_names.ensures (row_2 _ _ _ right long);
      left = left-itself _ _ _;
      ends = same-itself _;
    }

pub returns-in_err-end : goal.returns-in_err-end
returns-in_err-end c =
    let p = err_from_is_err_and c.from_residual.result c.from_residual.ensures.1 in
    let right = wrong-length c.args.sheet.now c.args.names.now _ c.new-lengths.ensures _ _ c.is_wrong_length.ensures c.if-is_wrong_length.false in
    let short = long-names c.args.sheet.now c.args.names.now _ c.new-lengths.ensures _ _ c.is_long_names.ensures c.if-is_long_names.false in
    rw (p.1, p.2)
    (record {
      told = rows_3_to_8 _ _ _ right short c.first_fault.result c.first_fault.ensures.0 _ c.in_err-end.was;
      left = left-itself _ _ _;
      ends = same-itself _;
    })

pub endless-requires : goal.endless-requires
endless-requires c =
    let end = c.in_ok-end.was in
    let right = wrong-length c.args.sheet.now c.args.names.now _ c.new-lengths.ensures _ _ c.is_wrong_length.ensures c.if-is_wrong_length.false in (
      short-sheet c.args.sheet.now right,
      ended_found c.first_fault.result _ _ c.first_fault.ensures.1 end,
      passed_lasting _ _ _ c.requires right c.first_fault.result c.first_fault.ensures.0 _ end,
    )

pub returns : goal.returns
returns c =
    let found = c.endless.ensures in
    let right = wrong-length c.args.sheet.now c.args.names.now _ c.new-lengths.ensures _ _ c.is_wrong_length.ensures c.if-is_wrong_length.false in
    let short = long-names c.args.sheet.now c.args.names.now _ c.new-lengths.ensures _ _ c.is_long_names.ensures c.if-is_long_names.false in
    record {
      told = row_9 _ _ _ right short c.first_fault.result c.first_fault.ensures.0 _ _ c.in_ok-end.was found.told;
      left = left-by-row-9 _ _ _ _ found.told found.kept;
      ends = found.kept.same;
    }
