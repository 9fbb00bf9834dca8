-- `report::text::Text::put` meets its contract: the bytes stand between those before them and those behind them.
use Rattle.std.proofs.Common.{refl}
use Rattle.report.proofs.Puts.{put_between}
use Rattle.report.proofs.text.Text.put.Goals as goal

pub returns : goal.returns
returns c =
    let self = c.args.self.now in
    let state = put_between c.args.bytes.now c.copy_from_slice.new.self self.buffer.now self.len c.copy_from_slice.ensures.after c.requires in
    record {
      reference = refl;
      state = state.0;
      place = refl;
      room = state.1;
    }
