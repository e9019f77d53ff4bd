use Rattle.std.proofs.Common.{length, ◌∙◌}
use Rattle.level.specs.Entries.{kind_entry}
use Rattle.level.proofs.Fills.{holds_none}
use Rattle.level.proofs.OneKind.{kind_broke, kind_made, kind_tabled}
use Rattle.level.proofs.Turns.{handed}
use Rattle.level.proofs.cursor.Cursor.kind.Goals as goal

pub returns-in_err-transitions : goal.returns-in_err-transitions
returns-in_err-transitions c =
    let p = handed _ c.from_residual-in_err-transitions.ensures.1 in
    let g = kind_broke c.args.signals.now.counts.items (length c.args.transitions.now.items) (length c.args.kinds.now.entries.items) c.args.self.now.rest.now c.in_ok-shape.shape _ c.in_ok-shape.ensures.gives _ _ c.in_err-transitions.ensures.read.gives _ p in
    record { read = record { gives = g; stays = c.in_err-transitions.ensures.read.stays ∙ c.in_ok-shape.ensures.stays }; table = holds_none kind_entry _ _ _ _ (rw p at g) }

pub returns : goal.returns
returns c =
    let signals = c.args.signals.now.counts.items in
    let used = length c.args.transitions.now.items in
    let n = length c.args.kinds.now.entries.items in
    let t = c.in_ok-transitions.ensures.table in
    record {
      read = record {
        gives = kind_made signals used n c.args.self.now.rest.now c.in_ok-shape.shape _ c.in_ok-shape.ensures.gives _ c.in_ok-transitions.ensures.read.gives;
        stays = c.in_ok-transitions.ensures.read.stays ∙ c.in_ok-shape.ensures.stays;
      };
      table = kind_tabled signals used n c.args.self.now.rest.now c.in_ok-shape.shape _ c.in_ok-shape.ensures.gives _ c.in_ok-transitions.ensures.read.gives
          c.args.self.now.total c.args.self.now.within _ c.len.ensures.value _ _ (rw c.in_ok-shape.ensures.stays at t);
    }
