use Rattle.std.proofs.Common.{rules}
use Rattle.level.specs.Readers.{nothing}
use Rattle.level.proofs.Fills.{holds_none}
use Rattle.level.proofs.Indexing.{pieces_refused, sections_read, sections_indexed}
use Rattle.level.proofs.Turns.{handed}
use Rattle.level.proofs.index.Index.read.Goals as goal

pub returns-in_err-pieces : goal.returns-in_err-pieces
returns-in_err-pieces c =
    let p = handed _ c.from_residual-in_err-pieces.ensures.1 in
    let t = c.in_ok-kinds.ensures.transitions in
    let g = pieces_refused _ c.args.cursor.now.octets _ c.requires.whole
    _ _ c.in_ok-signals.ensures.read.gives c.in_ok-signals.ensures.table
    _ _ _ c.in_ok-kinds.ensures.read.gives c.in_ok-kinds.ensures.kinds (rw c.in_ok-signals.ensures.read.stays at t) _ _ c.in_err-pieces.ensures.read.gives _ p in
    record { read = record { gives = g; stays = search rules }; index = holds_none nothing _ _ _ _ (rw p at g) }

pub returns : goal.returns
returns c =
    let t = c.in_ok-kinds.ensures.transitions in
    record {
      read = record {
        gives = sections_read _ c.args.cursor.now.octets _ c.requires.whole
            _ _ c.in_ok-signals.ensures.read.gives c.in_ok-signals.ensures.table
            _ _ _ c.in_ok-kinds.ensures.read.gives c.in_ok-kinds.ensures.kinds (rw c.in_ok-signals.ensures.read.stays at t)
            _ _ c.in_ok-pieces.ensures.read.gives c.in_ok-pieces.ensures.table _ _ c.end.ensures.gives;
        stays = search rules;
      };
      index = sections_indexed _ c.args.cursor.now.octets _ c.requires.whole
          _ _ c.in_ok-signals.ensures.read.gives c.in_ok-signals.ensures.table
          _ _ _ c.in_ok-kinds.ensures.read.gives c.in_ok-kinds.ensures.kinds (rw c.in_ok-signals.ensures.read.stays at t)
          _ _ c.in_ok-pieces.ensures.read.gives c.in_ok-pieces.ensures.table;
    }
