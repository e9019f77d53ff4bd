use Rattle.std.proofs.Common.{refl, length, sym, ◌∙◌, rules}
use Rattle.level.proofs.Listing.{counts_table}
use Rattle.level.proofs.OnePiece.{kind_refused, starts_refused, piece_made}
use Rattle.level.proofs.Turns.{handed, refused}
use Rattle.level.proofs.cursor.Cursor.piece.Goals as goal

pub returns-in_err-kind : goal.returns-in_err-kind
returns-in_err-kind c =
    let g = kind_refused _ (length c.args.pieces.now.items) c.args.self.now.rest.now _ c.in_ok-opens.ensures.gives _ (c.len.ensures.value ∙ sym (counts_table c.args.kinds.now.entries.items)) _ c.in_err-kind.ensures _ refl in
    refused c.from_residual-in_err-kind.ensures.1 g c.in_ok-opens.ensures.stays

pub returns-in_err-starts : goal.returns-in_err-starts
returns-in_err-starts c =
    let p = handed _ c.from_residual-in_err-starts.ensures.1 in
    let g = starts_refused _ (length c.args.pieces.now.items) c.args.self.now.rest.now _ c.in_ok-opens.ensures.gives _ (c.len.ensures.value ∙ sym (counts_table c.args.kinds.now.entries.items))
    _ c.in_ok-kind.ensures _ c.numbers-numbers.ensures.value _ c.advance.ensures.rest _ _ c.in_err-starts.ensures.gives _ p in
    record { gives = g; stays = search rules }

pub returns : goal.returns
returns c =
    let g = piece_made _ (length c.args.pieces.now.items) c.args.self.now.rest.now _ c.in_ok-opens.ensures.gives _ (c.len.ensures.value ∙ sym (counts_table c.args.kinds.now.entries.items))
    _ c.in_ok-kind.ensures _ c.numbers-numbers.ensures.value _ c.advance.ensures.rest _ _ c.in_ok-starts.ensures.gives in
    record { gives = g; stays = search rules }
