use Rattle.std.proofs.Common.{◌≡◌, length, ap, ◌∙◌}
use Rattle.level.specs.Reading.{read_signal}
use Rattle.level.specs.Readers.{nothing}
use Rattle.level.specs.Sound.{most_signals}
use Rattle.level.proofs.Fills.{breaks, again, turn_at, holds_none, seen}
use Rattle.level.proofs.Limits.{limits}
use Rattle.level.proofs.Turns.{refused}
use Rattle.level.proofs.cursor.Cursor.signals.Goals as goal

pub returns-in_err-count : goal.returns-in_err-count
returns-in_err-count c =
    let s = c.loop-self.invariant.0 in
    let t = turn_at (λ n. n) 2 32 most_signals _ (length s.so_far) c.loop-self.self.rest.now (read_signal c.loop-self.self.rest.now) limits.signals (ap length s.known) _ _ c.in_err-count.ensures.gives in
    let g = breaks 0x01 2 most_signals (λ _. read_signal) _ _ c.loop-self.self.rest.now s (λ n. n) (seen c.loop-self-test.ensures) nothing _ _ t in
    record { read = refused c.from_residual.ensures.1 g (c.in_err-count.ensures.stays ∙ c.loop-self.invariant.1); table = holds_none nothing _ _ _ _ g }

pub loop-self-preserved : goal.loop-self-preserved
loop-self-preserved c =
    let s = c.loop-self.invariant.0 in
    let t = turn_at (λ n. n) 2 32 most_signals _ (length s.so_far) c.loop-self.self.rest.now (read_signal c.loop-self.self.rest.now) limits.signals (ap length s.known) _ _ c.in_ok-count.ensures.gives in
    let f = again 0x01 2 most_signals (λ _. read_signal) _ _ c.loop-self.self.rest.now s (λ n. n) (seen c.loop-self-test.ensures) (λ ss. c.push.new.self.counts.items ≡ ss) _ _ t
    (λ x h m e q. c.push.ensures ∙ rw (s.known, q)) in
    (f, c.in_ok-count.ensures.stays ∙ c.loop-self.invariant.1)
