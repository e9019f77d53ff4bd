-- The number of each refusal and of each cause of a stumble, and the byte of a move's transition. The places that a refusal carries
-- are its own fields.
use Rattle.std.specs.Prelude.{ℕ}
use Rattle.rules.specs.declared.moves.Act.{Act}
use Rattle.rules.specs.declared.moves.Act.TheVariants.{Transition, Discard}
use Rattle.rules.specs.declared.fault.Cause.{Cause}
use Rattle.rules.specs.declared.fault.Cause.TheVariants.{ZeroDivisor, Missing}
use Rattle.rules.specs.declared.fault.Why.{Why}
use Rattle.rules.specs.declared.fault.Why.TheVariants.{Unknown, MovesAlready, OtherState, NoMessage, Clash, Stumbles, Guard}
use Rattle.rules.specs.declared.fault.Why.TheVariants as why
use Rattle.rules.specs.declared.fault.StrikeFault.{StrikeFault}
use Rattle.rules.specs.declared.fault.StrikeFault.TheVariants.{ShortTrail, NotMoves, AtMove}
use Rattle.rules.specs.declared.fault.TapFault.{TapFault}
use Rattle.rules.specs.declared.fault.TapFault.TheVariants.{NoPiece, NoSignal, Unused}
use Rattle.rules.specs.declared.fault.TapFault.TheVariants as at_tap
use Rattle.rules.specs.declared.fault.CallFault.{CallFault}
use Rattle.rules.specs.declared.fault.CallFault.TheVariants.{Tap, Strike}

-- a discard has FF in a transition's place
abbrev pub act_byte : Act → ℕ
act_byte (Transition n) = n
act_byte Discard = 0xFF

abbrev pub cause_number : Cause → ℕ
cause_number ZeroDivisor = 1
cause_number Missing = 2

abbrev pub why_number : Why → ℕ
why_number Unknown = 32
why_number MovesAlready = 33
why_number OtherState = 34
why_number NoMessage = 35
why_number Clash = 36
why_number (Stumbles s) = 37
why_number Guard = 38
why_number why.TrayFull = 39

abbrev pub strike_number : StrikeFault → ℕ
strike_number ShortTrail = 30
strike_number NotMoves = 31
strike_number (AtMove f) = why_number f.why

abbrev pub tap_number : TapFault → ℕ
tap_number NoPiece = 20
tap_number NoSignal = 21
tap_number Unused = 22
tap_number at_tap.TrayFull = 23

abbrev pub call_number : CallFault → ℕ
call_number (Tap f) = tap_number f
call_number (Strike f) = strike_number f
