-- What the index in memory holds: the four lists of its tables.
use Rattle.level.specs.declared.index.Index.{Index}
use Rattle.level.specs.Entries as entries

abbrev pub contents : Index → entries.Index
contents x = record { signals = x.signals.counts.items; kinds = x.kinds.entries.items; transitions = x.transitions.items; pieces = x.pieces.items }
