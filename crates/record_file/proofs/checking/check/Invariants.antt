use Rattle.std.proofs.Common.{ℕ, ◌<◌}
use Rattle.record_file.specs.Faults.{SoundRecord}
use Rattle.record_file.specs.Tallies.{TallyBefore}
use Rattle.record_file.proofs.checking.check.Given as goal

-- the records so far are not at fault, and the tally is theirs
abbrev pub invariant-loop-number : goal.invariant-loop-number
invariant-loop-number l = TallyBefore l.file l.number l.tally × ((k : ℕ) → k < l.number → SoundRecord l.file k)
