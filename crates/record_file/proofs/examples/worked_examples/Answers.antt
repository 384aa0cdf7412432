use Rattle.std.proofs.Common.{refl}
use Rattle.record_file.proofs.FilesByHand.{each_example_holds}
use Rattle.record_file.proofs.examples.worked_examples.Goals as goal

pub returns : goal.returns
returns c = record { count = refl; holds = each_example_holds }
