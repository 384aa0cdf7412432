use Rattle.std.proofs.Common.{refl, inr, rules}
use Rattle.record_file.specs.Rules.{HasUnknownLetter}
use Rattle.record_file.specs.declared.fault.Rule.TheVariants.{UnknownLetter}
use Rattle.record_file.proofs.record.Record.read.Goals as goal

pub returns-in_default : goal.returns-in_default
returns-in_default c =
    let unknown : HasUnknownLetter c.args.file.now c.args.number = search rules in
    record {
      reads = inr unknown;
      accepted = λ sound there. absurd (sound UnknownLetter c.args.number 0 (record { there = there; broken = unknown }, refl));
    }
