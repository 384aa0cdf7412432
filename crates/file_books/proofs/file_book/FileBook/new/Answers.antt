use Rattle.std.proofs.Common.{refl}
use Rattle.file_books.proofs.ReadOff.{read_off}
use Rattle.file_books.proofs.file_book.FileBook.new.Goals as goal

pub returns-in-Ok : goal.returns-in-Ok
returns-in-Ok g c =
    let sound = c.in-Ok.ensures.accepts.0 refl in
    let related = c.read-in-Ok.ensures sound in
    record {
      accepted = λ _. read_off g.R.Relation.Forbids sound c.read.result _ c.read.ensures.count c.read.ensures.sets related;
      refused = λ unsound. absurd (unsound sound);
    }
